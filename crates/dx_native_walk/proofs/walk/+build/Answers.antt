use Rattle.std.proofs.Common.{◌≡◌, ℕ, Option, Some, None, sym, ap, ◌∙◌, subst, rules, arith, w32, FitsSigned}
use Rattle.std.specs.Prelude.{slice_get, slice_index_or}
use Rattle.std.proofs.lemmas.Int.{to_z-of_z}
use Rattle.std.proofs.lemmas.Result.{err_from_is_err_and}
use Rattle.dx_base.specs.Object.{Tree}
use Rattle.dx_base.specs.ObjectLimits.{unplaced}
use Rattle.dx_native_grammar.specs.Meaning.{tree_at, named_at}
use Rattle.dx_native_meaning.proofs.OneLevel.{no_levels, no_clause}
use Rattle.dx_native_walk.specs.Answer.{KeptAt, IsKnown}
use Rattle.dx_native_walk.specs.Memo.{Kept, tree_in, with_tree}
use Rattle.dx_native_walk.proofs.Steps.{object_exit}
use Rattle.dx_native_walk.proofs.Keeping.{hit, within, within_but, known_with, waiting_array}
use Rattle.dx_native_walk.proofs.Bodies.{one_more, array_builds, parts_fail, object_builds}
use Rattle.dx_native_walk.proofs.Lists.{parts_exit, one_part, all_parts, attributes_exit, one_attribute, all_attributes}
use Rattle.dx_native_walk.proofs.walk.+build.Goals as goal

pub build-returns-in_default-clause-built : goal.build-returns-in_default-clause-built
build-returns-in_default-clause-built t c = no_clause c.args.clauses.now c.args.i c.args.calls c.in_default.ensures

pub build-kept-requires : goal.build-kept-requires
build-kept-requires t c = (within c.args.clauses.now c.args.memo.now c.args.i c.in-Some.ensures.0 c.requires c.in-Some.ensures.1).0

pub build-returns-in-Some-kept-clause-built : goal.build-returns-in-Some-kept-clause-built
build-returns-in-Some-kept-clause-built t c =
    let waiting = slice_index_or c.args.memo.now.arrays c.args.i None in
    hit c.args.clauses.now c.args.i c.args.calls c.in-Some-kept.object.value waiting (subst (λ (o : Option Tree). KeptAt c.args.clauses.now c.args.i o waiting) (c.kept.ensures ∙ ap tree_in c.in-Some-kept.is) (c.requires.each c.args.i)) c.built.result c.built.ensures

pub build-returns-then-calls-eq0-clause-built : goal.build-returns-then-calls-eq0-clause-built
build-returns-then-calls-eq0-clause-built t c = no_levels c.args.clauses.now c.args.i c.args.calls c.if-calls-eq0.true

pub build-returns-in_err-object_of-clause-built : goal.build-returns-in_err-object_of-clause-built
build-returns-in_err-object_of-clause-built t c =
    let p = err_from_is_err_and c.from_residual.result c.from_residual.ensures.1 in
    object_exit _ _ _ _ _ p.1 p.2 c.in_err-object_of.ensures.built (one_more c.args.clauses.now c.args.i c.args.calls (omega arith))

pub build-set-requires-clause-trees : goal.build-set-requires-clause-trees
build-set-requires-clause-trees t c = (within_but c.args.clauses.now c.object_of.new.memo c.args.i c.in-Some.ensures.0 c.in_ok-object_of.ensures.others c.in-Some.ensures.1).0

pub build-set-requires-clause-arrays : goal.build-set-requires-clause-arrays
build-set-requires-clause-arrays t c = (within_but c.args.clauses.now c.object_of.new.memo c.args.i c.in-Some.ensures.0 c.in_ok-object_of.ensures.others c.in-Some.ensures.1).1

meant : (t : ℕ) (c : goal.build-After-set t) → tree_at c.args.clauses.now c.args.calls c.args.i ≡ Some c.in_ok-object.object.value
meant t c = one_more c.args.clauses.now c.args.i c.args.calls (omega arith) ∙ c.in_ok-object_of.ensures.built ∙ ap (λ (t : Tree). Some t) (cc c.in_ok-object.ensures.ok)

pub build-returns-clause-built : goal.build-returns-clause-built
build-returns-clause-built t c = meant t c

pub build-returns-clause-known : goal.build-returns-clause-known
build-returns-clause-known t c =
    let same : c.in_ok-clone.field-0.value ≡ c.in_ok-object.object.value = cc c.in_ok-clone.ensures.cases in
    let others = c.in_ok-object_of.ensures.others in
    let w = within_but c.args.clauses.now c.object_of.new.memo c.args.i c.in-Some.ensures.0 others c.in-Some.ensures.1 in
    subst (λ (k : Kept). IsKnown c.args.clauses.now k) (sym (c.set.ensures ∙ ap (with_tree c.object_of.new.memo c.args.i) same))
    (known_with c.args.clauses.now c.object_of.new.memo c.args.i c.args.calls c.in_ok-object.object.value others w.0 w.1 (meant t c))

pub parts-returns-in_err-object-clause-built : goal.parts-returns-in_err-object-clause-built
parts-returns-in_err-object-clause-built t c =
    let p = err_from_is_err_and c.from_residual.result c.from_residual.ensures.1 in
    parts_exit (named_at c.args.clauses.now (tree_at c.args.clauses.now c.args.calls)) c.args.lines.now c.loop-line.line-index c.line-item.result c.loop-line.parts _ _ _ c.loop-line-test.true c.line-item.is c.loop-line.invariant.same p.1 p.2 c.in_err-object.ensures.built

pub parts-loop-line-preserved : goal.parts-loop-line-preserved
parts-loop-line-preserved t c = record {
  same = one_part (named_at c.args.clauses.now (tree_at c.args.clauses.now c.args.calls)) c.args.lines.now c.loop-line.line-index c.line-item.result c.in_ok-name.name _ c.loop-line.parts _ c.in_ok-object.object.value c.loop-line-test.true c.line-item.is c.loop-line.invariant.same c.in_ok-object.ensures.built c.in_ok-name.ensures (let f : FitsSigned w32 c.line-item.result.position = search rules in to_z-of_z w32 _ f) c.in_ok-push.ensures.ok;
  known = c.in_ok-object.ensures.known;
}

pub parts-returns-clause-built : goal.parts-returns-clause-built
parts-returns-clause-built t c = all_parts (named_at c.args.clauses.now (tree_at c.args.clauses.now c.args.calls)) c.args.lines.now c.loop-line.line-index c.loop-line.parts c.loop-line-test.false c.loop-line.invariant.same

pub attributes-returns-in_err-object-clause-built : goal.attributes-returns-in_err-object-clause-built
attributes-returns-in_err-object-clause-built t c =
    let p = err_from_is_err_and c.from_residual.result c.from_residual.ensures.1 in
    attributes_exit c.args.calls (named_at c.args.clauses.now (tree_at c.args.clauses.now c.args.calls)) c.args.lines.now c.loop-line.line-index c.line-item.result c.loop-line.parts _ _ _ c.loop-line-test.true c.line-item.is c.loop-line.invariant.same p.1 p.2 c.in_err-object.ensures.built

pub attributes-loop-line-preserved : goal.attributes-loop-line-preserved
attributes-loop-line-preserved t c = record {
  same = one_attribute c.args.calls (named_at c.args.clauses.now (tree_at c.args.clauses.now c.args.calls)) c.args.lines.now c.loop-line.line-index c.line-item.result c.in_ok-name.name c.loop-line.parts _ c.in_ok-object.object.value c.loop-line-test.true c.line-item.is c.loop-line.invariant.same c.in_ok-object.ensures.built (c.in_ok-name.ensures ∙ c.bytes.ensures) c.in_ok-push.ensures.ok;
  known = c.in_ok-object.ensures.known;
}

pub attributes-returns-clause-built : goal.attributes-returns-clause-built
attributes-returns-clause-built t c = all_attributes c.args.calls (named_at c.args.clauses.now (tree_at c.args.clauses.now c.args.calls)) c.args.lines.now c.loop-line.line-index c.loop-line.parts c.loop-line-test.false c.loop-line.invariant.same

pub body_object-returns-in-Some-clause-built : goal.body_object-returns-in-Some-clause-built
body_object-returns-in-Some-clause-built t c =
    array_builds (named_at c.args.clauses.now (tree_at c.args.clauses.now c.args.calls)) (slice_get c.args.clauses.now c.args.i) c.in-Some.array (unplaced c.args.attributes) c.array_object.result
    (waiting_array c.args.clauses.now c.args.memo.now c.args.i c.in-Some.array c.requires.known (c.take_array.ensures.array ∙ c.in-Some.is)) c.array_object.ensures

pub body_object-returns-in_err-parts-in-Parts-clause-built : goal.body_object-returns-in_err-parts-in-Parts-clause-built
body_object-returns-in_err-parts-in-Parts-clause-built t c =
    let p = err_from_is_err_and c.from_residual.result c.from_residual.ensures.1 in
    parts_fail c.args.clauses.now c.args.i c.args.clause.now c.requires.outline (named_at c.args.clauses.now (tree_at c.args.clauses.now c.args.calls)) (unplaced c.args.attributes) c.from_residual.result
    c.in-Parts.class c.in-Parts.lines c.as_slice.result.now _ _ c.in-Parts.is c.as_slice.ensures p.1 p.2 c.in_err-parts-in-Parts.ensures.built

pub object_of-returns-clause-built : goal.object_of-returns-clause-built
object_of-returns-clause-built t c =
    object_builds c.args.clauses.now c.args.i c.args.clause.now c.requires.outline c.args.calls (named_at c.args.clauses.now (tree_at c.args.clauses.now c.args.calls)) c.as_slice-lines.result.now c.body_object.result c.as_slice-lines.ensures
    c.in_ok-others.others c.in_ok-others.ensures.built c.body_object.ensures.built
