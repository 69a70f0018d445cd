use Rattle.std.proofs.Common.{◌≡◌, List, ◌∷◌, [], length, ap, sym, ◌∙◌, subst, arith, refl, Ok, Err}
use Rattle.std.specs.Prelude.{Result, OnErr}
use Rattle.std.specs.Vec.Iter.{into_iter_items}
use Rattle.std.proofs.lemmas.Result.{err_from_is_err_and}
use Rattle.dx_io.proofs.Faults.{behind, passed_on, well}
use Rattle.dx_ending.specs.Putting.{export_of, exports_of}
use Rattle.dx_ending.specs.declared.puts.Put.{Put}
use Rattle.dx_ending.proofs.PutLaws.{ArePutSoFar, so_far_none, so_far_more, so_far_failed, so_far_all}
use Rattle.dx_ending.proofs.puts.make_puts.Goals as goal

on_err : {T E : Type 0} (r : Result T E) (P : Type 0) → P → OnErr r P
on_err (Ok x) P p = tt
on_err (Err e) P p = p

pub loop-put-init : goal.loop-put-init
loop-put-init g c =
    let gives = c.into_iter-put-iterator.ensures.into_iter_gives in
    let room = c.requires.room in
    let same = ap length gives.0 in
    record {
      can = tt;
      finite = tt;
      len = (let lens = gives.1 in let whole = c.args.puts.ok.0 in omega (arith, lens, whole, same));
      room = omega (arith, room, same);
      so_far = subst (λ ps. ArePutSoFar (g.X.Exports.puts c.args.exports.now) (g.X.Exports.puts c.args.exports.now) c.args.written.now.files c.args.written.now.files (exports_of c.args.puts.items) (exports_of ps)) (sym gives.0)
          (so_far_none (g.X.Exports.puts c.args.exports.now) c.args.written.now.files (exports_of c.args.puts.items));
      faults = refl;
    }

pub make_put-requires : goal.make_put-requires
make_put-requires g c =
    let at = c.loop-put in
    let rest = into_iter_items c.next.new.self in
    let steps : into_iter_items at.put-iterator ≡ c.in-Some.put ∷ rest = c.in-Some.ensures.steps.0 in
    let short = ap length steps in
    let room = at.invariant.room in
    record { room = omega (arith, short, room) }

pub loop-put-preserved : goal.loop-put-preserved
loop-put-preserved g c =
    let at = c.loop-put in
    let rest = into_iter_items c.next.new.self in
    let steps : into_iter_items at.put-iterator ≡ c.in-Some.put ∷ rest = c.in-Some.ensures.steps.0 in
    let short = ap length steps in
    record {
      can = tt;
      finite = tt;
      len = (let was = at.invariant.len in let gone = c.in-Some.ensures.steps.1 in omega (arith, short));
      room = (let was = at.invariant.room in let more = c.in_ok-make_put.ensures.room in omega (arith, short, was, more));
      so_far = so_far_more _ _ _ _ _ _ (exports_of c.args.puts.items) (exports_of rest) (exports_of (into_iter_items at.put-iterator)) (export_of c.in-Some.put) (ap exports_of steps) at.invariant.so_far c.in_ok-make_put.ensures.made;
      faults = well c.in_ok-make_put.ensures.cause ∙ at.invariant.faults;
    }

pub returns-in_err-make_put-clause-front : goal.returns-in_err-make_put-clause-front
returns-in_err-make_put-clause-front g c =
    let at = c.loop-put in
    let rest = into_iter_items c.next.new.self in
    let steps : into_iter_items at.put-iterator ≡ c.in-Some.put ∷ rest = c.in-Some.ensures.steps.0 in
    on_err c.from_residual.result _ (so_far_failed _ _ _ _ _ _ (exports_of c.args.puts.items) (exports_of rest) (exports_of (into_iter_items at.put-iterator)) (export_of c.in-Some.put) (ap exports_of steps) at.invariant.so_far c.in_err-make_put.ensures.none)

pub returns-in_err-make_put-clause-cause : goal.returns-in_err-make_put-clause-cause
returns-in_err-make_put-clause-cause g c =
    let p = err_from_is_err_and c.from_residual.result c.from_residual.ensures.1 in
    rw (p.1, p.2) (behind c.loop-put.invariant.faults (passed_on c.in_err-make_put.ensures.cause))

none_left : (puts : List Put) → length puts ≡ 0 → puts ≡ []
none_left [] e = refl
none_left (p ∷ ps) e = cc

pub returns-clause-all : goal.returns-clause-all
returns-clause-all g c =
    let at = c.loop-put in
    let none = c.in-None.ensures.steps.0 in
    let len = at.invariant.len in
    so_far_all _ _ _ _ (exports_of c.args.puts.items) (exports_of (into_iter_items at.put-iterator)) (ap exports_of (none_left (into_iter_items at.put-iterator) (sym len ∙ none))) at.invariant.so_far
