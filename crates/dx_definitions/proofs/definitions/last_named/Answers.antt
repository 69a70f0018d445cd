use Rattle.std.proofs.Common.{◌≡◌, ◌-◌, ◌∙◌, ℕ, suc, refl, sym, subst, map, arith}
use Rattle.dx_definitions.specs.Index.{text_of}
use Rattle.dx_definitions.proofs.Finding.{has_at, has_past}
use Rattle.dx_definitions.proofs.Looking.{AreLeft, passed, found, none_left}
use Rattle.dx_definitions.proofs.definitions.last_named.Goals as goal

pub returns-then-has_text-clause-last : goal.returns-then-has_text-clause-last
returns-then-has_text-clause-last c =
    let defs = c.args.definitions.now in
    let below : c.loop-left.left ≡ suc (c.loop-left.left - 1) = omega arith in
    let here = has_at defs _ c.in-Some.a.now c.as_slice.result.now c.args.name.now _ c.in-Some.ensures.lookup.3.0 c.in-Some.ensures.lookup.1 c.as_slice.ensures (sym c.has_text.ensures ∙ c.if-has_text.true) in
    found c.args.positions.now (map text_of defs) c.args.position c.args.name.now c.loop-left.left (c.loop-left.left - 1) _ below refl here c.requires c.loop-left.invariant

pub loop-left-preserved-else-has_text : goal.loop-left-preserved-else-has_text
loop-left-preserved-else-has_text c =
    let defs = c.args.definitions.now in
    let below : c.loop-left.left ≡ suc (c.loop-left.left - 1) = omega arith in
    let here = has_at defs _ c.in-Some.a.now c.as_slice.result.now c.args.name.now _ c.in-Some.ensures.lookup.3.0 c.in-Some.ensures.lookup.1 c.as_slice.ensures (sym c.has_text.ensures ∙ c.if-has_text.false) in
    passed c.args.positions.now (map text_of defs) c.args.position c.args.name.now c.loop-left.left (c.loop-left.left - 1) below here c.loop-left.invariant

pub loop-left-preserved : goal.loop-left-preserved
loop-left-preserved c =
    let defs = c.args.definitions.now in
    let below : c.loop-left.left ≡ suc (c.loop-left.left - 1) = omega arith in
    passed c.args.positions.now (map text_of defs) c.args.position c.args.name.now c.loop-left.left (c.loop-left.left - 1) below (has_past defs _ c.args.name.now c.in_default.ensures.lookup.3) c.loop-left.invariant

pub returns-clause-last : goal.returns-clause-last
returns-clause-last c =
    let defs = map text_of c.args.definitions.now in
    let at_end : c.loop-left.left ≡ 0 = omega arith in
    none_left c.args.positions.now defs c.args.position c.args.name.now (subst (λ (n : ℕ). AreLeft c.args.positions.now n defs c.args.position c.args.name.now) at_end c.loop-left.invariant)
