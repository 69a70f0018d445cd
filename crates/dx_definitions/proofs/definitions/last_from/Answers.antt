use Rattle.std.proofs.Common.{◌≡◌, ◌-◌, ◌∙◌, suc, sym, map, arith}
use Rattle.dx_definitions.specs.Index.{text_of}
use Rattle.dx_definitions.proofs.Finding.{has_at, has_past}
use Rattle.dx_definitions.proofs.Indexing.{step_down, step_found}
use Rattle.dx_definitions.proofs.definitions.last_from.Goals as goal

pub returns-then-has_text-clause-last : goal.returns-then-has_text-clause-last
returns-then-has_text-clause-last c =
    let list = c.args.definitions.now in
    let left = c.loop-left.left in
    let below : left ≡ suc (left - 1) = omega arith in
    let here = has_at list _ c.in-Some.a.now c.as_slice.result.now c.args.name.now _ c.in-Some.ensures.lookup.3.0 c.in-Some.ensures.lookup.1 c.as_slice.ensures (sym c.has_text.ensures ∙ c.if-has_text.true) in
    step_found (map text_of list) c.args.name.now left (left - 1) below here ∙ c.loop-left.invariant.same

pub loop-left-preserved-else-has_text : goal.loop-left-preserved-else-has_text
loop-left-preserved-else-has_text c =
    let list = c.args.definitions.now in
    let left = c.loop-left.left in
    let below : left ≡ suc (left - 1) = omega arith in
    let here = has_at list _ c.in-Some.a.now c.as_slice.result.now c.args.name.now _ c.in-Some.ensures.lookup.3.0 c.in-Some.ensures.lookup.1 c.as_slice.ensures (sym c.has_text.ensures ∙ c.if-has_text.false) in
    record { above = omega arith; same = step_down (map text_of list) c.args.name.now left (left - 1) below here ∙ c.loop-left.invariant.same }

pub loop-left-preserved : goal.loop-left-preserved
loop-left-preserved c =
    let list = c.args.definitions.now in
    let left = c.loop-left.left in
    let below : left ≡ suc (left - 1) = omega arith in
    let here = has_past list (left - 1) c.args.name.now c.in_default.ensures.lookup.3 in
    record { above = omega arith; same = step_down (map text_of list) c.args.name.now left (left - 1) below here ∙ c.loop-left.invariant.same }
