use Rattle.std.proofs.Common.{ℤ, pos, get_or, fold, FitsSigned, w64, ap, sym, ◌∙◌, arith, rules}
use Rattle.std.specs.Int.{int_min}
use Rattle.std.proofs.lemmas.Int.{to_z-of_z}
use Rattle.std.proofs.lemmas.List.{take_all}
use Rattle.std.proofs.lemmas.List.Sums.{fold_more}
use Rattle.dx_stats.proofs.Held.{least_is, least_small}
use Rattle.dx_stats.proofs.histogram.least_of.Goals as goal

pub loop-value-preserved : goal.loop-value-preserved
loop-value-preserved c =
    let vs = c.args.values.now in
    let i = c.loop-value.value-index in
    let v : ℤ = get_or vs i (pos 0) in
    let fits : FitsSigned w64 v = search rules in
    let next = rw (to_z-of_z w64 v fits) at c.min-least.ensures.value in
    to_z-of_z w64 c.min-least.result (record { sfits = c.min-least.type_inv }) ∙ next ∙ ap (λ x. int_min x v) c.loop-value.invariant ∙ sym (fold_more int_min (pos 9223372036854775807) vs i (pos 0) c.loop-value-test.true)

pub returns-clause-value : goal.returns-clause-value
returns-clause-value c =
    let vs = c.args.values.now in
    c.loop-value.invariant ∙ ap (fold int_min (pos 9223372036854775807)) (take_all c.loop-value.value-index vs (omega arith)) ∙ least_is vs c.requires.some c.requires.small

pub returns-clause-small : goal.returns-clause-small
returns-clause-small c =
    let vs = c.args.values.now in
    let is = c.loop-value.invariant ∙ ap (fold int_min (pos 9223372036854775807)) (take_all c.loop-value.value-index vs (omega arith)) ∙ least_is vs c.requires.some c.requires.small in
    rw is (least_small vs c.requires.some c.requires.small)
