use Rattle.std.proofs.Common.{rules, arith, ◌≡◌, ◌<◌, ◌≤◌, ◌*◌, length, Ok, Err, sym, ap, subst, ◌∙◌}
use Rattle.std.proofs.Math.ListN.{drop_of_length-le}
use Rattle.dx_objects.proofs.PartsLaws.{append-no_parts}
use Rattle.dx_objects.specs.Values.{value_at}
use Rattle.dx_select.specs.Answered.{GivesParts}
use Rattle.dx_select.specs.Collect.{pair, paired, Grows}
use Rattle.dx_select.specs.Shown.{shown}
use Rattle.dx_select.proofs.CollectLaws.{behind, pair_step, pair_stops}
use Rattle.dx_select.proofs.collect.paired.Goals as goal

pub loop-i-preserved : goal.loop-i-preserved
loop-i-preserved c =
    let there : 2 * c.loop-i.i < length c.args.inputs.now = omega (arith, c.len.ensures) in
    pair_step c.args.beside c.args.inputs.now c.loop-i.i c.loop-i.members _ _ there
    (rw (c.input.ensures, c.input-in-loop-i.ensures) at c.in_ok-push_pair.ensures) c.loop-i.invariant

pub returns-in_err-push_pair : goal.returns-in_err-push_pair
returns-in_err-push_pair c =
    let there : 2 * c.loop-i.i < length c.args.inputs.now = omega (arith, c.len.ensures) in
    let e = c.in_err-push_pair.field-0.0 in
    let one = subst (λ o. Grows (pair c.args.beside o (shown c.input-in-loop-i.result)) c.loop-i.members c.push_pair.new.members (Err e)) c.input.ensures c.in_err-push_pair.ensures in
    let both = subst (λ v. Grows (pair c.args.beside (value_at c.args.inputs.now (2 * c.loop-i.i)) v) c.loop-i.members c.push_pair.new.members (Err e)) c.input-in-loop-i.ensures one in
    let stop = pair_stops c.args.beside c.args.inputs.now c.loop-i.i c.loop-i.members c.push_pair.new.members (paired c.args.beside c.args.inputs.now) e there both c.loop-i.invariant in
    let same : c.from_residual.result ≡ Err e = search rules in
    subst (λ r. GivesParts (paired c.args.beside c.args.inputs.now) r) (sym same) stop

pub returns : goal.returns
returns c =
    let past : length c.args.inputs.now ≤ 2 * c.loop-i.i = omega (arith, c.len.ensures) in
    sym c.loop-i.invariant
    ∙ ap (λ l. behind c.loop-i.members (paired c.args.beside l)) (drop_of_length-le c.args.inputs.now past)
    ∙ ap (λ ps. Ok ps) (append-no_parts c.loop-i.members)
