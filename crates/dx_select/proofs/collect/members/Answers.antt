use Rattle.std.proofs.Common.{rules, sym, ap, ◌∙◌}
use Rattle.std.proofs.Math.ListN.{drop_of_length-le}
use Rattle.dx_base.specs.Object.{append}
use Rattle.dx_objects.proofs.PartsLaws.{append-no_parts}
use Rattle.dx_select.specs.Collect.{member, members}
use Rattle.dx_select.proofs.CollectLaws.{members_step}
use Rattle.dx_select.proofs.collect.members.Goals as goal

pub loop-i-preserved : goal.loop-i-preserved
loop-i-preserved c =
    members_step c.args.inputs.now c.loop-i.i c.loop-i.members _ _ (search rules)
    (c.in_ok-push_member.ensures ∙ ap (λ v. append c.loop-i.members (member v)) c.input.ensures) c.loop-i.invariant

pub returns : goal.returns
returns c =
    sym (append-no_parts c.loop-i.members)
    ∙ ap (λ l. append c.loop-i.members (members l)) (sym (drop_of_length-le c.args.inputs.now (search rules)))
    ∙ c.loop-i.invariant
