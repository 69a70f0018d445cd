use Rattle.std.proofs.Common.{sym, ap, subst}
use Rattle.dx_objects.specs.Runs.{Gives}
use Rattle.dx_select.specs.Answered.{one_result}
use Rattle.dx_select.proofs.CollectLaws.{collect_ok, collect_large}
use Rattle.dx_select.proofs.collect.run_collect.Goals as goal

pub returns-in-Ok : goal.returns-in-Ok
returns-in-Ok c =
    subst (λ a. Gives a c.new-in-Ok.result)
    (sym (ap one_result (collect_ok c.args.inputs.now c.in_ok-members.members c.new.result c.in-Ok.group c.in_ok-members.ensures c.new.ensures c.in-Ok.ensures)))
    c.new-in-Ok.ensures

pub returns-in-Err : goal.returns-in-Err
returns-in-Err c =
    subst (λ a. Gives a c.refused.result)
    (sym (ap one_result (collect_large c.args.inputs.now c.in_ok-members.members c.new.result c.in-Err.field-0 c.in_ok-members.ensures c.new.ensures c.in-Err.ensures)))
    c.refused.ensures
