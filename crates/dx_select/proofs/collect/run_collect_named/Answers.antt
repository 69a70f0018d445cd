use Rattle.std.proofs.Common.{Err, sym, ap, subst, ◌∙◌}
use Rattle.dx_objects.specs.Runs.{Gives}
use Rattle.dx_select.specs.Answered.{one_result, ◌>>=◌}
use Rattle.dx_select.specs.Collect.{named_group}
use Rattle.dx_select.proofs.CollectLaws.{named_unplaced, named_ok, named_refused}
use Rattle.dx_select.proofs.collect.run_collect_named.Goals as goal

pub returns-in-Ok : goal.returns-in-Ok
returns-in-Ok c =
    subst (λ a. Gives a c.new-in-Ok.result)
    (sym (ap (λ there. one_result (there >>= λ ps. named_group ps)) c.in_ok-members.ensures
    ∙ ap one_result (named_ok c.in_ok-members.members c.new.result c.in-Ok.group (named_unplaced c.args.inputs.now c.in_ok-members.members c.in_ok-members.ensures) c.new.ensures c.in-Ok.ensures)))
    c.new-in-Ok.ensures

pub returns-in-Err : goal.returns-in-Err
returns-in-Err c =
    subst (λ a. Gives a c.refused.result)
    (sym (ap (λ there. one_result (there >>= λ ps. named_group ps)) c.in_ok-members.ensures
    ∙ ap one_result (named_refused c.in_ok-members.members c.new.result c.in-Err.error (named_unplaced c.args.inputs.now c.in_ok-members.members c.in_ok-members.ensures) c.new.ensures c.in-Err.ensures
    ∙ ap (λ code. Err code) (sym c.code_of.ensures))))
    c.refused.ensures
