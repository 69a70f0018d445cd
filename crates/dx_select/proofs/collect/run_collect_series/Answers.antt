use Rattle.std.proofs.Common.{sym, ap, subst, ◌∙◌}
use Rattle.dx_base.specs.Object.{series, no_parts}
use Rattle.dx_objects.specs.Runs.{Gives}
use Rattle.dx_select.specs.Answered.{one_result, in_limits, ◌>>=◌}
use Rattle.dx_select.proofs.CollectLaws.{placed_unnamed, series_ok, series_large}
use Rattle.dx_select.proofs.collect.run_collect_series.Goals as goal

pub returns-in-Ok : goal.returns-in-Ok
returns-in-Ok c =
    subst (λ a. Gives a c.new-in-Ok.result)
    (sym (ap (λ there. one_result (there >>= λ ps. in_limits (series ps no_parts))) c.in_ok-members.ensures
    ∙ ap one_result (series_ok c.in_ok-members.members c.new.result c.in-Ok.series (placed_unnamed c.args.inputs.now c.in_ok-members.members c.in_ok-members.ensures) c.new.ensures c.in-Ok.ensures)))
    c.new-in-Ok.ensures

pub returns-in-Err : goal.returns-in-Err
returns-in-Err c =
    subst (λ a. Gives a c.refused.result)
    (sym (ap (λ there. one_result (there >>= λ ps. in_limits (series ps no_parts))) c.in_ok-members.ensures
    ∙ ap one_result (series_large c.in_ok-members.members c.new.result c.in-Err.field-0 (placed_unnamed c.args.inputs.now c.in_ok-members.members c.in_ok-members.ensures) c.new.ensures c.in-Err.ensures)))
    c.refused.ensures
