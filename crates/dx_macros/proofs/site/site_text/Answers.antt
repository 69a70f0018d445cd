use Rattle.std.proofs.Common.{◌∙◌, arith}
use Rattle.dx_macros.specs.Steps.{plain_steps}
use Rattle.dx_macros.proofs.Joining.{all_joined}
use Rattle.dx_macros.proofs.SiteBounds.{short_site}
use Rattle.dx_macros.proofs.site.site_text.Goals as goal

pub returns-clause-text : goal.returns-clause-text
returns-clause-text c = c.from_vec.ensures ∙ all_joined c.loop-step.text.items c.loop-step.is_first c.args.steps.now c.loop-step.step-index (omega arith) c.loop-step.invariant

pub returns-clause-bound : goal.returns-clause-bound
returns-clause-bound c =
    short_site (plain_steps c.args.steps.now) c.from_vec.result
    (c.from_vec.ensures ∙ all_joined c.loop-step.text.items c.loop-step.is_first c.args.steps.now c.loop-step.step-index (omega arith) c.loop-step.invariant)
