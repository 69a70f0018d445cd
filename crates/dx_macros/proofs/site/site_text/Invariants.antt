use Rattle.std.proofs.Common.{◌≡◌, ◌++◌, drop, true}
use Rattle.dx_macros.specs.Steps.{plain_steps, joined}
use Rattle.dx_macros.proofs.site.site_text.Given as goal

abbrev pub invariant-loop-step : goal.invariant-loop-step
invariant-loop-step l = l.text.items ++ joined l.is_first (plain_steps (drop l.step-index l.steps)) ≡ joined true (plain_steps l.steps)
