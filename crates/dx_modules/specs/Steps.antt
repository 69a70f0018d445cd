-- Origins and deltas of what modules answer.
use Rattle.std.specs.Prelude.{ℕ, List, Option}
use Rattle.dx_base.specs.declared.function.Module.{Module}
use Rattle.dx_steps.specs.Steps.{KeepsStepsOfValues}
use Rattle.dx_modules.specs.Answer.{answer_of}

-- Whichever module it is, and whatever file it is given: from inputs that can be made, of which all origins and deltas are
-- ints, it makes such results.
abbrev pub ModulesKeepSteps : Type 0
ModulesKeepSteps = (m : Module) (file : Option (List ℕ)) → KeepsStepsOfValues (λ inputs. answer_of m inputs file)
