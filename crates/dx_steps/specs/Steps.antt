-- Values of which all origins and deltas are ints, and modules that make such results.
use Rattle.std.specs.Prelude.{◌≡◌, [], ◌∷◌, Bool, true, Option, Some, None, Ok}
use Rattle.std.specs.List.{list_all}
use Rattle.dx_base.specs.Object.{Tree}
use Rattle.dx_base.specs.ObjectLimits.{IsLawful}
use Rattle.dx_base.specs.ObjectNumbers.{steps_by_ints}
use Rattle.dx_objects.specs.Runs.{Values, Answer}

abbrev pub value_steps : Option Tree → Bool
value_steps None = true
value_steps (Some t) = steps_by_ints t

abbrev pub all_step : Values → Bool
all_step vs = list_all value_steps vs

-- values that can be made
abbrev pub AreValues : Values → Type 0
AreValues [] = Unit {0}
AreValues (None ∷ vs) = AreValues vs
AreValues (Some t ∷ vs) = IsLawful t × AreValues vs

-- ---- what a module answers

-- whatever the inputs are, all origins and deltas of the results are ints
abbrev pub MakesSteps : (Values → Answer) → Type 0
MakesSteps answer = (inputs results : Values) → answer inputs ≡ Ok results → all_step results ≡ true

-- so they are where those of the inputs are
abbrev pub KeepsSteps : (Values → Answer) → Type 0
KeepsSteps answer = (inputs results : Values) → all_step inputs ≡ true → answer inputs ≡ Ok results → all_step results ≡ true

-- so they are where those of the inputs are, and the inputs can be made
abbrev pub KeepsStepsOfValues : (Values → Answer) → Type 0
KeepsStepsOfValues answer = (inputs results : Values) → AreValues inputs → all_step inputs ≡ true → answer inputs ≡ Ok results → all_step results ≡ true
