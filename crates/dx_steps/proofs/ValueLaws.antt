-- Values by their places, numbers as values, and what follows of a module from more of it.
use Rattle.std.proofs.Common.{◌≡◌, ℕ, zero, suc, ℤ, [], ◌∷◌, Bool, true, false, Some, None, refl, subst}
use Rattle.std.specs.Prelude.{cond}
use Rattle.std.proofs.lemmas.Bool.{and_parts}
use Rattle.dx_base.specs.declared.elem.ElemType.TheVariants.{Int}
use Rattle.dx_base.specs.Elem.{in_range}
use Rattle.dx_base.specs.Object.{Tree}
use Rattle.dx_base.specs.ObjectLimits.{IsLawful}
use Rattle.dx_base.specs.ObjectNumbers.{steps_by_ints, int_number, number_value}
use Rattle.dx_objects.specs.Runs.{Values, Answer}
use Rattle.dx_objects.specs.Values.{value_at}
use Rattle.dx_steps.specs.Steps.{value_steps, all_step, AreValues, MakesSteps, KeepsSteps, KeepsStepsOfValues}

-- ---- places

pub at_steps : (vs : Values) (i : ℕ) → all_step vs ≡ true → value_steps (value_at vs i) ≡ true
at_steps [] i h = refl
at_steps (v ∷ vs) zero h = (and_parts (value_steps v) (all_step vs) h).0
at_steps (v ∷ vs) (suc i) h = at_steps vs i ((and_parts (value_steps v) (all_step vs) h).1)

pub input_steps : (vs : Values) (i : ℕ) (t : Tree) → all_step vs ≡ true → value_at vs i ≡ Some t → steps_by_ints t ≡ true
input_steps vs i t h e = subst (λ v. value_steps v ≡ true) e (at_steps vs i h)

pub input_lawful : (vs : Values) (i : ℕ) (t : Tree) → AreValues vs → value_at vs i ≡ Some t → IsLawful t
input_lawful [] i t h e = absurd (cc e)
input_lawful (None ∷ vs) zero t h e = absurd (cc e)
input_lawful (Some u ∷ vs) zero t h e = let same : u ≡ t = cc in subst IsLawful same h.0
input_lawful (None ∷ vs) (suc i) t h e = input_lawful vs i t h e
input_lawful (Some u ∷ vs) (suc i) t h e = input_lawful vs i t h.1 e

-- ---- numbers

number_by : (b : Bool) (n : ℤ) → value_steps (cond b (Some (int_number n)) None) ≡ true
number_by true n = refl
number_by false n = refl

pub number_steps : (n : ℤ) → value_steps (number_value n) ≡ true
number_steps n = number_by (in_range Int n) n

-- ---- modules

pub made_are_kept : (answer : Values → Answer) → MakesSteps answer → KeepsStepsOfValues answer
made_are_kept answer h inputs results lawful steps e = h inputs results e

pub kept_of_values : (answer : Values → Answer) → KeepsSteps answer → KeepsStepsOfValues answer
kept_of_values answer h inputs results lawful steps e = h inputs results steps e
