-- The text of steps, written one by one.
use Rattle.std.proofs.Common.{◌≡◌, ◌≤◌, ℕ, zero, suc, List, [], ◌∷◌, ◌++◌, length, drop, Bool, true, refl, ap, sym, ◌∙◌, append-nil, arith}
use Rattle.dx_ast.specs.Classes.{Text}
use Rattle.dx_macros.specs.Site as site
use Rattle.dx_macros.specs.declared.site.SiteStep.{SiteStep}
use Rattle.dx_macros.specs.Steps.{plain_steps, joined}

joined_text : (steps : List site.Step) → joined true steps ≡ site.steps_text steps
joined_text [] = refl
joined_text (s ∷ []) = append-nil (site.step_text s)
joined_text (s ∷ t ∷ rest) = ap (λ (rest : Text). site.step_text s ++ 47 ∷ rest) (joined_text (t ∷ rest))

pub drop_all : {A : Type 0} (xs : List A) (i : ℕ) → length xs ≤ i → drop i xs ≡ []
drop_all [] zero h = refl
drop_all [] (suc i) h = refl
drop_all (x ∷ xs) zero h = absurd (omega arith)
drop_all (x ∷ xs) (suc i) h = drop_all xs i (omega arith)

-- what is written where no step is left
pub all_joined : (text : Text) (is_first : Bool) (steps : List SiteStep) (i : ℕ) → length steps ≤ i →
    text ++ joined is_first (plain_steps (drop i steps)) ≡ joined true (plain_steps steps) → text ≡ site.steps_text (plain_steps steps)
all_joined text is_first steps i h e =
    sym (ap (λ (left : List SiteStep). text ++ joined is_first (plain_steps left)) (drop_all steps i h) ∙ append-nil text) ∙ e ∙ joined_text (plain_steps steps)
