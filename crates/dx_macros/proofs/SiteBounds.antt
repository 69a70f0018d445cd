-- How long the text of a site is at most.
use Rattle.std.proofs.Common.{◌≡◌, ◌∷◌, ◌++◌, ◌+◌, ◌*◌, ◌≤◌, [], List, length, subst, sym, arith}
use Rattle.std.specs.Fmt.{decimal}
use Rattle.std.proofs.lemmas.Fmt.{length-decimal-le}
use Rattle.std.proofs.lemmas.List.{length-append}
use Rattle.dx_ast.specs.Classes.{Text}
use Rattle.dx_macros.specs.Site.{Step, Nth, Target, step_text, steps_text}
use Rattle.dx_macros.specs.SiteBound.{IsShortStep, AreShortSteps, IsShortSite}

short_step : (s : Step) → IsShortStep s → length (step_text s) ≤ 276
short_step (Nth name k) h =
    let digits : length (decimal k) ≤ 20 = length-decimal-le 20 k (omega arith) (let small = h.1 in omega (arith, small)) h.1 in
    let all : length (name ++ 58 ∷ decimal k) ≡ length name + length (58 ∷ decimal k) = length-append name (58 ∷ decimal k) in
    let few = h.0 in
    omega (arith, digits, all, few)
short_step (Target name) h = omega (arith, h)

pub short_steps : (steps : List Step) → AreShortSteps steps → length (steps_text steps) ≤ 277 * length steps
short_steps [] h = omega arith
short_steps (s ∷ []) h = let one = short_step s h.0 in omega (arith, one)
short_steps (s ∷ t ∷ rest) h =
    let one = short_step s h.0 in
    let others = short_steps (t ∷ rest) h.1 in
    let all : length (step_text s ++ 47 ∷ steps_text (t ∷ rest)) ≡ length (step_text s) + length (47 ∷ steps_text (t ∷ rest)) = length-append (step_text s) (47 ∷ steps_text (t ∷ rest)) in
    omega (arith, one, others, all)

pub short_site : (steps : List Step) (text : Text) → text ≡ steps_text steps → IsShortSite steps text
short_site steps text e h = subst (λ (t : Text). length t ≤ 277 * length steps) (sym e) (short_steps steps h)
