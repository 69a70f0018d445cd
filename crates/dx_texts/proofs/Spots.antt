-- The spots of the texts that an expansion comes by are lawful.
use Rattle.std.proofs.Common.{◌≡◌, ℕ, suc, ◌<◌, ◌^◌, List, [], ◌∷◌, ◌++◌, length, Option, Some, sym, ap, subst, ◌∙◌, arith, All}
use Rattle.std.proofs.lemmas.List.{get_or_push}
use Rattle.std.proofs.Math.Logic.{∥∥₁_map}
use Rattle.dx_ast.specs.Classes.{Text}
use Rattle.dx_ast.specs.Lawful.{IsName}
use Rattle.dx_macros.specs.Site.{Spot, Nth}
use Rattle.dx_macros.specs.Expansion.{spot_of_call, top_spot}
use Rattle.dx_graph.specs.Trails.{no_steps, spot_under}
use Rattle.dx_graph.specs.Sites.{IsLawfulSpot}
use Rattle.dx_graph.proofs.Sites.{no_steps_lawful, target_lawful, step_lawful}

pushed : (old new : List Spot) (spot : Spot) (t : ℕ) → t ≡ length old → new ≡ old ++ spot ∷ [] → spot_under new (Some t) ≡ spot
pushed old new spot t number e = ap (λ (spots : List Spot). spot_under spots (Some t)) e ∙ get_or_push old spot no_steps t (sym number)

-- the body of a macro
pub inner_spot : (old new : List Spot) (trail : Option ℕ) (t left less : ℕ) (name : Text) (k : ℕ) → t ≡ length old → new ≡ old ++ spot_of_call (spot_under old trail) (Nth name k) ∷ [] → left ≡ suc less →
    IsName name → k < 2 ^ 64 → ∥ IsLawfulSpot left (spot_under old trail) ∥₁ → ∥ IsLawfulSpot less (spot_under new (Some t)) ∥₁
inner_spot old new trail t left less name k number e fewer is small h =
    subst (λ (spot : Spot). ∥ IsLawfulSpot less spot ∥₁) (sym (pushed old new (spot_of_call (spot_under old trail) (Nth name k)) t number e))
    (∥∥₁_map h (λ lawful. step_lawful (spot_under old trail) less name k (subst (λ (n : ℕ). IsLawfulSpot n (spot_under old trail)) fewer lawful) is small))

-- a text of the top level
top_lawful : (targets : List Text) → All IsName targets → IsLawfulSpot 64 (top_spot targets)
top_lawful [] h = no_steps_lawful 64 (omega arith)
top_lawful (t ∷ rest) h = target_lawful t 64 (omega arith) (h 0 t (omega arith))

pub top_spot_lawful : (spots : List Spot) (trail : Option ℕ) (targets : List Text) → spot_under spots trail ≡ top_spot targets → ∥ All IsName targets ∥₁ → ∥ IsLawfulSpot 64 (spot_under spots trail) ∥₁
top_spot_lawful spots trail targets e h = subst (λ (spot : Spot). ∥ IsLawfulSpot 64 spot ∥₁) (sym e) (∥∥₁_map h (top_lawful targets))
