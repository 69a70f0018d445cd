-- The tokens of a text from a place on, one behind the other.
use Rattle.std.specs.Prelude.{ℕ, ◌≤◌, ◌<◌, List, [], ◌∷◌}
use Rattle.dx_places.specs.Grammar.{At}
use Rattle.dx_native_lex.specs.Scan.{Found}
use Rattle.dx_native_lex.specs.Less.{IsSome_token}
use Rattle.dx_native_tokens.specs.Standing.{IsNext}

-- Each stands next behind the one before it; the last one is the end of the text or a string that is wrong, and no other is.
abbrev pub AreTokens : At → List Found → Type 0
AreTokens s [] = ⊥
AreTokens s (f ∷ []) = IsNext s f × (IsSome_token f.kind → ⊥)
AreTokens s (f ∷ g ∷ more) = IsNext s f × IsSome_token f.kind × AreTokens f.after (g ∷ more)

-- Each begins at this offset or behind it, and the next ones where it ends or behind that; each but the last has bytes.
abbrev pub AreApart : ℕ → List Found → Type 0
AreApart n [] = Unit {0}
AreApart n (f ∷ []) = n ≤ f.at
AreApart n (f ∷ g ∷ more) = (n ≤ f.at) × (f.at < f.after.offset) × AreApart f.after.offset (g ∷ more)

pub record HasTokens (s : At) : Type 0 where
  pub tokens : List Found
  pub are : AreTokens s tokens
