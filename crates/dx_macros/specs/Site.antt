-- Where a call stands: the steps that lead to it, and their text.
use Rattle.std.specs.Prelude.{ℕ, suc, List, [], ◌∷◌, ◌++◌}
use Rattle.std.specs.Fmt.{decimal}
use Rattle.dx_ast.specs.Classes.{Text}
use Rattle.dx_base.specs.NameLists.{count}

-- the k-th call of a name in its text, or the first target of an assignment at the top level
pub data Step : Type 0 where
  Nth : (name : Text) → (k : ℕ) → Step
  Target : Text → Step

-- `Name:k`, or the name alone
abbrev pub step_text : Step → Text
step_text (Nth name k) = name ++ 58 ∷ decimal k
step_text (Target name) = name

-- the steps joined by `/`
abbrev pub steps_text : List Step → Text
steps_text [] = []
steps_text (s ∷ []) = step_text s
steps_text (s ∷ t ∷ rest) = step_text s ++ 47 ∷ steps_text (t ∷ rest)

-- the steps that lead to a text, and those of them that are calls of macros
pub record Spot : Type 0 where
  pub base : List Step
  pub path : List Step

-- the step of a call of this name, behind the calls before it in the same text
abbrev pub next_step : Text → List Text → Step
next_step name before = Nth name (suc (count name before))

-- what the sites of an assignment at the top level begin with
abbrev pub first_target : List Text → List Step
first_target [] = []
first_target (t ∷ rest) = Target t ∷ []
