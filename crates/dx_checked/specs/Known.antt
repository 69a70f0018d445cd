-- What is known of the definitions of a dictionary.
use Rattle.std.specs.Prelude.{◌≡◌, ◌≤◌, ◌+◌, ℕ, zero, suc, List, [], ◌∷◌, length}
use Rattle.dx_ast.specs.Limits.{max_macro_steps, max_walk_calls}
use Rattle.dx_definitions.specs.TopTexts.{TopText}
use Rattle.dx_macros.specs.Dictionary.{Macros, Dictionary}
use Rattle.dx_checked.specs.Own.{ExprFits}
use Rattle.dx_checked.specs.declared.known.Known.{Known}

-- a text of the top level has n calls of its own
abbrev pub DefinitionFits : Macros → TopText → ℕ → Type 0
DefinitionFits macros t n = ExprFits macros max_macro_steps (length t.targets) t.value n

-- the first so many definitions have these numbers of calls of their own
abbrev pub FirstFit : Macros → ℕ → List TopText → List ℕ → Type 0
FirstFit macros zero definitions [] = Unit {0}
FirstFit macros zero definitions (n ∷ ns) = ⊥
FirstFit macros (suc k) [] ns = ⊥
FirstFit macros (suc k) (t ∷ ts) [] = ⊥
FirstFit macros (suc k) (t ∷ ts) (n ∷ ns) = DefinitionFits macros t n × FirstFit macros k ts ns

abbrev pub total : List ℕ → ℕ
total [] = 0
total (n ∷ ns) = n + total ns

-- the own calls of the first definitions have no fault, and that many are they in all
pub record IsKnown (d : Dictionary) (known : Known) : Type 0 where
  pub own : List ℕ
  pub fit : FirstFit d.macros known.definitions d.definitions own
  pub calls : total own ≡ known.calls
  pub bound : known.calls ≤ max_walk_calls
