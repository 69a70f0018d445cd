-- The texts of the top level, and which of them defines a name.
use Rattle.std.specs.Prelude.{ℕ, zero, suc, List, [], ◌∷◌, Option, Some, None, if◌then◌else◌}
use Rattle.dx_base.specs.NameLists.{has}
use Rattle.dx_ast.specs.declared.constants.Const.TheVariants as const
use Rattle.dx_ast.specs.Classes.{Text}
use Rattle.dx_ast.specs.Syntax.{Expr, Constant}

-- a text at the top level: an assignment with its targets, or a call, which has none
pub record TopText : Type 0 where
  pub targets : List Text
  pub value : Expr

abbrev pub no_text : TopText
no_text = record { targets = []; value = Constant const.Null }

-- definition number i
abbrev pub definition : List TopText → ℕ → TopText
definition [] i = no_text
definition (t ∷ later) zero = t
definition (t ∷ later) (suc i) = definition later i

-- the last definition of a name before a position
abbrev pub last_named : List TopText → ℕ → Text → Option ℕ
last_named definitions zero n = None
last_named definitions (suc i) n = if has (definition definitions i).targets n then Some i else last_named definitions i n
