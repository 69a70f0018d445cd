-- The constants that names mean, where that is seen from assignments alone.
use Rattle.std.specs.Prelude.{◌≡◌, ◌<◌, ℕ, zero, suc, List, [], ◌∷◌, length, Option, Some, None, slice_get, if◌then◌else◌}
use Rattle.dx_base.specs.NameLists.{has}
use Rattle.dx_ast.specs.declared.constants.Const.{Const}
use Rattle.dx_ast.specs.declared.constants.Const.TheVariants as const
use Rattle.dx_ast.specs.Classes.{Text}
use Rattle.dx_ast.specs.Syntax.{Expr, Constant, Name, Frame, CallOf}
use Rattle.dx_definitions.specs.TopTexts.{TopText, definition}

-- a constant, or a name that means one
abbrev pub value_constant : Expr → (Text → Option Const) → Option Const
value_constant (Constant c) before = Some c
value_constant (Name n) before = before n
value_constant (Frame v) before = None
value_constant (CallOf c) before = None

-- it is assigned to one name
abbrev pub of_one : List Text → Option Const → Option Const
of_one [] c = None
of_one (t ∷ []) c = c
of_one (t ∷ u ∷ rest) c = None

-- the constant that a name means at a position: that of its last definition before the position, and NULL where it has none
abbrev pub constant_at : List TopText → ℕ → Text → Option Const
constant_at defs zero n = Some const.Null
constant_at defs (suc i) n =
    if has (definition defs i).targets n then of_one (definition defs i).targets (value_constant (definition defs i).value (constant_at defs i)) else constant_at defs i n

-- the constant that definition number i assigns
abbrev pub constant_of : List TopText → ℕ → Option Const
constant_of defs i = of_one (definition defs i).targets (value_constant (definition defs i).value (constant_at defs i))

-- what definition number i assigns is the constant that stands in definition number j
pub record StandsIn (defs : List TopText) (i j : ℕ) : Type 0 where
  pub first : i < length defs
  pub position : j < length defs
  pub constant : Const
  pub stands : (definition defs j).value ≡ Constant constant
  pub assigned : constant_of defs i ≡ Some constant

-- each position that is noted for a definition is so
abbrev pub AreNoted : List TopText → List (Option ℕ) → Type 0
AreNoted defs noted = (i j : ℕ) → slice_get noted i ≡ Some (Some j) → StandsIn defs i j

-- a constant that stands in a definition
abbrev pub IsDefined : List TopText → Const → Type 0
IsDefined defs c = (j : ℕ) × (j < length defs) × ((definition defs j).value ≡ Constant c)
