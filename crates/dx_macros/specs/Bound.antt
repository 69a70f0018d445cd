-- A bound on the sizes of the macros and definitions that a dictionary of the code has.
use Rattle.std.specs.Prelude.{ℕ, ◌+◌, List, [], ◌∷◌, Vec}
use Rattle.std.specs.declared.alloc.Global.{Global}
use Rattle.dx_ast.specs.declared.statements.Assign.{Assign}
use Rattle.dx_ast.specs.declared.statements.MacroDef.{MacroDef}
use Rattle.dx_ast.specs.Plain.{plain_expr, plain_macro}
use Rattle.dx_macros.specs.Weight.{expr_weight, macro_weight}
use Rattle.dx_macros.specs.declared.dictionary.Dictionary.{Dictionary}

abbrev pub macros_weight : List (Vec ℕ Global × MacroDef) → ℕ
macros_weight [] = 0
macros_weight (e ∷ rest) = macro_weight (plain_macro e.1) + macros_weight rest

abbrev pub definitions_weight : List Assign → ℕ
definitions_weight [] = 0
definitions_weight (a ∷ rest) = expr_weight (plain_expr a.value) + definitions_weight rest

abbrev pub bound_of : Dictionary → ℕ
bound_of d = macros_weight d.macros.entries + definitions_weight d.definitions.items
