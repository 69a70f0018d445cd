-- What is lawful of the code's lists and tables.
use Rattle.std.specs.Prelude.{◌≡◌, ℕ, List, Some, Vec, All}
use Rattle.std.specs.declared.alloc.Global.{Global}
use Rattle.std.specs.HashMap.{HashMap}
use Rattle.dx_base.specs.NameTable.{under_name}
use Rattle.dx_ast.specs.declared.statements.Assign.{Assign}
use Rattle.dx_ast.specs.declared.statements.MacroDef.{MacroDef}
use Rattle.dx_ast.specs.Classes.{Text}
use Rattle.dx_ast.specs.Plain.{plain_expr, plain_macro}
use Rattle.dx_ast.specs.Lawful.{IsLawfulAssign, IsLawfulMacro}

abbrev pub IsLawfulDefinition : Assign → Type 0
IsLawfulDefinition a = IsLawfulAssign a.targets (plain_expr a.value)

abbrev pub AreLawfulDefinitions : List Assign → Type 0
AreLawfulDefinitions definitions = All IsLawfulDefinition definitions

abbrev pub AreLawfulMacros : {S : Type 0} → HashMap (Vec ℕ Global) MacroDef S → Type 0
AreLawfulMacros macros = (name : Text) (m : MacroDef) → under_name macros name ≡ Some m → IsLawfulMacro (plain_macro m)
