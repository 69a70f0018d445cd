-- What the name of a call can mean, and which arguments and results that allows.
use Rattle.std.specs.Prelude.{ℕ, List, Option, Some, None, length, map}
use Rattle.dx_base.specs.declared.function.Function.{Function}
use Rattle.dx_ast.specs.declared.statements.Param.{Param}
use Rattle.dx_ast.specs.Classes.{Text}
use Rattle.dx_ast.specs.Values.{param_name}
use Rattle.dx_ast.specs.Table.{row_of}
use Rattle.dx_ast.specs.Syntax.{Macro, MakeMacro}

-- a macro hides a function of its name
pub data Callee : Type 0 where
  Unknown : Callee
  CallsMacro : Macro → Callee
  CallsFunction : Function → Callee

abbrev pub function_callee : Option Function → Callee
function_callee None = Unknown
function_callee (Some f) = CallsFunction f

abbrev pub callee_by : Option Macro → Option Function → Callee
callee_by (Some m) f = CallsMacro m
callee_by None f = function_callee f

-- the named parameters, how many further arguments may follow, and how many results there are
pub record Signature : Type 0 where
  pub named : List Text
  pub more : ℕ
  pub results : ℕ

abbrev pub signature_of_function : Function → Signature
signature_of_function f = record { named = (row_of f).params; more = (row_of f).more; results = (row_of f).results }

abbrev pub param_names : List Param → List Text
param_names params = map param_name params

abbrev pub signature_of_macro : Macro → Signature
signature_of_macro (MakeMacro name params results body) = record { named = param_names params; more = 0; results = length results }
