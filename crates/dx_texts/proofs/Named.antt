-- The name by which a function is called is that of its row.
use Rattle.std.proofs.Common.{◌≡◌, List, [], ◌∷◌, Option, Some, None, Bool, true, false, refl, sym, ap, ◌∙◌}
use Rattle.std.specs.Prelude.{cond, find}
use Rattle.std.specs.Str.{bytes_eq}
use Rattle.std.proofs.lemmas.Slice.Eq.{bytes_eq-Decides}
use Rattle.dx_base.specs.declared.function.Function.{Function}
use Rattle.dx_ast.specs.Classes.{Text}
use Rattle.dx_ast.specs.Table.{row_of, functions, function_named}
use Rattle.dx_ast.specs.Syntax.{Macro}
use Rattle.dx_macros.specs.Dictionary.{Macros, callee}
use Rattle.dx_signatures.specs.Callees.{callee_by, function_callee, CallsFunction}

found_by : (b : Bool) (g f : Function) (name : Text) (rest : Option Function) → bytes_eq (row_of g).name name ≡ b → (rest ≡ Some f → (row_of f).name ≡ name) →
    cond b (Some g) rest ≡ Some f → (row_of f).name ≡ name
found_by true g f name rest same go e = let is : g ≡ f = cc in ap (λ h. (row_of h).name) (sym is) ∙ (bytes_eq-Decides (row_of g).name name).0 same
found_by false g f name rest same go e = go e

found_in : (fs : List Function) (f : Function) (name : Text) → find (λ g. bytes_eq (row_of g).name name) fs ≡ Some f → (row_of f).name ≡ name
found_in [] f name e = cc
found_in (g ∷ rest) f name e = found_by (bytes_eq (row_of g).name name) g f name (find (λ h. bytes_eq (row_of h).name name) rest) refl (found_in rest f name) e

by_function : (o : Option Function) (f : Function) (name : Text) → (o ≡ Some f → (row_of f).name ≡ name) → function_callee o ≡ CallsFunction f → (row_of f).name ≡ name
by_function None f name go e = cc
by_function (Some g) f name go e = let is : g ≡ f = cc in go (ap Some is)

by_callee : (m : Option Macro) (o : Option Function) (f : Function) (name : Text) → (o ≡ Some f → (row_of f).name ≡ name) → callee_by m o ≡ CallsFunction f → (row_of f).name ≡ name
by_callee None o f name go e = by_function o f name go e
by_callee (Some m) o f name go e = cc

pub name_called : (macros : Macros) (f : Function) (name : Text) → callee macros name ≡ CallsFunction f → (row_of f).name ≡ name
name_called macros f name e = by_callee (macros name) (function_named name) f name (found_in functions f name) e
