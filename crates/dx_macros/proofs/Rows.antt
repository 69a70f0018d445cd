-- Worked examples of what names mean, of effects and of static faults, by computation.
use Rattle.std.proofs.Common.{◌≡◌, ℕ, zero, suc, pos, List, [], ◌∷◌, ◌++◌, Option, Some, None, refl, map, option_map}
use Rattle.std.specs.Prelude.{codes}
use Rattle.dx_base.specs.declared.function.Effect.TheVariants as effect
use Rattle.dx_base.specs.declared.function.Function.{Function}
use Rattle.dx_base.specs.declared.function.Function.TheVariants as function
use Rattle.dx_ast.specs.declared.constants.Const.TheVariants as const
use Rattle.dx_ast.specs.declared.sequencing.FrameVar.TheVariants as frame
use Rattle.dx_ast.specs.declared.sequencing.Frames.{Frames}
use Rattle.dx_ast.specs.declared.statements.Param.{Param}
use Rattle.dx_ast.specs.Classes.{Text}
use Rattle.dx_ast.specs.Syntax.{Expr, Constant, Name, Frame, CallOf, Call, MakeCall, Args, NoArg, AndArg, Stmt, Assigns, Calls, Sequences, Macro, MakeMacro, Stmts, NoStmt, AndStmt}
use Rattle.dx_signatures.specs.declared.fault.StaticFault.{StaticFault}
use Rattle.dx_signatures.specs.declared.fault.StaticFault.TheVariants as fault
use Rattle.dx_macros.specs.Site.{Step, Nth, Target, steps_text}
use Rattle.dx_macros.specs.Tree.{ConstantTree, CallTree, TreeCall, Trees, NoTree, AndTree}
use Rattle.dx_macros.specs.Dictionary.{Macros, Dictionary, no_macros, with_macro}
use Rattle.dx_definitions.specs.TopTexts.{TopText}
use Rattle.dx_macros.specs.Expansion.{effects, null_tree}
use Rattle.dx_macros.specs.Walk.{Fault, first_fault}

-- ---- short forms for scripts

abbrev echo : Function
echo = function.Effect effect.Echo

abbrev call : Text → Args → Call
call name args = MakeCall name 1 args

abbrev arg : Expr → Args → Args
arg e args = AndArg None e args

abbrev named : Text → Expr → Args → Args
named n e args = AndArg (Some n) e args

abbrev int : ℕ → Expr
int n = Constant (const.Int (pos n))

abbrev text : Text → Expr
text t = Constant (const.Text t)

abbrev of_call : Text → Args → Expr
of_call name args = CallOf (call name args)

abbrev top : Text → Expr → TopText
top t e = record { targets = t ∷ []; value = e }

abbrev stmts : List Stmt → Stmts
stmts [] = NoStmt
stmts (s ∷ rest) = AndStmt s (stmts rest)

abbrev set : Text → Expr → Stmt
set t e = Assigns (t ∷ []) e

abbrev macro : Text → List Param → List Text → List Stmt → Macro
macro name params results body = MakeMacro name params results (stmts body)

abbrev param : Text → Param
param n = record { name = n; default = None }

abbrev one_macro : Macro → Macros
one_macro m = with_macro m no_macros

abbrev frames : Frames
frames = record { start = pos 1; end = pos 100; delta = pos 1; next = pos 1; frame = pos 9 }

-- a call's function, its site and path, and its arguments
abbrev Shown : Type 0
Shown = Function × List Step × List Step × Trees

abbrev show : CallTree → Shown
show (TreeCall f p args) = (f, p.site, p.path, args)

abbrev shown : Dictionary → Stmt → List Shown
shown d s = map show (effects d frames s)

abbrev fault_shown : Dictionary → Stmt → Option (List Step × StaticFault)
fault_shown d s = option_map (λ (f : Fault). (f.site, f.fault)) (first_fault d s)

abbrev ints : List ℕ → Trees
ints [] = NoTree
ints (n ∷ rest) = AndTree (ConstantTree (const.Int (pos n))) (ints rest)

-- ---- defaults, results, arguments by name

-- `macro m(a, b = 2) -> (r, s) { r = b; s = a; }`
abbrev m : Macro
m = macro (codes "m") (param (codes "a") ∷ record { name = codes "b"; default = Some (const.Int (pos 2)) } ∷ []) (codes "r" ∷ codes "s" ∷ [])
    (set (codes "r") (Name (codes "b")) ∷ set (codes "s") (Name (codes "a")) ∷ [])

-- `x, y = m(7);`
abbrev d : Dictionary
d = record { macros = one_macro m; definitions = record { targets = codes "x" ∷ codes "y" ∷ []; value = of_call (codes "m") (arg (int 7) NoArg) } ∷ [] }

abbrev echo_xy : Call
echo_xy = call (codes "Echo") (arg (Name (codes "x")) (arg (Name (codes "y")) NoArg))

-- `Echo(x, y);` shows `2 7`
pub results_by_target : shown d (Calls echo_xy) ≡ (echo, (Nth (codes "Echo") 1 ∷ []), [], ints (2 ∷ 7 ∷ [])) ∷ []
results_by_target = refl

-- `Echo(m(b = 9, a = 1));` shows `9`
pub first_result : shown d (Calls (call (codes "Echo") (arg (of_call (codes "m") (named (codes "b") (int 9) (named (codes "a") (int 1) NoArg))) NoArg))) ≡ (echo, (Nth (codes "Echo") 1 ∷ []), [], ints (9 ∷ [])) ∷ []
first_result = refl

pub no_fault : fault_shown d (Calls echo_xy) ≡ None
no_fault = refl

-- a sequence call stands as a call at the top level
pub sequence_call : shown d (Sequences echo_xy) ≡ shown d (Calls echo_xy)
sequence_call = refl

-- an unbound name: `Echo(z);`
pub unbound : shown d (Calls (call (codes "Echo") (arg (Name (codes "z")) NoArg))) ≡ (echo, (Nth (codes "Echo") 1 ∷ []), [], AndTree null_tree NoTree) ∷ []
unbound = refl

-- ---- faults of one call: `Echo(m(1, 2, 3));`, `Echo(m(c = 1));`, `Echo(m(1, a = 1));`, `z, w = Echo("q");`, `Foo();`

pub too_many_arguments : fault_shown d (Calls (call (codes "Echo") (arg (of_call (codes "m") (arg (int 1) (arg (int 2) (arg (int 3) NoArg)))) NoArg))) ≡ Some ((Nth (codes "m") 1 ∷ []), fault.TooManyArguments)
too_many_arguments = refl

pub no_such_parameter : fault_shown d (Calls (call (codes "Echo") (arg (of_call (codes "m") (named (codes "c") (int 1) NoArg)) NoArg))) ≡ Some ((Nth (codes "m") 1 ∷ []), fault.NoSuchParameter)
no_such_parameter = refl

pub given_already : fault_shown d (Calls (call (codes "m") (arg (int 1) (named (codes "a") (int 1) NoArg)))) ≡ Some ((Nth (codes "m") 1 ∷ []), fault.NoSuchParameter)
given_already = refl

pub too_many_results : fault_shown d (Assigns (codes "z" ∷ codes "w" ∷ []) (of_call (codes "Echo") (arg (text (codes "q")) NoArg))) ≡ Some ((Target (codes "z") ∷ Nth (codes "Echo") 1 ∷ []), fault.TooManyResults)
too_many_results = refl

pub too_many_results_text : option_map (λ (f : Fault). steps_text f.site) (first_fault d (Assigns (codes "z" ∷ codes "w" ∷ []) (of_call (codes "Echo") (arg (text (codes "q")) NoArg)))) ≡ Some (codes "z" ++ 47 ∷ steps_text (Nth (codes "Echo") 1 ∷ []))
too_many_results_text = refl

pub unknown : fault_shown d (Calls (call (codes "Foo") NoArg)) ≡ Some ((Nth (codes "Foo") 1 ∷ []), fault.UnknownFunction)
unknown = refl

-- ---- a definition is read with the macro then current

-- `macro m(a) -> (r) { r = a; }`, or with another constant in its place
abbrev giving : Expr → Macro
giving e = macro (codes "m") (param (codes "a") ∷ []) (codes "r" ∷ []) (set (codes "r") e ∷ [])

-- `y = m(5);`
abbrev y : TopText
y = top (codes "y") (of_call (codes "m") (arg (int 5) NoArg))

abbrev echo_y : Stmt
echo_y = Calls (call (codes "Echo") (arg (Name (codes "y")) NoArg))

pub as_it_was : shown (record { macros = one_macro (giving (Name (codes "a"))); definitions = y ∷ [] }) echo_y ≡ (echo, (Nth (codes "Echo") 1 ∷ []), [], ints (5 ∷ [])) ∷ []
as_it_was = refl

pub redefined : shown (record { macros = with_macro (giving (int 8)) (one_macro (giving (Name (codes "a")))); definitions = y ∷ [] }) echo_y ≡ (echo, (Nth (codes "Echo") 1 ∷ []), [], ints (8 ∷ [])) ∷ []
redefined = refl

-- so a definition that joined without a fault can come to have one, whose site begins with the definition's target
pub redefined_fault : fault_shown (record { macros = with_macro (macro (codes "m") [] [] []) (one_macro (giving (int 8))); definitions = y ∷ [] }) echo_y ≡ Some ((Target (codes "y") ∷ Nth (codes "m") 1 ∷ []), fault.TooManyArguments)
redefined_fault = refl

-- ---- the names in a definition mean what they meant where it was made

-- `p = 3; y = p; p = 100; z = @frame;`
abbrev kept : Dictionary
kept = record { macros = no_macros; definitions = top (codes "p") (int 3) ∷ top (codes "y") (Name (codes "p")) ∷ top (codes "p") (int 100) ∷ top (codes "z") (Frame frame.Frame) ∷ [] }

pub names_at_their_places : shown kept (Calls (call (codes "Echo") (arg (Name (codes "y")) (arg (Name (codes "p")) (arg (Name (codes "z")) NoArg))))) ≡ (echo, (Nth (codes "Echo") 1 ∷ []), [], ints (3 ∷ 100 ∷ 9 ∷ [])) ∷ []
names_at_their_places = refl

-- ---- nesting

-- `macro mI() { mJ(); }` for some I below J, and the last calls Echo
abbrev step_name : ℕ → Text
step_name i = codes "m" ++ i ∷ []

abbrev chain : ℕ → ℕ → Macros
chain zero i = one_macro (macro (step_name i) [] [] (Calls (call (codes "Echo") (arg (text (codes "x")) NoArg)) ∷ []))
chain (suc n) i = with_macro (macro (step_name i) [] [] (Calls (call (step_name (suc i)) NoArg) ∷ [])) (chain n (suc i))

abbrev steps : ℕ → ℕ → List Step
steps zero i = []
steps (suc n) i = Nth (step_name i) 1 ∷ steps n (suc i)

pub deepest : fault_shown (record { macros = chain 63 1; definitions = [] }) (Calls (call (step_name 1) NoArg)) ≡ None
deepest = refl

pub too_deep : fault_shown (record { macros = chain 64 1; definitions = [] }) (Calls (call (step_name 1) NoArg)) ≡ Some (steps 65 1, fault.Nesting)
too_deep = refl

pub deepest_effect : shown (record { macros = chain 63 1; definitions = [] }) (Calls (call (step_name 1) NoArg)) ≡ (echo, steps 64 1 ++ Nth (codes "Echo") 1 ∷ [], steps 64 1, AndTree (ConstantTree (const.Text (codes "x"))) NoTree) ∷ []
deepest_effect = refl

-- `macro r() { r(); r(); } r();`
abbrev same_steps : ℕ → List Step
same_steps zero = []
same_steps (suc n) = Nth (codes "r") 1 ∷ same_steps n

pub recursion : fault_shown (record { macros = one_macro (macro (codes "r") [] [] (Calls (call (codes "r") NoArg) ∷ Calls (call (codes "r") NoArg) ∷ [])); definitions = [] }) (Calls (call (codes "r") NoArg)) ≡ Some (same_steps 65, fault.Nesting)
recursion = refl

-- ---- the order of effects: calls in arguments before the call, a body at its call, none of definitions; `k` by the text

-- `macro f(a) -> (r) { Echo(a); r = a; Echo(2); }`, `y = f(1);`, `Echo(f(5), y, f(6));`
abbrev f : Macro
f = macro (codes "f") (param (codes "a") ∷ []) (codes "r" ∷ [])
    (Calls (call (codes "Echo") (arg (Name (codes "a")) NoArg)) ∷ set (codes "r") (Name (codes "a")) ∷ Calls (call (codes "Echo") (arg (int 2) NoArg)) ∷ [])

abbrev with_effects : Dictionary
with_effects = record { macros = one_macro f; definitions = top (codes "y") (of_call (codes "f") (arg (int 1) NoArg)) ∷ [] }

abbrev echo_f : Stmt
echo_f = Calls (call (codes "Echo") (arg (of_call (codes "f") (arg (int 5) NoArg)) (arg (Name (codes "y")) (arg (of_call (codes "f") (arg (int 6) NoArg)) NoArg))))

pub effects_without_fault : fault_shown with_effects echo_f ≡ None
effects_without_fault = refl

pub effects_in_order : shown with_effects echo_f ≡
    (echo, (Nth (codes "f") 1 ∷ Nth (codes "Echo") 1 ∷ []), (Nth (codes "f") 1 ∷ []), ints (5 ∷ [])) ∷ (echo, (Nth (codes "f") 1 ∷ Nth (codes "Echo") 2 ∷ []), (Nth (codes "f") 1 ∷ []), ints (2 ∷ [])) ∷
    (echo, (Nth (codes "f") 2 ∷ Nth (codes "Echo") 1 ∷ []), (Nth (codes "f") 2 ∷ []), ints (6 ∷ [])) ∷ (echo, (Nth (codes "f") 2 ∷ Nth (codes "Echo") 2 ∷ []), (Nth (codes "f") 2 ∷ []), ints (2 ∷ [])) ∷
    (echo, (Nth (codes "Echo") 1 ∷ []), [], ints (5 ∷ 1 ∷ 6 ∷ [])) ∷ []
effects_in_order = refl

-- ---- a chain of definitions: `x0 = 7; x1 = x0; ..`, and `Echo(x12);`

abbrev x : ℕ → Text
x i = codes "x" ++ i ∷ []

abbrev aliases : ℕ → List TopText
aliases zero = top (x 0) (int 7) ∷ []
aliases (suc n) = aliases n ++ top (x (suc n)) (Name (x n)) ∷ []

pub chain_means : shown (record { macros = no_macros; definitions = aliases 12 }) (Calls (call (codes "Echo") (arg (Name (x 12)) NoArg))) ≡ (echo, (Nth (codes "Echo") 1 ∷ []), [], ints (7 ∷ [])) ∷ []
chain_means = refl

pub chain_has_no_fault : fault_shown (record { macros = no_macros; definitions = aliases 12 }) (Calls (call (codes "Echo") (arg (Name (x 12)) NoArg))) ≡ None
chain_has_no_fault = refl
