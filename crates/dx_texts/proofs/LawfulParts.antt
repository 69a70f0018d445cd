-- The parts of what is lawful.
use Rattle.std.proofs.Common.{◌≡◌, ℕ, zero, suc, ◌<◌, ◌≤◌, List, [], ◌∷◌, length, get_or, Option, Some, None, option_map, refl, sym, ap, subst, ◌∙◌, arith, All}
use Rattle.std.proofs.Math.Logic.{∥∥₁_map, ∥∥₁_elim}
use Rattle.std.proofs.Props.{props}
use Rattle.dx_base.specs.NameTable.{under_name}
use Rattle.dx_base.specs.declared.function.Function.{Function}
use Rattle.dx_ast.specs.declared.expressions.Arg.{Arg, out-Arg}
use Rattle.dx_ast.specs.declared.expressions.Call.{Call, out-Call}
use Rattle.dx_ast.specs.declared.statements.Assign.{Assign}
use Rattle.dx_ast.specs.declared.statements.Param.{Param}
use Rattle.dx_ast.specs.declared.statements.Stmt.{Stmt}
use Rattle.dx_ast.specs.declared.statements.MacroDef.{MacroDef, out-MacroDef}
use Rattle.dx_ast.specs.Classes.{Text}
use Rattle.dx_ast.specs.Table.{function_named}
use Rattle.dx_ast.specs.Syntax as plain
use Rattle.dx_ast.specs.Plain.{plain_expr, plain_call, plain_args, plain_macro, plain_stmt, plain_stmts}
use Rattle.dx_ast.specs.Lawful.{IsName, IsLawfulExpr, IsLawfulCall, AreLawfulArgs, IsLawfulParam, IsLawfulInBody, IsLawfulBody, IsLawfulMacro}
use Rattle.dx_ast.proofs.PlainLaws.{plain_call_out, plain_macro_out}
use Rattle.dx_macros.specs.Dictionary.{callee}
use Rattle.dx_signatures.specs.Callees.{CallsMacro, callee_by}
use Rattle.dx_macros.specs.declared.dictionary.Dictionary.{Dictionary}
use Rattle.dx_macros.specs.DictionaryView.{dictionary_of}
use Rattle.dx_macros.proofs.Doing.{stmt_assign}
use Rattle.dx_ast.specs.declared.statements.Stmt.TheVariants as stmt

-- ---- calls

call_out : (c : Call) → IsLawfulCall (plain_call c) → IsLawfulCall (plain.MakeCall (out-Call c).name (out-Call c).cache (plain_args (out-Call c).args))
call_out c h = subst IsLawfulCall (plain_call_out c) h

pub call_args : (c : Call) (args : List Arg) → args ≡ (out-Call c).args → ∥ IsLawfulCall (plain_call c) ∥₁ → ∥ AreLawfulArgs (plain_args args) ∥₁
call_args c args e h = ∥∥₁_map h (λ l. subst (λ (xs : List Arg). AreLawfulArgs (plain_args xs)) (sym e) (call_out c l).3)

pub call_name : (c : Call) → ∥ IsLawfulCall (plain_call c) ∥₁ → IsName (out-Call c).name
call_name c h = ∥∥₁_elim h (hlevel props) (λ l. (call_out c l).0)

pub call_cache : (c : Call) → ∥ IsLawfulCall (plain_call c) ∥₁ → (out-Call c).cache ≤ 2
call_cache c h = ∥∥₁_elim h (hlevel props) (λ l. (call_out c l).1)

arg_at : (args : List Arg) (i : ℕ) (a : Arg) → i < length args → a ≡ get_or args i a → AreLawfulArgs (plain_args args) → IsLawfulExpr (plain_expr (out-Arg a).value)
arg_at [] i a h e l = absurd (omega arith)
arg_at (x ∷ args) zero a h e l = subst (λ (y : Arg). IsLawfulExpr (plain_expr (out-Arg y).value)) (sym e) l.1
arg_at (x ∷ args) (suc i) a h e l = arg_at args i a (omega arith) e l.2

pub arg_lawful : (args : List Arg) (i : ℕ) (a : Arg) → i < length args → a ≡ get_or args i a → ∥ AreLawfulArgs (plain_args args) ∥₁ → ∥ IsLawfulExpr (plain_expr (out-Arg a).value) ∥₁
arg_lawful args i a h e l = ∥∥₁_map l (λ all. arg_at args i a h e all)

-- ---- macros

macro_out : (m : MacroDef) → IsLawfulMacro (plain_macro m) → IsLawfulMacro (plain.MakeMacro (out-MacroDef m).name (out-MacroDef m).params (out-MacroDef m).results (plain_stmts (out-MacroDef m).body))
macro_out m h = subst IsLawfulMacro (plain_macro_out m) h

pub macro_params : (m : MacroDef) (ps : List Param) → ps ≡ (out-MacroDef m).params → ∥ IsLawfulMacro (plain_macro m) ∥₁ → ∥ All IsLawfulParam ps ∥₁
macro_params m ps e h = ∥∥₁_map h (λ l. subst (λ (xs : List Param). All IsLawfulParam xs) (sym e) (macro_out m l).2)

pub macro_body : (m : MacroDef) (body : List Stmt) → body ≡ (out-MacroDef m).body → ∥ IsLawfulMacro (plain_macro m) ∥₁ → ∥ IsLawfulBody (plain_stmts body) ∥₁
macro_body m body e h = ∥∥₁_map h (λ l. subst (λ (xs : List Stmt). IsLawfulBody (plain_stmts xs)) (sym e) (macro_out m l).4)

stmt_at : (body : List Stmt) (i : ℕ) (s : Stmt) → i < length body → s ≡ get_or body i s → IsLawfulBody (plain_stmts body) → IsLawfulInBody (plain_stmt s)
stmt_at [] i s h e l = absurd (omega arith)
stmt_at (x ∷ body) zero s h e l = subst (λ (y : Stmt). IsLawfulInBody (plain_stmt y)) (sym e) l.0
stmt_at (x ∷ body) (suc i) s h e l = stmt_at body i s (omega arith) e l.1

pub stmt_lawful : (body : List Stmt) (i : ℕ) (s : Stmt) → i < length body → s ≡ get_or body i s → ∥ IsLawfulBody (plain_stmts body) ∥₁ → ∥ IsLawfulInBody (plain_stmt s) ∥₁
stmt_lawful body i s h e l = ∥∥₁_map l (λ all. stmt_at body i s h e all)

pub assigned_value : (s : Stmt) (a : Assign) → s ≡ stmt.Assign a → ∥ IsLawfulInBody (plain_stmt s) ∥₁ → ∥ IsLawfulExpr (plain_expr a.value) ∥₁
assigned_value s a is h = ∥∥₁_map h (λ l. (subst IsLawfulInBody (ap plain_stmt is ∙ stmt_assign a) l).value)

-- ---- what a name calls

called_by : (o : Option plain.Macro) (f : Option Function) (m : plain.Macro) → callee_by o f ≡ CallsMacro m → o ≡ Some m
called_by (Some x) f m e = let same : x ≡ m = cc in ap Some same
called_by None None m e = cc
called_by None (Some h) m e = cc

pub known_macro : (d : Dictionary) (name : Text) (m : plain.Macro) → callee (dictionary_of d).macros name ≡ CallsMacro m → (dictionary_of d).macros name ≡ Some m
known_macro d name m e = called_by ((dictionary_of d).macros name) (function_named name) m e

lawful_by : (o : Option MacroDef) (m : plain.Macro) → option_map plain_macro o ≡ Some m → ((x : MacroDef) → o ≡ Some x → IsLawfulMacro (plain_macro x)) → IsLawfulMacro m
lawful_by None m e h = cc
lawful_by (Some x) m e h = let same : plain_macro x ≡ m = cc in subst IsLawfulMacro same (h x refl)

pub known_lawful : (d : Dictionary) (name : Text) (m : plain.Macro) → (dictionary_of d).macros name ≡ Some m → ∥ IsLawfulMacro m ∥₁
known_lawful d name m e = ∥∥₁_map d.lawful_macros (λ all. lawful_by (under_name d.macros name) m e (λ x h. all name x h))

-- ---- definitions
