-- The calls of a text's parts, as many as the parts of a part make, so that there are numbers for the nodes of each.
use Rattle.std.proofs.Common.{◌≡◌, ℕ, suc, ◌+◌, ◌<◌, ◌≤◌, List, ◌∷◌, length, get_or, drop, sym, ap, ◌∙◌, arith}
use Rattle.std.proofs.lemmas.List.{drop_more, drop_all}
use Rattle.dx_ast.specs.Classes.{Text as Name}
use Rattle.dx_ast.specs.declared.expressions.Arg.{Arg, out-Arg}
use Rattle.dx_ast.specs.declared.expressions.Call.{Call, out-Call}
use Rattle.dx_ast.specs.declared.statements.Assign.{Assign}
use Rattle.dx_ast.specs.declared.statements.Stmt.{Stmt}
use Rattle.dx_ast.specs.declared.statements.Stmt.TheVariants as stmt
use Rattle.dx_ast.specs.declared.statements.MacroDef.{MacroDef, out-MacroDef}
use Rattle.dx_ast.specs.Plain.{plain_expr, plain_call, plain_args, plain_macro, plain_stmt, plain_stmts}
use Rattle.dx_ast.specs.Syntax as syntax
use Rattle.dx_ast.proofs.PlainLaws.{plain_call_out, plain_macro_out}
use Rattle.dx_counting.specs.Counting.{count_callee, count_macro, count_statement}
use Rattle.dx_macros.proofs.Doing.{stmt_call, stmt_assign}
use Rattle.dx_macros.specs.Dictionary.{callee}
use Rattle.dx_signatures.specs.Callees.{Callee, CallsMacro}
use Rattle.dx_texts.specs.Expanding.{dictionary_in}
use Rattle.dx_texts.specs.Numbering.{macro_calls, expr_calls, call_calls, args_calls, callee_calls, statement_calls, body_calls}
use Rattle.dx_texts.specs.declared.text.World.{World}
use Rattle.dx_texts.specs.declared.text.Text.{Text}

module _ (w : World) (t : Text) where
  -- a call: itself, its arguments, and what it calls
  pub call_makes : (c : Call) (args : List Arg) → args ≡ (out-Call c).args → call_calls w t (plain_call c) ≡ suc (args_calls w t (plain_args args) + callee_calls w t (out-Call c).name)
  call_makes c args e =
      ap (call_calls w t) (plain_call_out c)
      ∙ ap (λ (xs : List Arg). suc (args_calls w t (plain_args xs) + callee_calls w t (out-Call c).name)) (sym e)

  pub macro_makes : (name : Name) (m : syntax.Macro) → callee (dictionary_in w).macros name ≡ CallsMacro m → callee_calls w t name ≡ macro_calls w t m
  macro_makes name m e = ap (λ (c : Callee). count_callee (macro_calls w t) c) e

  -- the arguments from one on: it, and those behind it
  pub args_make : (args : List Arg) (i : ℕ) (a : Arg) → i < length args → a ≡ get_or args i a →
      args_calls w t (plain_args (drop i args)) ≡ expr_calls w t (plain_expr (out-Arg a).value) + args_calls w t (plain_args (drop (i + 1) args))
  args_make args i a lt e = ap (λ (xs : List Arg). args_calls w t (plain_args xs)) (drop_more args i a lt ∙ ap (λ (x : Arg). x ∷ drop (i + 1) args) (sym e))

  pub no_args_make : (args : List Arg) (i : ℕ) → length args ≤ i → args_calls w t (plain_args (drop i args)) ≡ 0
  no_args_make args i le = ap (λ (xs : List Arg). args_calls w t (plain_args xs)) (drop_all i args le)

  -- the same of statements
  pub body_makes : (body : List Stmt) (i : ℕ) (s : Stmt) → i < length body → s ≡ get_or body i s →
      body_calls w t (plain_stmts (drop i body)) ≡ statement_calls w t (plain_stmt s) + body_calls w t (plain_stmts (drop (i + 1) body))
  body_makes body i s lt e = ap (λ (xs : List Stmt). body_calls w t (plain_stmts xs)) (drop_more body i s lt ∙ ap (λ (x : Stmt). x ∷ drop (i + 1) body) (sym e))

  pub no_body_makes : (body : List Stmt) (i : ℕ) → length body ≤ i → body_calls w t (plain_stmts (drop i body)) ≡ 0
  no_body_makes body i le = ap (λ (xs : List Stmt). body_calls w t (plain_stmts xs)) (drop_all i body le)

  pub call_statement_makes : (s : Stmt) (c : Call) → s ≡ stmt.Call c → statement_calls w t (plain_stmt s) ≡ call_calls w t (plain_call c)
  call_statement_makes s c is = ap (statement_calls w t) (ap plain_stmt is ∙ stmt_call c)

  pub assignment_makes : (s : Stmt) (a : Assign) → s ≡ stmt.Assign a → statement_calls w t (plain_stmt s) ≡ expr_calls w t (plain_expr a.value)
  assignment_makes s a is = ap (statement_calls w t) (ap plain_stmt is ∙ stmt_assign a)

  -- a macro: its body, with one step less
  pub macro_makes_body : (inner : Text) (m : MacroDef) (body : List Stmt) → inner.left + 1 ≡ t.left → body ≡ (out-MacroDef m).body →
      macro_calls w t (plain_macro m) ≡ body_calls w inner (plain_stmts body)
  macro_makes_body inner m body l e =
      let left : t.left ≡ suc inner.left = omega (arith, l) in
      ap (macro_calls w t) (plain_macro_out m)
      ∙ ap (λ (n : ℕ). count_macro (dictionary_in w).macros n (syntax.MakeMacro (out-MacroDef m).name (out-MacroDef m).params (out-MacroDef m).results (plain_stmts (out-MacroDef m).body))) left
      ∙ ap (λ (xs : List Stmt). body_calls w inner (plain_stmts xs)) (sym e)

-- the calls don't rest on what a text's own names mean
pub same_statement : (w : World) (old new : Text) (s : syntax.Stmt) → new.left ≡ old.left → statement_calls w new s ≡ statement_calls w old s
same_statement w old new s e = ap (λ (n : ℕ). count_statement (dictionary_in w).macros (count_macro (dictionary_in w).macros n) s) e
