-- How much of an expansion is left: each call within it has less.
use Rattle.std.proofs.Common.{◌≡◌, ℕ, zero, suc, ◌+◌, ◌*◌, ◌<◌, ◌≤◌, List, [], ◌∷◌, length, get_or, Some, sym, ap, ◌∙◌, arith}
use Rattle.dx_ast.specs.declared.expressions.Arg.{Arg, out-Arg}
use Rattle.dx_ast.specs.declared.expressions.Call.{Call, out-Call}
use Rattle.dx_ast.specs.declared.expressions.Expr.{Expr}
use Rattle.dx_ast.specs.declared.expressions.Expr as views
use Rattle.dx_ast.specs.declared.expressions.Expr.TheVariants as expr
use Rattle.dx_ast.specs.declared.statements.Assign.{Assign}
use Rattle.dx_ast.specs.declared.statements.Stmt.{Stmt}
use Rattle.dx_ast.specs.declared.statements.Stmt.TheVariants as stmt
use Rattle.dx_ast.specs.declared.statements.MacroDef.{MacroDef, out-MacroDef}
use Rattle.dx_ast.specs.Classes.{Text as Name}
use Rattle.dx_ast.specs.declared.expressions.Expr.TheOpen as layers
use Rattle.dx_ast.specs.declared.expressions.Expr.TheFolds.{fold-roll-Expr}
use Rattle.dx_ast.specs.Plain.{PlainArg, expr_step, arg_step, call_step, plain_expr, plain_call, plain_args, plain_macro, plain_stmt, plain_stmts}
use Rattle.dx_ast.specs.Syntax as plain
use Rattle.dx_ast.proofs.PlainLaws.{plain_expr_out, plain_call_out, plain_macro_out}
use Rattle.dx_macros.specs.Bound.{bound_of}
use Rattle.dx_macros.specs.Weight.{expr_weight, call_weight, args_weight, statement_weight, body_weight, macro_weight}
use Rattle.dx_macros.proofs.Doing.{stmt_assign}
use Rattle.dx_macros.proofs.Weights.{bounded}
use Rattle.dx_texts.specs.Expanding.{dictionary_in}
use Rattle.dx_texts.specs.declared.text.World.{World}
use denote.Hole.Carrier

-- more than the body of a macro has
pub cap : World → ℕ
cap w = 3 * bound_of w.dictionary.now + 3

-- ---- the parts of what is expanded

pub expr_call : (c : Call) → plain_expr (expr.Call c) ≡ plain.CallOf (plain_call c)
expr_call c = ap plain_expr (sym (expr.rolls-Call c)) ∙ fold-roll-Expr plain.Expr PlainArg plain.Call expr_step arg_step call_step (layers.Call c)

pub expr_name : (n : Name) → plain_expr (expr.Name n) ≡ plain.Name n
unfolding views.out-Expr denote.Hole.Carrier.out
expr_name n = plain_expr_out (expr.Name n)

pub in_call : (c : Call) (args : List Arg) → args ≡ (out-Call c).args → args_weight (plain_args args) < call_weight (plain_call c)
in_call c args e =
    let same = ap call_weight (plain_call_out c) in
    let parts = ap (λ (xs : List Arg). args_weight (plain_args xs)) e in
    omega (arith, same, parts)

pub call_some : (c : Call) → 0 < call_weight (plain_call c)
call_some c = let same = ap call_weight (plain_call_out c) in omega (arith, same)

pub in_args : (args : List Arg) (i : ℕ) (a : Arg) → i < length args → a ≡ get_or args i a → expr_weight (plain_expr (out-Arg a).value) < args_weight (plain_args args)
in_args [] i a h e = absurd (omega arith)
in_args (x ∷ args) zero a h e = let same = ap (λ (y : Arg). expr_weight (plain_expr (out-Arg y).value)) e in omega (arith, same)
in_args (x ∷ args) (suc i) a h e = let less = in_args args i a (omega (arith, h)) e in omega (arith, less)

pub in_body : (body : List Stmt) (i : ℕ) (s : Stmt) → i < length body → s ≡ get_or body i s → statement_weight (plain_stmt s) < body_weight [] (plain_stmts body)
in_body [] i s h e = absurd (omega arith)
in_body (x ∷ body) zero s h e = let same = ap (λ (y : Stmt). statement_weight (plain_stmt y)) e in omega (arith, same)
in_body (x ∷ body) (suc i) s h e = let less = in_body body i s (omega (arith, h)) e in omega (arith, less)

pub in_assignment : (s : Stmt) (a : Assign) → s ≡ stmt.Assign a → suc (expr_weight (plain_expr a.value)) ≡ statement_weight (plain_stmt s)
in_assignment s a is = sym (ap (λ (x : Stmt). statement_weight (plain_stmt x)) is ∙ ap statement_weight (stmt_assign a))

shorter : (results : List Name) (body : plain.Stmts) → body_weight [] body ≤ body_weight results body
shorter results plain.NoStmt = omega arith
shorter results (plain.AndStmt s rest) = let h = shorter results rest in omega (arith, h)

pub in_macro : (w : World) (name : Name) (m : MacroDef) (body : List Stmt) → (dictionary_in w).macros name ≡ Some (plain_macro m) → body ≡ (out-MacroDef m).body → 3 * body_weight [] (plain_stmts body) + 2 < cap w
unfolding cap
in_macro w name m body known e =
    let same = ap macro_weight (plain_macro_out m) in
    let parts = ap (λ (xs : List Stmt). body_weight [] (plain_stmts xs)) e in
    let less = shorter (out-MacroDef m).results (plain_stmts (out-MacroDef m).body) in
    let small = (bounded w.dictionary.now).macros name (plain_macro m) known in
    omega (arith, same, parts, less, small)

-- one macro step less pays for a body
pub one_less : (left inner n : ℕ) (w : World) → inner + 1 ≡ left → n < cap w → inner * cap w + n < left * cap w + 1
one_less left inner n w e h =
    let same : left * cap w ≡ inner * cap w + cap w = ap (λ (k : ℕ). k * cap w) (sym e) ∙ more_by inner (cap w) in
    omega (arith, same, h)
  where
    more_by : (k c : ℕ) → (k + 1) * c ≡ k * c + c
    more_by k c = grind arith
