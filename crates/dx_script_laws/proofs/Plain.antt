-- The plain forms of the trees that the rules make.
use Rattle.std.proofs.Common.{◌≡◌, ℕ, List, Option, ap, ◌∙◌}
use Rattle.dx_ast.specs.Syntax as plain
use Rattle.dx_ast.specs.Plain.{plain_expr, plain_call, plain_args, plain_stmt, plain_stmts}
use Rattle.dx_ast.specs.declared.constants.Const.{Const}
use Rattle.dx_ast.specs.declared.sequencing.FrameVar.{FrameVar}
use Rattle.dx_ast.specs.declared.sequencing.Word.{Word}
use Rattle.dx_ast.specs.declared.expressions.Expr.{Expr}
use Rattle.dx_ast.specs.declared.expressions.Expr.TheVariants as expr
use Rattle.dx_ast.specs.declared.expressions.Call.{Call, roll-Call, out-roll-Call}
use Rattle.dx_ast.specs.declared.expressions.Arg.{Arg, roll-Arg, out-Arg, out-roll-Arg}
use Rattle.dx_ast.specs.declared.statements.Assign.{Assign}
use Rattle.dx_ast.specs.declared.statements.Param.{Param}
use Rattle.dx_ast.specs.declared.statements.MacroDef.{roll-MacroDef, out-roll-MacroDef}
use Rattle.dx_ast.specs.declared.statements.Stmt.{Stmt}
use Rattle.dx_ast.specs.declared.statements.Stmt.TheVariants as stmt
use Rattle.dx_ast.specs.Classes.{Text}
use Rattle.dx_ast.proofs.PlainLaws.{expr_layer, plain_expr_out, plain_call_out, stmt_layer, plain_stmt_out, plain_macro_out}

-- ---- expressions

pub plain_constant : (c : Const) → plain_expr (expr.Constant c) ≡ plain.Constant c
plain_constant c = plain_expr_out (expr.Constant c) ∙ ap expr_layer (expr.outs-Constant c)

pub plain_name : (n : Text) → plain_expr (expr.Name n) ≡ plain.Name n
plain_name n = plain_expr_out (expr.Name n) ∙ ap expr_layer (expr.outs-Name n)

pub plain_frame : (v : FrameVar) → plain_expr (expr.Frame v) ≡ plain.Frame v
plain_frame v = plain_expr_out (expr.Frame v) ∙ ap expr_layer (expr.outs-Frame v)

pub plain_called : (c : Call) → plain_expr (expr.Call c) ≡ plain.CallOf (plain_call c)
plain_called c = plain_expr_out (expr.Call c) ∙ ap expr_layer (expr.outs-Call c)

pub plain_call_made : (n : Text) (args : List Arg) (cache : ℕ) → plain_call (roll-Call (record { name = n; args = args; cache = cache })) ≡ plain.MakeCall n cache (plain_args args)
plain_call_made n args cache =
    plain_call_out (roll-Call (record { name = n; args = args; cache = cache }))
    ∙ ap (λ x. plain.MakeCall x.name x.cache (plain_args x.args)) (out-roll-Call (record { name = n; args = args; cache = cache }))

pub arg_made : (n : Option Text) (e : Expr) → out-Arg (roll-Arg (record { name = n; value = e })) ≡ record { name = n; value = e }
arg_made n e = out-roll-Arg (record { name = n; value = e })

-- ---- statements

pub plain_assign : (a : Assign) → plain_stmt (stmt.Assign a) ≡ plain.Assigns a.targets (plain_expr a.value)
plain_assign a = plain_stmt_out (stmt.Assign a) ∙ ap stmt_layer (stmt.outs-Assign a)

pub plain_calling : (c : Call) → plain_stmt (stmt.Call c) ≡ plain.Calls (plain_call c)
plain_calling c = plain_stmt_out (stmt.Call c) ∙ ap stmt_layer (stmt.outs-Call c)

pub plain_include : (n : Text) → plain_stmt (stmt.Include n) ≡ plain.Includes n
plain_include n = plain_stmt_out (stmt.Include n) ∙ ap stmt_layer (stmt.outs-Include n)

pub plain_set : (v : FrameVar) (e : Expr) → plain_stmt (stmt.SetFrame v e) ≡ plain.Sets v (plain_expr e)
plain_set v e = plain_stmt_out (stmt.SetFrame v e) ∙ ap stmt_layer (stmt.outs-SetFrame v e)

pub plain_word : (w : Word) → plain_stmt (stmt.Word w) ≡ plain.Says w
plain_word w = plain_stmt_out (stmt.Word w) ∙ ap stmt_layer (stmt.outs-Word w)

pub plain_sequence : (c : Call) → plain_stmt (stmt.Sequence c) ≡ plain.Sequences (plain_call c)
plain_sequence c = plain_stmt_out (stmt.Sequence c) ∙ ap stmt_layer (stmt.outs-Sequence c)

pub plain_macro_made : (n : Text) (ps : List Param) (rs : List Text) (body : List Stmt)
    → plain_stmt (stmt.Macro (roll-MacroDef (record { name = n; params = ps; results = rs; body = body }))) ≡ plain.Defines (plain.MakeMacro n ps rs (plain_stmts body))
plain_macro_made n ps rs body =
    plain_stmt_out (stmt.Macro (roll-MacroDef (record { name = n; params = ps; results = rs; body = body })))
    ∙ ap stmt_layer (stmt.outs-Macro (roll-MacroDef (record { name = n; params = ps; results = rs; body = body })))
    ∙ ap plain.Defines (plain_macro_out (roll-MacroDef (record { name = n; params = ps; results = rs; body = body }))
    ∙ ap (λ x. plain.MakeMacro x.name x.params x.results (plain_stmts x.body)) (out-roll-MacroDef (record { name = n; params = ps; results = rs; body = body })))
