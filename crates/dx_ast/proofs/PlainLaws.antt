-- One level of a plain tree at a time.
use Rattle.std.proofs.Common.{◌≡◌, List, [], ◌∷◌, map, refl, ap, ap₂, ◌∙◌}
use Rattle.dx_ast.specs.Syntax as plain
use Rattle.dx_ast.specs.declared.expressions.Expr.{Expr, fold_out-Expr, out-Expr, map-Expr}
use Rattle.dx_ast.specs.declared.expressions.Expr.TheOpen.{Expr-F, Constant, Name, Frame, Call as CallOf}
use Rattle.dx_ast.specs.declared.expressions.Arg.{Arg, fold_out-Arg, fold-Arg}
use Rattle.dx_ast.specs.declared.expressions.Call.{Call, out-Call, fold_out-Call}
use Rattle.dx_ast.specs.declared.statements.Stmt.{Stmt, fold_out-Stmt, out-Stmt, map-Stmt}
use Rattle.dx_ast.specs.declared.statements.Stmt.TheOpen.{Stmt-F, Assign as Assigns, Call as Calls, Macro as Defines, Include, SetFrame, Word, Sequence}
use Rattle.dx_ast.specs.declared.statements.MacroDef.{MacroDef, out-MacroDef, fold_out-MacroDef}
use Rattle.dx_ast.specs.Plain.{PlainArg, args_of, expr_step, arg_step, call_step, plain_expr, plain_call, plain_args, stmts_of, stmt_step, macro_step, plain_stmt, plain_macro, plain_stmts}

-- ---- expressions

abbrev pub expr_layer : Expr-F Expr Arg Call → plain.Expr
expr_layer (Constant c) = plain.Constant c
expr_layer (Name n) = plain.Name n
expr_layer (Frame v) = plain.Frame v
expr_layer (CallOf c) = plain.CallOf (plain_call c)

layer : (x : Expr-F Expr Arg Call) → expr_step (map-Expr Expr Arg Call plain.Expr PlainArg plain.Call plain_expr (fold-Arg plain.Expr PlainArg plain.Call expr_step arg_step call_step) plain_call x) ≡ expr_layer x
layer (Constant c) = refl
layer (Name n) = refl
layer (Frame v) = refl
layer (CallOf c) = refl

pub plain_expr_out : (e : Expr) → plain_expr e ≡ expr_layer (out-Expr e)
plain_expr_out e = fold_out-Expr plain.Expr PlainArg plain.Call expr_step arg_step call_step e ∙ layer (out-Expr e)

args_folded : (xs : List Arg) → args_of (map (fold-Arg plain.Expr PlainArg plain.Call expr_step arg_step call_step) xs) ≡ plain_args xs
args_folded [] = refl
args_folded (a ∷ rest) =
    ap₂ (λ (p : PlainArg) (others : plain.Args). plain.AndArg p.0 p.1 others) (fold_out-Arg plain.Expr PlainArg plain.Call expr_step arg_step call_step a) (args_folded rest)

pub plain_call_out : (c : Call) → plain_call c ≡ plain.MakeCall (out-Call c).name (out-Call c).cache (plain_args (out-Call c).args)
plain_call_out c = fold_out-Call plain.Expr PlainArg plain.Call expr_step arg_step call_step c ∙ ap (plain.MakeCall (out-Call c).name (out-Call c).cache) (args_folded (out-Call c).args)

-- ---- statements

abbrev pub stmt_layer : Stmt-F Stmt MacroDef → plain.Stmt
stmt_layer (Assigns a) = plain.Assigns a.targets (plain_expr a.value)
stmt_layer (Calls c) = plain.Calls (plain_call c)
stmt_layer (Defines m) = plain.Defines (plain_macro m)
stmt_layer (Include name) = plain.Includes name
stmt_layer (SetFrame v e) = plain.Sets v (plain_expr e)
stmt_layer (Word w) = plain.Says w
stmt_layer (Sequence c) = plain.Sequences (plain_call c)

stmt_folded : (x : Stmt-F Stmt MacroDef) → stmt_step (map-Stmt Stmt MacroDef plain.Stmt plain.Macro plain_stmt plain_macro x) ≡ stmt_layer x
stmt_folded (Assigns a) = refl
stmt_folded (Calls c) = refl
stmt_folded (Defines m) = refl
stmt_folded (Include name) = refl
stmt_folded (SetFrame v e) = refl
stmt_folded (Word w) = refl
stmt_folded (Sequence c) = refl

pub plain_stmt_out : (s : Stmt) → plain_stmt s ≡ stmt_layer (out-Stmt s)
plain_stmt_out s = fold_out-Stmt plain.Stmt plain.Macro stmt_step macro_step s ∙ stmt_folded (out-Stmt s)

stmts_folded : (ss : List Stmt) → stmts_of (map plain_stmt ss) ≡ plain_stmts ss
stmts_folded [] = refl
stmts_folded (s ∷ rest) = ap (plain.AndStmt (plain_stmt s)) (stmts_folded rest)

pub plain_macro_out : (m : MacroDef) → plain_macro m ≡ plain.MakeMacro (out-MacroDef m).name (out-MacroDef m).params (out-MacroDef m).results (plain_stmts (out-MacroDef m).body)
plain_macro_out m =
    fold_out-MacroDef plain.Stmt plain.Macro stmt_step macro_step m
    ∙ ap (plain.MakeMacro (out-MacroDef m).name (out-MacroDef m).params (out-MacroDef m).results) (stmts_folded (out-MacroDef m).body)
