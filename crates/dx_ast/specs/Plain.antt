-- The code's trees as plain trees.
use Rattle.std.specs.Prelude.{List, [], ◌∷◌, Option}
use Rattle.dx_ast.specs.Classes.{Text}
use Rattle.dx_ast.specs.Syntax as plain
use Rattle.dx_ast.specs.declared.expressions.Expr.{Expr, fold-Expr}
use Rattle.dx_ast.specs.declared.expressions.Expr.TheOpen.{Expr-F, Arg-F, Call-F, Constant, Name, Frame, Call as CallOf}
use Rattle.dx_ast.specs.declared.expressions.Arg.{Arg, out-Arg}
use Rattle.dx_ast.specs.declared.expressions.Call.{Call, fold-Call}
use Rattle.dx_ast.specs.declared.statements.Stmt.{Stmt, fold-Stmt}
use Rattle.dx_ast.specs.declared.statements.Stmt.TheOpen.{Stmt-F, MacroDef-F, Assign as Assigns, Call as Calls, Macro as Defines, Include, SetFrame, Word, Sequence}
use Rattle.dx_ast.specs.declared.statements.MacroDef.{MacroDef, fold-MacroDef}

-- ---- one level, with the parts in plain form

abbrev pub PlainArg : Type 0
PlainArg = Option Text × plain.Expr

abbrev pub args_of : List PlainArg → plain.Args
args_of [] = plain.NoArg
args_of (a ∷ rest) = plain.AndArg a.0 a.1 (args_of rest)

abbrev pub expr_step : Expr-F plain.Expr PlainArg plain.Call → plain.Expr
expr_step (Constant c) = plain.Constant c
expr_step (Name n) = plain.Name n
expr_step (Frame v) = plain.Frame v
expr_step (CallOf c) = plain.CallOf c

abbrev pub arg_step : Arg-F plain.Expr PlainArg plain.Call → PlainArg
arg_step a = (a.name, a.value)

abbrev pub call_step : Call-F plain.Expr PlainArg plain.Call → plain.Call
call_step c = plain.MakeCall c.name c.cache (args_of c.args)

-- ---- whole expressions

abbrev pub plain_expr : Expr → plain.Expr
plain_expr = fold-Expr plain.Expr PlainArg plain.Call expr_step arg_step call_step

abbrev pub plain_call : Call → plain.Call
plain_call = fold-Call plain.Expr PlainArg plain.Call expr_step arg_step call_step

abbrev pub plain_args : List Arg → plain.Args
plain_args [] = plain.NoArg
plain_args (a ∷ rest) = plain.AndArg (out-Arg a).name (plain_expr (out-Arg a).value) (plain_args rest)

-- ---- statements

abbrev pub stmts_of : List plain.Stmt → plain.Stmts
stmts_of [] = plain.NoStmt
stmts_of (s ∷ rest) = plain.AndStmt s (stmts_of rest)

abbrev pub stmt_step : Stmt-F plain.Stmt plain.Macro → plain.Stmt
stmt_step (Assigns a) = plain.Assigns a.targets (plain_expr a.value)
stmt_step (Calls c) = plain.Calls (plain_call c)
stmt_step (Defines m) = plain.Defines m
stmt_step (Include name) = plain.Includes name
stmt_step (SetFrame v e) = plain.Sets v (plain_expr e)
stmt_step (Word w) = plain.Says w
stmt_step (Sequence c) = plain.Sequences (plain_call c)

abbrev pub macro_step : MacroDef-F plain.Stmt plain.Macro → plain.Macro
macro_step m = plain.MakeMacro m.name m.params m.results (stmts_of m.body)

abbrev pub plain_stmt : Stmt → plain.Stmt
plain_stmt = fold-Stmt plain.Stmt plain.Macro stmt_step macro_step

abbrev pub plain_macro : MacroDef → plain.Macro
plain_macro = fold-MacroDef plain.Stmt plain.Macro stmt_step macro_step

abbrev pub plain_stmts : List Stmt → plain.Stmts
plain_stmts [] = plain.NoStmt
plain_stmts (s ∷ rest) = plain.AndStmt (plain_stmt s) (plain_stmts rest)
