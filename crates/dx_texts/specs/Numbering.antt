-- That each node has a number: there is room for as many as the texts make calls, and an expansion adds no more.
use Rattle.std.specs.Prelude.{ℕ, ◌+◌, ◌≤◌, length}
use Rattle.dx_ast.specs.Limits.{max_walk_calls}
use Rattle.dx_ast.specs.Syntax.{Expr, Call, Args, Stmt, Stmts, Macro}
use Rattle.dx_ast.specs.Classes.{Text as Name}
use Rattle.dx_counting.specs.Counting.{count_expr, count_call, count_args, count_callee, count_statement, count_body, count_macro}
use Rattle.dx_graph.specs.GraphView.{graph_of}
use Rattle.dx_graph.specs.declared.graph.Graph.{Graph}
use Rattle.dx_macros.specs.Dictionary.{callee}
use Rattle.dx_texts.specs.Expanding.{dictionary_in}
use Rattle.dx_texts.specs.declared.text.World.{World}
use Rattle.dx_texts.specs.declared.text.Text.{Text}

-- there are numbers for so many nodes more
abbrev pub HasNumbers : Graph → ℕ → Type 0
HasNumbers g n = length (graph_of g).nodes + n ≤ max_walk_calls

-- at most so many nodes were added
abbrev pub Adds : ℕ → Graph → Graph → Type 0
Adds n old new = length (graph_of new).nodes ≤ length (graph_of old).nodes + n

-- ---- the calls of a part of a text

abbrev pub macro_calls : World → Text → Macro → ℕ
macro_calls w t m = count_macro (dictionary_in w).macros t.left m

abbrev pub expr_calls : World → Text → Expr → ℕ
expr_calls w t e = count_expr (dictionary_in w).macros (macro_calls w t) e

abbrev pub call_calls : World → Text → Call → ℕ
call_calls w t c = count_call (dictionary_in w).macros (macro_calls w t) c

abbrev pub args_calls : World → Text → Args → ℕ
args_calls w t args = count_args (dictionary_in w).macros (macro_calls w t) args

-- those in what a name calls
abbrev pub callee_calls : World → Text → Name → ℕ
callee_calls w t name = count_callee (macro_calls w t) (callee (dictionary_in w).macros name)

abbrev pub statement_calls : World → Text → Stmt → ℕ
statement_calls w t s = count_statement (dictionary_in w).macros (macro_calls w t) s

abbrev pub body_calls : World → Text → Stmts → ℕ
body_calls w t body = count_body (dictionary_in w).macros (macro_calls w t) body
