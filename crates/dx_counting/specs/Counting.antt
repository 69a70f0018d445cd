-- How many calls a text makes: those that stand in it, and those in the macros that they enter. What its names mean makes none, since
-- each definition is a text of its own.
use Rattle.std.specs.Prelude.{◌≡◌, ℕ, zero, suc, ◌+◌, ◌≤◌, List, length, Option, Some, None, Bool, true, false, slice_index_or}
use Rattle.dx_ast.specs.Limits.{max_macro_steps, max_walk_calls}
use Rattle.dx_ast.specs.Syntax.{Expr, Constant, Name, Frame, CallOf, Call, MakeCall, Args, NoArg, AndArg, Stmt, Assigns, Calls, Macro, MakeMacro, Stmts, NoStmt, AndStmt}
use Rattle.dx_definitions.specs.TopTexts.{TopText, definition}
use Rattle.dx_macros.specs.Dictionary.{Macros, Dictionary, callee}
use Rattle.dx_macros.specs.Walk.{Walk, Goes, walk_of}
use Rattle.dx_signatures.specs.Callees.{Callee, Unknown, CallsMacro, CallsFunction}

-- the calls in what is called, where `inside` counts those in the body of a macro
abbrev pub count_callee : (inside : Macro → ℕ) → Callee → ℕ
count_callee inside Unknown = 0
count_callee inside (CallsMacro m) = inside m
count_callee inside (CallsFunction f) = 0

abbrev mutual
  pub count_expr : Macros → (inside : Macro → ℕ) → Expr → ℕ
  count_expr macros inside (Constant c) = 0
  count_expr macros inside (Name n) = 0
  count_expr macros inside (Frame v) = 0
  count_expr macros inside (CallOf c) = count_call macros inside c

  -- the call itself, the calls in its arguments, and those in what it calls
  pub count_call : Macros → (inside : Macro → ℕ) → Call → ℕ
  count_call macros inside (MakeCall name cache args) = suc (count_args macros inside args + count_callee inside (callee macros name))

  pub count_args : Macros → (inside : Macro → ℕ) → Args → ℕ
  count_args macros inside NoArg = 0
  count_args macros inside (AndArg n e rest) = count_expr macros inside e + count_args macros inside rest

abbrev pub count_statement : Macros → (inside : Macro → ℕ) → Stmt → ℕ
count_statement macros inside (Calls c) = count_call macros inside c
count_statement macros inside (Assigns targets e) = count_expr macros inside e
count_statement macros inside other = 0

abbrev pub count_body : Macros → (inside : Macro → ℕ) → Stmts → ℕ
count_body macros inside NoStmt = 0
count_body macros inside (AndStmt s rest) = count_statement macros inside s + count_body macros inside rest

-- the calls in the body of a macro where that many macro steps are left
abbrev pub count_macro : Macros → ℕ → Macro → ℕ
count_macro macros zero m = 0
count_macro macros (suc left) (MakeMacro name params results body) = count_body macros (count_macro macros left) body

-- ---- the top level

abbrev pub count_text : Macros → TopText → ℕ
count_text macros t = count_expr macros (count_macro macros max_macro_steps) t.value

abbrev pub count_in : Macros → Option TopText → ℕ
count_in macros None = 0
count_in macros (Some t) = count_text macros t

abbrev pub count_where : Bool → ℕ → ℕ
count_where true n = n
count_where false n = 0

-- the calls in the definitions before a position that are marked
abbrev pub count_marked : Macros → List TopText → (marks : List Bool) → ℕ → ℕ
count_marked macros definitions marks zero = 0
count_marked macros definitions marks (suc i) =
    count_marked macros definitions marks i + count_where (slice_index_or marks i false) (count_text macros (definition definitions i))

-- the calls in a statement's text and in the definitions that it reads
abbrev pub count_all : Dictionary → Option TopText → (marks : List Bool) → ℕ
count_all d t marks = count_marked d.macros d.definitions marks (length d.definitions) + count_in d.macros t

-- a walk without a fault has counted each of them, so they are few
abbrev pub CountsAll : Type 0
CountsAll = (d : Dictionary) (t : TopText) (w : Walk) → walk_of d t ≡ Goes w →
    (count_all d (Some t) w.read ≡ w.calls) × (count_all d (Some t) w.read ≤ max_walk_calls)
