-- What is left of a walk: a list of jobs, the next one last.
use Rattle.std.specs.Prelude.{ℕ, List, [], ◌∷◌, ◌++◌}
use Rattle.dx_ast.specs.Classes.{Text}
use Rattle.dx_ast.specs.Syntax.{Expr, Call, Args, Stmt, Macro, Stmts, NoStmt, AndStmt}
use Rattle.dx_ast.specs.Limits.{max_macro_steps}
use Rattle.dx_macros.specs.Names.{calls_in, calls_of, calls_in_args, calls_after, names_after}
use Rattle.dx_macros.specs.Site.{Step}
use Rattle.dx_macros.specs.Dictionary.{Dictionary}
use Rattle.dx_macros.specs.Walk.{Walk, Walked, Goes, and_then, WalkUnder, Reader, beside, reader_at, walk_macro, walk_call, walk_expr, walk_args, walk_body, read_all}

-- a text that is walked: the steps that lead to it, the macro steps left, the position of its top-level text,
-- the names of its parameters and targets so far, and the names of its calls so far
pub record Activation : Type 0 where
  pub base : List Step
  pub left : ℕ
  pub position : ℕ
  pub own : List Text
  pub before : List Text

-- the text that is walked now, and those that wait for its end, the next first
pub record Stack : Type 0 where
  pub active : Activation
  pub waiting : List Activation

pub data Job : Type 0 where
  ExprJob : (targets : ℕ) → Expr → Job
  CallJob : (targets : ℕ) → Call → Job
  ArgsJob : Args → Job
  EnterJob : Macro → Step → Job
  BodyJob : (results : List Text) → Stmts → Job
  OwnJob : List Text → Job
  NamesJob : List Text → Job
  LeaveJob : Job

abbrev pub top_reader : Dictionary → Activation → Reader
top_reader d a = reader_at d.macros d.definitions a.position

abbrev pub reads : Dictionary → Activation → Reader
reads d a = beside a.own (top_reader d a)

abbrev pub under : Dictionary → Activation → WalkUnder
under d a = record { macros = d.macros; left = a.left; enter = walk_macro d.macros (top_reader d a) a.left }

-- these calls were met
abbrev pub meeting : List Text → Activation → Activation
meeting names a = record { base = a.base; left = a.left; position = a.position; own = a.own; before = a.before ++ names }

-- these names were assigned
abbrev pub assigning : List Text → Activation → Activation
assigning names a = record { base = a.base; left = a.left; position = a.position; own = a.own ++ names; before = a.before }

abbrev pub after_statement : Activation → Stmt → Activation
after_statement a s = record { base = a.base; left = a.left; position = a.position; own = names_after a.own s; before = calls_after a.before s }

abbrev pub after_body : Activation → Stmts → Activation
after_body a NoStmt = a
after_body a (AndStmt s rest) = after_body (after_statement a s) rest

-- ---- the same of the text that is walked now

abbrev pub with_active : Stack → Activation → Stack
with_active s a = record { active = a; waiting = s.waiting }

abbrev pub met : List Text → Stack → Stack
met names s = with_active s (meeting names s.active)

-- a text is begun, for whose end the one so far waits
abbrev pub entered : Activation → Stack → Stack
entered a s = record { active = a; waiting = s.active ∷ s.waiting }

abbrev pub resumed : Stack → List Activation → Stack
resumed s [] = s
resumed s (a ∷ waiting) = record { active = a; waiting = waiting }

-- the text at its end, and the next goes on
abbrev pub left_behind : Stack → Stack
left_behind s = resumed s s.waiting

-- what comes after a job
abbrev pub Rest : Type 0
Rest = Stack → Walk → Walked

abbrev pub do_job : Dictionary → Job → Rest → Rest
do_job d (ExprJob targets e) k s w = and_then (walk_expr (under d s.active) s.active.base (reads d s.active) s.active.before targets e w) (k (met (calls_in e) s))
do_job d (CallJob targets c) k s w = and_then (walk_call (under d s.active) s.active.base (reads d s.active) s.active.before targets c w) (k (met (calls_of c) s))
do_job d (ArgsJob args) k s w = and_then (walk_args (under d s.active) s.active.base (reads d s.active) s.active.before args w) (k (met (calls_in_args args) s))
do_job d (EnterJob m step) k s w = and_then (walk_macro d.macros (top_reader d s.active) s.active.left m (s.active.base ++ step ∷ []) w) (k s)
do_job d (BodyJob results body) k s w =
    and_then (walk_body (under d s.active) s.active.base (top_reader d s.active) results s.active.own s.active.before body w) (k (with_active s (after_body s.active body)))
do_job d (OwnJob names) k s w = k (with_active s (assigning names s.active)) w
do_job d (NamesJob names) k s w = and_then (read_all (reads d s.active) names w) (k s)
do_job d LeaveJob k s w = k (left_behind s) w

abbrev pub jobs_above : Dictionary → Rest → List Job → Rest
jobs_above d k [] = k
jobs_above d k (j ∷ rest) = jobs_above d (do_job d j k) rest

abbrev pub at_end : Rest
at_end s w = Goes w

-- what the jobs lead to
abbrev pub rest_of : Dictionary → List Job → Rest
rest_of d jobs = jobs_above d at_end jobs

-- the activation of a macro's body
abbrev pub in_macro : Activation → ℕ → List Text → Step → Activation
in_macro a left params step = record { base = a.base ++ step ∷ []; left = left; position = a.position; own = params; before = [] }

-- the activation of a text of the top level at a position
abbrev pub at_top : List Step → ℕ → Activation
at_top base position = record { base = base; left = max_macro_steps; position = position; own = []; before = [] }

-- only the text itself, for which none waits
abbrev pub alone : Activation → Stack
alone a = record { active = a; waiting = [] }
