-- How much of a walk is left at most, for any bound on the sizes of the dictionary's macros and definitions: each step
-- of the walk makes it smaller.
use Rattle.std.specs.Prelude.{◌≡◌, ℕ, suc, ◌+◌, ◌-◌, ◌*◌, ◌<◌, ◌≤◌, List, [], ◌∷◌, length, map, Some, Bool, true, false, Result, Ok, Err}
use Rattle.dx_ast.specs.Classes.{Text}
use Rattle.dx_ast.specs.Syntax.{Expr, Constant, Name, Frame, CallOf, Call, MakeCall, Args, NoArg, AndArg, Stmt, Assigns, Calls, Macro, MakeMacro, Stmts, NoStmt, AndStmt}
use Rattle.dx_ast.specs.Limits.{max_walk_calls}
use Rattle.dx_macros.specs.Dictionary.{Dictionary}
use Rattle.dx_definitions.specs.TopTexts.{definition}
use Rattle.dx_signatures.specs.Callees.{Callee, Unknown, CallsMacro, CallsFunction}
use Rattle.dx_macros.specs.Machine.{Job, ExprJob, CallJob, ArgsJob, EnterJob, BodyJob, OwnJob, NamesJob, LeaveJob}
use Rattle.dx_macros.specs.MachineView.{plain_job}
use Rattle.dx_base.specs.Places.{flags}
use Rattle.dx_macros.specs.declared.machine.Machine.{Machine}
use Rattle.dx_macros.specs.declared.machine.Stop.{Stop}

-- ---- the weight of a job

abbrev mutual
  pub expr_weight : Expr → ℕ
  expr_weight (Constant c) = 1
  expr_weight (Name n) = 1
  expr_weight (Frame v) = 1
  expr_weight (CallOf c) = call_weight c

  pub call_weight : Call → ℕ
  call_weight (MakeCall name cache args) = suc (args_weight args)

  pub args_weight : Args → ℕ
  args_weight NoArg = 1
  args_weight (AndArg n e rest) = suc (expr_weight e + args_weight rest)

abbrev pub statement_weight : Stmt → ℕ
statement_weight (Calls c) = call_weight c
statement_weight (Assigns targets e) = suc (expr_weight e)
statement_weight other = 0

abbrev pub body_weight : List Text → Stmts → ℕ
body_weight results NoStmt = suc (suc (length results))
body_weight results (AndStmt s rest) = suc (statement_weight s + body_weight results rest)

abbrev pub macro_weight : Macro → ℕ
macro_weight (MakeMacro name params results body) = suc (suc (body_weight results body))

abbrev pub callee_weight : Callee → ℕ
callee_weight Unknown = 0
callee_weight (CallsMacro m) = macro_weight m
callee_weight (CallsFunction f) = 0

abbrev pub job_weight : Job → ℕ
job_weight (ExprJob targets e) = expr_weight e
job_weight (CallJob targets c) = call_weight c
job_weight (ArgsJob args) = args_weight args
job_weight (EnterJob m step) = macro_weight m
job_weight (BodyJob results body) = body_weight results body
job_weight (OwnJob names) = 1
job_weight (NamesJob names) = suc (length names)
job_weight LeaveJob = 1

abbrev pub jobs_weight : List Job → ℕ
jobs_weight [] = 0
jobs_weight (j ∷ rest) = job_weight j + jobs_weight rest

-- ---- the weight of a walk under way

-- how many definitions weren't read
abbrev pub unread : List Bool → ℕ
unread [] = 0
unread (true ∷ rest) = unread rest
unread (false ∷ rest) = suc (unread rest)

-- the calls and the first readings that can still come
abbrev pub chances : ℕ → List Bool → ℕ
chances calls read = (max_walk_calls - calls) + unread read

-- each of them can bring a macro or a definition, which weighs at most so much
abbrev pub weight : ℕ → Machine → ℕ
weight bound m = chances m.calls (flags m.read) * suc bound + jobs_weight (map plain_job m.jobs.items)

-- no macro and no definition weighs more
pub record Bounds (d : Dictionary) (bound : ℕ) : Type 0 where
  pub macros : (name : Text) (m : Macro) → d.macros name ≡ Some m → macro_weight m ≤ bound
  pub definitions : (i : ℕ) → i < length d.definitions → expr_weight (definition d.definitions i).value ≤ bound

-- there is a mark for each definition
abbrev pub IsFit : Dictionary → Machine → Type 0
IsFit d m = length (flags m.read) ≡ length d.definitions

-- with a job of this weight the old machine was heavier
abbrev pub FallsTo : Dictionary → ℕ → Machine → Machine → Type 0
FallsTo d w old new = (bound : ℕ) → Bounds d bound → IsFit d old → (weight bound new < weight bound old + w) × IsFit d new

abbrev pub Falls : {A : Type 0} → Dictionary → ℕ → Machine → Result A Stop → Machine → Type 0
Falls d w old (Ok a) new = FallsTo d w old new
Falls d w old (Err stop) new = Unit {0}

-- a call is counted, and what it brings weighs so much
abbrev pub PaysTo : Dictionary → ℕ → Machine → Machine → Type 0
PaysTo d w old new = (bound : ℕ) → Bounds d bound → IsFit d old → (weight bound new + suc bound ≤ weight bound old + w) × IsFit d new

abbrev pub Pays : {A : Type 0} → Dictionary → ℕ → Machine → Result A Stop → Machine → Type 0
Pays d w old (Ok a) new = PaysTo d w old new
Pays d w old (Err stop) new = Unit {0}
