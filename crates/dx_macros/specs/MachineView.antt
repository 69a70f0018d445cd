-- The code's walk under way as the jobs that are left, and what each step of it does.
use Rattle.std.specs.Prelude.{◌≡◌, ℕ, suc, length, true, slice_set, List, [], ◌∷◌, ◌++◌, map, Result, Ok, Err, Option, Some, None}
use Rattle.dx_ast.specs.Classes.{Text}
use Rattle.dx_ast.specs.Plain.{plain_expr, plain_call, plain_args, plain_macro, plain_stmts}
use Rattle.dx_ast.specs.Syntax.{Args}
use Rattle.dx_signatures.specs.declared.fault.StaticFault.{StaticFault}
use Rattle.dx_macros.specs.Site as site
use Rattle.dx_macros.specs.Dictionary.{Dictionary}
use Rattle.dx_signatures.specs.Callees.{Callee, CallsMacro, param_names}
use Rattle.dx_definitions.specs.TopTexts.{definition}
use Rattle.dx_macros.specs.Walk.{Walk, Walked, Goes, Faulty, and_then, Fault}
use Rattle.dx_base.specs.Places.{Marks, flags}
use Rattle.dx_macros.specs.Machine as m
use Rattle.dx_macros.specs.Steps.{plain_step, plain_steps}
use Rattle.dx_macros.specs.declared.machine.Activation.{Activation}
use Rattle.dx_macros.specs.declared.machine.Reached.{Reached}
use Rattle.dx_macros.specs.declared.machine.Reached.TheVariants as reached
use Rattle.dx_macros.specs.declared.machine.Job.{Job}
use Rattle.dx_macros.specs.declared.machine.Job.TheVariants as job
use Rattle.dx_macros.specs.declared.machine.Machine.{Machine}
use Rattle.dx_macros.specs.declared.machine.Stop.{Stop}
use Rattle.dx_macros.specs.declared.machine.Stop.TheVariants as stop

-- the steps that lead to a text that is reached so, behind those of the text that waits for it
abbrev pub steps_to : List site.Step → Reached → List site.Step
steps_to base (reached.Top targets) = site.first_target targets.now
steps_to base (reached.Call s) = base ++ plain_step s ∷ []

abbrev pub base_of : List m.Activation → List site.Step
base_of [] = []
base_of (a ∷ waiting) = a.base

-- an activation, where these wait
abbrev pub plain_activation : List m.Activation → Activation → m.Activation
plain_activation waiting a = record {
  base = steps_to (base_of waiting) a.reached;
  left = a.left;
  position = a.position;
  own = param_names a.params.now ++ a.assigned;
  before = a.before;
}

-- the code's activations above these; the last waits for the least
abbrev pub waiting_above : List m.Activation → List Activation → List m.Activation
waiting_above waiting [] = waiting
waiting_above waiting (a ∷ rest) = waiting_above (plain_activation waiting a ∷ waiting) rest

abbrev pub stacked : List Activation → Activation → m.Stack
stacked waiting active = record { active = plain_activation (waiting_above [] waiting) active; waiting = waiting_above [] waiting }

-- the steps that lead to the last of the texts that are reached so, one from the other
abbrev pub steps_behind : List site.Step → List Activation → List site.Step
steps_behind base [] = base
steps_behind base (a ∷ rest) = steps_behind (steps_to base a.reached) rest

-- a text of the top level begins, or the body of a macro that is called in another text, whatever waits
abbrev pub BeginsAtTop : List Text → ℕ → Activation → Type 0
BeginsAtTop targets position a = (waiting : List m.Activation) → plain_activation waiting a ≡ m.at_top (site.first_target targets) position

abbrev pub BeginsIn : Activation → ℕ → List Text → site.Step → Activation → Type 0
BeginsIn caller left params step a =
    (waiting : List m.Activation) → let from = plain_activation waiting caller in plain_activation (from ∷ waiting) a ≡ m.in_macro from left params step

abbrev pub plain_job : Job → m.Job
plain_job (job.Expr targets e) = m.ExprJob targets (plain_expr e.now)
plain_job (job.Call targets c) = m.CallJob targets (plain_call c.now)
plain_job (job.Args args) = m.ArgsJob (plain_args args.now)
plain_job (job.Enter x s) = m.EnterJob (plain_macro x.now) (plain_step s)
plain_job (job.Body results ss) = m.BodyJob results.now (plain_stmts ss.now)
plain_job (job.Own names) = m.OwnJob names.now
plain_job (job.Names names) = m.NamesJob names.now
plain_job job.Leave = m.LeaveJob

abbrev pub stack_now : Machine → m.Stack
stack_now x = stacked x.waiting.items x.active

abbrev pub walk_now : Machine → Walk
walk_now x = record { calls = x.calls; read = flags x.read }

-- what the jobs of a machine lead to
abbrev pub rest : Dictionary → Machine → m.Rest
rest d x = m.rest_of d (map plain_job x.jobs.items)

abbrev pub means : Dictionary → Machine → Walked
means d x = rest d x (stack_now x) (walk_now x)

-- the machine goes on to the same end, or has come to the fault
abbrev pub Continues : {A : Type 0} → Walked → Result A Stop → Walked → Type 0
Continues before (Ok a) after = before ≡ after
Continues before (Err (stop.Fault s f)) after = before ≡ Faulty (plain_steps s.items) f
Continues before (Err stop.Memory) after = Unit {0}

-- the walk ends at the fault, or want of memory stops it
abbrev pub Stops : Walked → Stop → Type 0
Stops walked (stop.Fault s f) = walked ≡ Faulty (plain_steps s.items) f
Stops walked stop.Memory = Unit {0}

-- the walk ends without a fault and has read these definitions, or is stopped
abbrev pub Ends : Walked → Result Marks Stop → Type 0
Ends walked (Ok read) = (w : Walk) × (walked ≡ Goes w) × (w.read ≡ flags read)
Ends walked (Err why) = Stops walked why

-- one more job, and nothing else is changed
pub record IsPushed (old : Machine) (j : Job) (new : Machine) : Type 0 where
  pub jobs : new.jobs.items ≡ old.jobs.items ++ j ∷ []
  pub active : new.active ≡ old.active
  pub waiting : new.waiting ≡ old.waiting
  pub calls : new.calls ≡ old.calls
  pub read : new.read ≡ old.read

abbrev pub PushesJob : {A : Type 0} → Machine → Job → Result A Stop → Machine → Type 0
PushesJob old j (Ok a) new = IsPushed old j new
PushesJob old j (Err (stop.Fault s f)) new = ⊥
PushesJob old j (Err stop.Memory) new = Unit {0}

-- a job, before what is left of a machine
abbrev pub job_first : Dictionary → m.Job → Machine → Walked
job_first d j x = m.do_job d j (rest d x) (stack_now x) (walk_now x)

-- the reading of a name, before what is left of a machine
abbrev pub name_first : Dictionary → Text → Machine → Walked
name_first d n x = and_then (m.reads d (stack_now x).active n (walk_now x)) (rest d x (stack_now x))

-- the walk of definition i in an activation of its own, before what is left of a machine
abbrev pub definition_first : Dictionary → ℕ → Machine → Walked
definition_first d i x =
    let t = definition d.definitions i in
    m.do_job d (m.ExprJob (length t.targets) t.value) (m.do_job d m.LeaveJob (rest d x))
    (m.entered (m.at_top (site.first_target t.targets) i) (stack_now x)) (record { calls = x.calls; read = slice_set (flags x.read) i true })

-- what comes after a call that has no fault: its arguments, and then its macro
abbrev pub accepted : Dictionary → Callee → site.Step → Text → Args → Machine → Walked
accepted d (CallsMacro x) s name args y =
    m.do_job d (m.ArgsJob args) (m.do_job d (m.EnterJob x s) (rest d y)) (m.met (name ∷ []) (stack_now y)) (record { calls = suc y.calls; read = flags y.read })
accepted d _ s name args y =
    m.do_job d (m.ArgsJob args) (rest d y) (m.met (name ∷ []) (stack_now y)) (record { calls = suc y.calls; read = flags y.read })

abbrev pub FaultIs : List site.Step → StaticFault → Stop → Type 0
FaultIs s f (stop.Fault s' f') = (plain_steps s'.items ≡ s) × (f' ≡ f)
FaultIs s f stop.Memory = Unit {0}

-- the text so far waits for the end of another, to which the new last job leads
pub record IsEntered (old : Machine) (a : Activation) (new : Machine) : Type 0 where
  pub jobs : new.jobs.items ≡ old.jobs.items ++ job.Leave ∷ []
  pub active : new.active ≡ a
  pub waiting : new.waiting.items ≡ old.waiting.items ++ old.active ∷ []
  pub calls : new.calls ≡ old.calls
  pub read : new.read ≡ old.read

abbrev pub Enters : {A : Type 0} → Machine → Activation → Result A Stop → Machine → Type 0
Enters old a (Ok x) new = IsEntered old a new
Enters old a (Err (stop.Fault s f)) new = ⊥
Enters old a (Err stop.Memory) new = Unit {0}

-- the text that waits goes on, and nothing else is changed
pub record IsLeft (old : Machine) (new : Machine) : Type 0 where
  pub jobs : new.jobs ≡ old.jobs
  pub stack : stack_now new ≡ m.left_behind (stack_now old)
  pub calls : new.calls ≡ old.calls
  pub read : new.read ≡ old.read

-- a call of this name is counted, and nothing else is changed
pub record IsCounted (old : Machine) (name : Text) (new : Machine) : Type 0 where
  pub jobs : new.jobs ≡ old.jobs
  pub stack : stack_now new ≡ m.met (name ∷ []) (stack_now old)
  pub calls : new.calls ≡ suc old.calls
  pub read : new.read ≡ old.read

abbrev pub CountsCall : {A : Type 0} → Machine → Text → Result A Stop → Machine → Type 0
CountsCall old name (Ok a) new = IsCounted old name new
CountsCall old name (Err (stop.Fault s f)) new = ⊥
CountsCall old name (Err stop.Memory) new = Unit {0}

-- the first fault, or none
abbrev pub Finds : {A : Type 0} → Option Fault → Result A Stop → Type 0
Finds found (Ok a) = found ≡ None
Finds found (Err (stop.Fault s f)) = found ≡ Some (record { site = plain_steps s.items; fault = f })
Finds found (Err stop.Memory) = Unit {0}
