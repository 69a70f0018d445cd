-- The jobs of the code, one at a time.
use Rattle.std.proofs.Common.{◌≡◌, ℕ, suc, List, [], ◌∷◌, ◌++◌, map, length, Option, Some, None, Bool, true, false, refl, sym, ap, ap₂, ◌∙◌, subst, arith, Global}
use Rattle.std.specs.Prelude.{Result, Ok, Err, Vec, IfOk, slice_set, nat_le, if◌then◌else◌}
use Rattle.dx_ast.specs.Syntax as plain
use Rattle.dx_ast.specs.Classes.{Text}
use Rattle.dx_ast.specs.Syntax.{MakeCall, Args}
use Rattle.dx_ast.specs.declared.statements.Param.{Param}
use Rattle.dx_signatures.specs.declared.fault.StaticFault.{StaticFault}
use Rattle.dx_signatures.specs.declared.fault.StaticFault.TheVariants as fault
use Rattle.dx_macros.specs.Site.{Step, Nth, next_step, first_target}
use Rattle.dx_base.specs.NameLists.{count}
use Rattle.dx_macros.specs.Dictionary.{Dictionary, top_text, callee}
use Rattle.dx_definitions.specs.TopTexts.{TopText, definition}
use Rattle.dx_signatures.specs.Callees.{param_names, Callee, Unknown, CallsMacro, CallsFunction}
use Rattle.dx_macros.specs.Walk.{Walk, Walked, Goes, Faulty, and_then, fault_in, walk_of, walk_begins, read_in}
use Rattle.dx_signatures.specs.Faults.{fault_of_call, arg_names}
use Rattle.dx_ast.specs.declared.expressions.Arg.{Arg}
use Rattle.dx_ast.specs.declared.expressions.Call.{Call, out-Call}
use Rattle.dx_ast.specs.declared.statements.Assign.{Assign}
use Rattle.dx_ast.specs.declared.statements.Stmt.{Stmt, out-Stmt, roll-Stmt, roll-out-Stmt}
use Rattle.dx_ast.specs.declared.statements.Stmt.TheOpen.{Stmt-F, Assign as Assigns, Call as Calls, Macro as Defines, Include, SetFrame, Word, Sequence}
use Rattle.dx_ast.specs.declared.statements.Stmt.TheVariants.{rolls-Assign, rolls-Call, rolls-Sequence}
use Rattle.dx_ast.specs.declared.statements.Stmt as views
use Rattle.dx_ast.specs.declared.statements.Stmt.TheVariants as stmt
use denote.Hole.Carrier
use Rattle.dx_ast.specs.Plain.{plain_expr, plain_call, plain_args, plain_macro, plain_stmt, plain_stmts}
use Rattle.dx_ast.specs.declared.statements.MacroDef.{MacroDef, out-MacroDef}
use Rattle.dx_macros.specs.declared.machine.Activation.{Activation}
use Rattle.dx_ast.proofs.PlainLaws.{plain_call_out, stmt_layer, plain_stmt_out, plain_macro_out}
use Rattle.dx_base.specs.Places.{Marks, flags}
use Rattle.dx_definitions.specs.Index.{text_of}
use Rattle.dx_macros.specs.Machine as m
use Rattle.dx_macros.specs.declared.machine.Job.{Job}
use Rattle.dx_macros.specs.declared.machine.Machine.{Machine}
use Rattle.dx_macros.specs.declared.machine.Stop.{Stop}
use Rattle.dx_macros.specs.declared.machine.Stop.TheVariants as stop
use Rattle.dx_macros.specs.MachineView.{plain_activation, stack_now, plain_job, walk_now, rest, means, job_first, Continues, accepted, FaultIs, IsPushed, IsCounted, CountsCall, IsEntered, definition_first, Stops, Ends, Finds}
use Rattle.dx_macros.proofs.Steps.{enter_step, args_step, body_call_step, body_assign_step, names_step, call_fault_step, call_macro_step, call_function_step}
use Rattle.dx_macros.proofs.Pushes.{rest_push, pushed, pushed_twice, entered}

unknown_faulty : {P : Type 0} (calls left : ℕ) (args : List (Option Text)) (targets : ℕ) → fault_of_call calls Unknown left args targets ≡ None → P
unknown_faulty {P = P} calls left args targets e = go (nat_le 65536 calls) e
  where
    go : (b : Bool) → (if b then Some fault.Calls else Some fault.UnknownFunction) ≡ None → P
    go true e = cc
    go false e = cc

pub stmt_call : (c : Call) → plain_stmt (stmt.Call c) ≡ plain.Calls (plain_call c)
unfolding views.out-Stmt denote.Hole.Carrier.out
stmt_call c = plain_stmt_out (stmt.Call c)

pub stmt_assign : (a : Assign) → plain_stmt (stmt.Assign a) ≡ plain.Assigns a.targets (plain_expr a.value)
unfolding views.out-Stmt denote.Hole.Carrier.out
stmt_assign a = plain_stmt_out (stmt.Assign a)

module _ (d : Dictionary) (old : Machine) where
  pub args_first : (args others : List Arg) (a : Arg) → args ≡ a ∷ others → job_first d (m.ArgsJob (plain_args args)) old ≡ m.do_job d (m.ExprJob 0 (plain_expr a.value)) (m.do_job d (m.ArgsJob (plain_args others)) (rest d old)) (stack_now old) (walk_now old)
  args_first args others a e =
      ap (λ xs. job_first d (m.ArgsJob (plain_args xs)) old) e
      ∙ args_step d (rest d old) (stack_now old) (walk_now old) a.name (plain_expr a.value) (plain_args others)

  pub body_none : (results : List Text) (ss : List Stmt) → length ss ≡ 0 → job_first d (m.BodyJob results (plain_stmts ss)) old ≡ job_first d (m.NamesJob results) old
  body_none results [] e = refl
  body_none results (s ∷ ss) e = absurd (omega arith)

  body_one : (results : List Text) (ss others : List Stmt) (s : Stmt) (x : plain.Stmt) → ss ≡ s ∷ others → plain_stmt s ≡ x → job_first d (m.BodyJob results (plain_stmts ss)) old ≡ job_first d (m.BodyJob results (plain.AndStmt x (plain_stmts others))) old
  body_one results ss others s x e h =
      ap (λ xs. job_first d (m.BodyJob results (plain_stmts xs)) old) e
      ∙ ap (λ y. job_first d (m.BodyJob results (plain.AndStmt y (plain_stmts others))) old) h

  pub body_call : (results : List Text) (ss others : List Stmt) (s : Stmt) (c : Call) → ss ≡ s ∷ others → s ≡ stmt.Call c → job_first d (m.BodyJob results (plain_stmts ss)) old ≡ m.do_job d (m.CallJob 0 (plain_call c)) (m.do_job d (m.BodyJob results (plain_stmts others)) (rest d old)) (stack_now old) (walk_now old)
  body_call results ss others s c e h =
      body_one results ss others s (plain.Calls (plain_call c)) e (ap plain_stmt h ∙ stmt_call c)
      ∙ body_call_step d (rest d old) (stack_now old) (walk_now old) results (plain_call c) (plain_stmts others)

  pub body_assign : (results : List Text) (ss others : List Stmt) (s : Stmt) (a : Assign) (ts : List Text) (n : ℕ) → ss ≡ s ∷ others → s ≡ stmt.Assign a → ts ≡ a.targets → n ≡ length a.targets → job_first d (m.BodyJob results (plain_stmts ss)) old ≡ m.do_job d (m.ExprJob n (plain_expr a.value)) (m.do_job d (m.OwnJob ts) (m.do_job d (m.BodyJob results (plain_stmts others)) (rest d old))) (stack_now old) (walk_now old)
  body_assign results ss others s a ts n e h t l =
      body_one results ss others s (plain.Assigns a.targets (plain_expr a.value)) e (ap plain_stmt h ∙ stmt_assign a)
      ∙ body_assign_step d (rest d old) (stack_now old) (walk_now old) results a.targets (plain_expr a.value) (plain_stmts others)
      ∙ sym (ap₂ (λ (k : ℕ) (us : List Text). m.do_job d (m.ExprJob k (plain_expr a.value)) (m.do_job d (m.OwnJob us) (m.do_job d (m.BodyJob results (plain_stmts others)) (rest d old))) (stack_now old) (walk_now old)) l t)

  -- any other statement of a body gives nothing
  abbrev IsOther : plain.Stmt → Type 0
  IsOther (plain.Assigns targets e) = ⊥
  IsOther (plain.Calls c) = ⊥
  IsOther other = Unit {0}

  other_step : (results : List Text) (rest : plain.Stmts) (x : plain.Stmt) → IsOther x → job_first d (m.BodyJob results (plain.AndStmt x rest)) old ≡ job_first d (m.BodyJob results rest) old
  other_step results rest (plain.Assigns targets e) h = absurd h
  other_step results rest (plain.Calls c) h = absurd h
  other_step results rest (plain.Defines x) h = refl
  other_step results rest (plain.Includes n) h = refl
  other_step results rest (plain.Sets v e) h = refl
  other_step results rest (plain.Says x) h = refl
  other_step results rest (plain.Sequences c) h = refl

  other_by : (s : Stmt) (x : Stmt-F Stmt MacroDef) → roll-Stmt x ≡ s → ((c : Call) → s ≡ stmt.Call c → ⊥) → ((a : Assign) → s ≡ stmt.Assign a → ⊥) → IsOther (stmt_layer x)
  other_by s (Assigns a) e no_call no_assign = absurd (no_assign a (sym e ∙ rolls-Assign a))
  other_by s (Calls c) e no_call no_assign = absurd (no_call c (sym e ∙ rolls-Call c))
  other_by s (Defines x) e no_call no_assign = tt
  other_by s (Include n) e no_call no_assign = tt
  other_by s (SetFrame v x) e no_call no_assign = tt
  other_by s (Word x) e no_call no_assign = tt
  other_by s (Sequence c) e no_call no_assign = tt

  pub body_other : (results : List Text) (ss others : List Stmt) (s : Stmt) → ss ≡ s ∷ others → ((c : Call) → s ≡ stmt.Call c → ⊥) → ((a : Assign) → s ≡ stmt.Assign a → ⊥) → job_first d (m.BodyJob results (plain_stmts ss)) old ≡ job_first d (m.BodyJob results (plain_stmts others)) old
  body_other results ss others s e no_call no_assign =
      body_one results ss others s (stmt_layer (out-Stmt s)) e (plain_stmt_out s)
      ∙ other_step results (plain_stmts others) (stmt_layer (out-Stmt s)) (other_by s (out-Stmt s) (roll-out-Stmt s) no_call no_assign)

  pub names_first : (ns others : List Text) (n n' : Text) → ns ≡ n ∷ others → n' ≡ n → job_first d (m.NamesJob ns) old ≡ and_then (m.reads d (stack_now old).active n' (walk_now old)) (m.do_job d (m.NamesJob others) (rest d old) (stack_now old))
  names_first ns others n n' e h =
      ap (λ xs. job_first d (m.NamesJob xs) old) e
      ∙ names_step d (rest d old) (stack_now old) (walk_now old) n others
      ∙ ap (λ x. and_then (m.reads d (stack_now old).active x (walk_now old)) (m.do_job d (m.NamesJob others) (rest d old) (stack_now old))) (sym h)

  -- a call whose name and arguments are these
  pub call_out : (targets : ℕ) (c : Call) → job_first d (m.CallJob targets (plain_call c)) old ≡ job_first d (m.CallJob targets (MakeCall (out-Call c).name (out-Call c).cache (plain_args (out-Call c).args))) old
  call_out targets c = ap (λ x. job_first d (m.CallJob targets x) old) (plain_call_out c)

  -- the fault of a call
  pub call_faulty : (targets : ℕ) (c : Call) (name : Text) (args : List Arg) (cl : Callee) (k : ℕ) (f : Option StaticFault) (x : StaticFault) →
      name ≡ (out-Call c).name → args ≡ (out-Call c).args → cl ≡ callee d.macros name → k ≡ suc (count name (stack_now old).active.before) →
      f ≡ fault_of_call old.calls cl old.active.left (arg_names (plain_args args)) targets → f ≡ Some x →
      job_first d (m.CallJob targets (plain_call c)) old ≡ Faulty ((stack_now old).active.base ++ Nth name k ∷ []) x
  call_faulty targets c name args cl k f x n a e l g h =
      call_out targets c
      ∙ ap₂ (λ u v. job_first d (m.CallJob targets (MakeCall u (out-Call c).cache (plain_args v))) old) (sym n) (sym a)
      ∙ call_fault_step d (rest d old) (stack_now old) (walk_now old) targets name (out-Call c).cache (plain_args args) x
      (ap (λ y. fault_of_call old.calls y old.active.left (arg_names (plain_args args)) targets) (sym e) ∙ sym g ∙ h)
      ∙ ap (λ j. Faulty ((stack_now old).active.base ++ Nth name j ∷ []) x) (sym l)

  -- a call with no fault
  accepted_by : (targets : ℕ) (name : Text) (cache : ℕ) (args : Args) (cl : Callee) (s : Step) →
      callee d.macros name ≡ cl → s ≡ next_step name (stack_now old).active.before →
      fault_of_call old.calls cl old.active.left (arg_names args) targets ≡ None →
      job_first d (m.CallJob targets (MakeCall name cache args)) old ≡ accepted d cl s name args old
  accepted_by targets name cache args Unknown s e l f = unknown_faulty old.calls old.active.left (arg_names args) targets f
  accepted_by targets name cache args (CallsMacro x) s e l f =
      call_macro_step d (rest d old) (stack_now old) (walk_now old) targets name cache args x (ap (λ y. fault_of_call old.calls y old.active.left (arg_names args) targets) e ∙ f) e
      ∙ ap (λ t. accepted d (CallsMacro x) t name args old) (sym l)
  accepted_by targets name cache args (CallsFunction h) s e l f =
      call_function_step d (rest d old) (stack_now old) (walk_now old) targets name cache args h (ap (λ y. fault_of_call old.calls y old.active.left (arg_names args) targets) e ∙ f) e

  pub call_accepted : (targets : ℕ) (c : Call) (name : Text) (args : List Arg) (cl : Callee) (k : ℕ) (f : Option StaticFault) →
      name ≡ (out-Call c).name → args ≡ (out-Call c).args → cl ≡ callee d.macros name → k ≡ suc (count name (stack_now old).active.before) →
      f ≡ fault_of_call old.calls cl old.active.left (arg_names (plain_args args)) targets → f ≡ None →
      job_first d (m.CallJob targets (plain_call c)) old ≡ accepted d cl (Nth name k) (out-Call c).name (plain_args (out-Call c).args) old
  call_accepted targets c name args cl k f n a e l g h =
      call_out targets c
      ∙ ap₂ (λ u v. job_first d (m.CallJob targets (MakeCall u (out-Call c).cache (plain_args v))) old) (sym n) (sym a)
      ∙ accepted_by targets name (out-Call c).cache (plain_args args) cl (Nth name k) (sym e) (ap (λ j. Nth name j) l) (sym g ∙ h)
      ∙ ap₂ (λ u v. accepted d cl (Nth name k) u (plain_args v) old) n a

pub by_fault : {A : Type 0} (r : Result A Stop) (e : Stop) (before after : Walked) (site : List Step) (x : StaticFault) → r ≡ Err e → before ≡ Faulty site x → FaultIs site x e → Continues before r after
by_fault (Ok a) e before after site x h p q = cc
by_fault (Err (stop.Fault s y)) e before after site x h p q =
    let same : e ≡ stop.Fault s y = cc in
    let g = subst (FaultIs site x) same q in
    p ∙ ap₂ (λ t z. Faulty t z) (sym g.0) (sym g.1)
by_fault (Err stop.Memory) e before after site x h p q = tt

module _ (d : Dictionary) (old : Machine) (name : Text) (mid : Machine) (p : IsCounted old name mid) where
  counted_rest : rest d mid ≡ rest d old
  counted_rest = ap (λ (js : Vec Job Global). m.rest_of d (map plain_job js.items)) p.jobs

  counted_walk : walk_now mid ≡ record { calls = suc old.calls; read = flags old.read }
  counted_walk = ap₂ (λ (n : ℕ) (bs : List Bool). let w : Walk = record { calls = n; read = bs } in w) p.calls (ap flags p.read)

  pub accepted_macro : (mid1 new : Machine) (x : plain.Macro) (s : Step) (args : Args) (j i : Job) → IsPushed mid j mid1 → IsPushed mid1 i new → plain_job j ≡ m.EnterJob x s → plain_job i ≡ m.ArgsJob args → accepted d (CallsMacro x) s name args old ≡ means d new
  accepted_macro mid1 new x s args j i q r e f =
      sym (pushed_twice d mid mid1 new j i q r
      ∙ ap₂ (λ a b. m.do_job d a (m.do_job d b (rest d mid)) (stack_now mid) (walk_now mid)) f e
      ∙ ap₂ (λ k g. m.do_job d (m.ArgsJob args) (m.do_job d (m.EnterJob x s) k) g (walk_now mid)) counted_rest p.stack
      ∙ ap (m.do_job d (m.ArgsJob args) (m.do_job d (m.EnterJob x s) (rest d old)) (m.met (name ∷ []) (stack_now old))) counted_walk)

  pub accepted_plain : (new : Machine) (args : Args) (i : Job) → IsPushed mid i new → plain_job i ≡ m.ArgsJob args → m.do_job d (m.ArgsJob args) (rest d old) (m.met (name ∷ []) (stack_now old)) (record { calls = suc old.calls; read = flags old.read }) ≡ means d new
  accepted_plain new args i r f =
      sym (pushed d mid new i r
      ∙ ap (λ a. m.do_job d a (rest d mid) (stack_now mid) (walk_now mid)) f
      ∙ ap₂ (λ k g. m.do_job d (m.ArgsJob args) k g (walk_now mid)) counted_rest p.stack
      ∙ ap (m.do_job d (m.ArgsJob args) (rest d old) (m.met (name ∷ []) (stack_now old))) counted_walk)

pub ok_counted : {A : Type 0} (old new : Machine) (name : Text) (r : Result A Stop) (a : A) → r ≡ Ok a → CountsCall old name r new → IsCounted old name new
ok_counted {A = A} old new name r a e p = let P : Result A Stop → Type 0 = λ r. CountsCall old name r new in subst P e p

-- a definition is walked in an activation of its own
pub defined : (d : Dictionary) (i : ℕ) (old mid new : Machine) (read : Marks) (f : Activation) (n : ℕ) (j : Job) (a : Assign) →
    flags read ≡ slice_set (flags old.read) i true →
    IsEntered (record { jobs = old.jobs; active = old.active; waiting = old.waiting; calls = old.calls; read = read }) f mid → IsPushed mid j new →
    plain_job j ≡ m.ExprJob n (plain_expr a.value) → n ≡ length a.targets → ((waiting : List m.Activation) → plain_activation waiting f ≡ m.at_top (first_target a.targets) i) →
    definition d.definitions i ≡ text_of a → definition_first d i old ≡ means d new
defined d i old mid new read f n j a r p q e l g h =
    let k : m.Rest = m.do_job d m.LeaveJob (rest d old) in
    let s = stack_now old in
    let w : List Bool → Walk = λ bs. record { calls = old.calls; read = bs } in
    ap (λ (x : TopText). m.do_job d (m.ExprJob (length x.targets) x.value) k (m.entered (m.at_top (first_target x.targets) i) s) (w (slice_set (flags old.read) i true))) h
    ∙ sym (entered d (record { jobs = old.jobs; active = old.active; waiting = old.waiting; calls = old.calls; read = read }) mid new f j p q
    ∙ ap₂ (λ x y. m.do_job d x k (m.entered y s) (w (flags read))) e (g (s.active ∷ s.waiting))
    ∙ ap₂ (λ (c : ℕ) (bs : List Bool). m.do_job d (m.ExprJob c (plain_expr a.value)) k (m.entered (m.at_top (first_target a.targets) i) s) (w bs)) l r)

-- a macro is walked in an activation of its own
pub entered_macro : (d : Dictionary) (old mid new : Machine) (f : Activation) (j : Job) (x : MacroDef) (t : Step) (ps : List Param) (rs : List Text) (ss : List Stmt) (left : ℕ) →
    IsEntered old f mid → IsPushed mid j new → plain_job j ≡ m.BodyJob rs (plain_stmts ss) → ps ≡ (out-MacroDef x).params → rs ≡ (out-MacroDef x).results → ss ≡ (out-MacroDef x).body →
    old.active.left ≡ suc left → ((waiting : List m.Activation) → let a = plain_activation waiting old.active in plain_activation (a ∷ waiting) f ≡ m.in_macro a left (param_names ps) t) →
    job_first d (m.EnterJob (plain_macro x) t) old ≡ means d new
entered_macro d old mid new f j x t ps rs ss left p q e a r b l g =
    let k : m.Rest = m.do_job d m.LeaveJob (rest d old) in
    let s = stack_now old in
    ap (λ y. job_first d (m.EnterJob y t) old) (plain_macro_out x)
    ∙ enter_step d (rest d old) s (walk_now old) left (out-MacroDef x).name (out-MacroDef x).params (out-MacroDef x).results (plain_stmts (out-MacroDef x).body) t l
    ∙ sym (entered d old mid new f j p q
    ∙ ap₂ (λ y z. m.do_job d y k (m.entered z s) (walk_now old)) e (g s.waiting)
    ∙ ap (λ (us : List Param). m.do_job d (m.BodyJob rs (plain_stmts ss)) k (m.entered (m.in_macro s.active left (param_names us) t) s) (walk_now old)) a
    ∙ ap₂ (λ (us : List Text) (vs : List Stmt). m.do_job d (m.BodyJob us (plain_stmts vs)) k (m.entered (m.in_macro s.active left (param_names (out-MacroDef x).params) t) s) (walk_now old)) r b)

-- a job popped
pub popped : (d : Dictionary) (old : Machine) (jobs : Vec Job Global) (j : Job) → old.jobs.items ≡ jobs.items ++ j ∷ [] → means d old ≡ job_first d (plain_job j) (record { jobs = jobs; active = old.active; waiting = old.waiting; calls = old.calls; read = old.read })
popped d old jobs j e = ap (λ k. k (stack_now old) (walk_now old)) (rest_push d jobs.items old.jobs.items j e)

pub none_left : (d : Dictionary) (old : Machine) → old.jobs.items ≡ [] → means d old ≡ Goes (walk_now old)
none_left d old e = ap (λ js. m.rest_of d (map plain_job js) (stack_now old) (walk_now old)) e

-- ---- a statement that isn't executed

text_by : (s : Stmt) (x : Stmt-F Stmt MacroDef) → roll-Stmt x ≡ s → ((a : Assign) → s ≡ stmt.Assign a → ⊥) → ((c : Call) → s ≡ stmt.Call c → ⊥) → ((c : Call) → s ≡ stmt.Sequence c → ⊥) → top_text (stmt_layer x) ≡ None
text_by s (Assigns a) e no_assign no_call no_sequence = absurd (no_assign a (sym e ∙ rolls-Assign a))
text_by s (Calls c) e no_assign no_call no_sequence = absurd (no_call c (sym e ∙ rolls-Call c))
text_by s (Defines x) e no_assign no_call no_sequence = refl
text_by s (Include n) e no_assign no_call no_sequence = refl
text_by s (SetFrame v x) e no_assign no_call no_sequence = refl
text_by s (Word x) e no_assign no_call no_sequence = refl
text_by s (Sequence c) e no_assign no_call no_sequence = absurd (no_sequence c (sym e ∙ rolls-Sequence c))

pub no_text : (s : Stmt) → ((a : Assign) → s ≡ stmt.Assign a → ⊥) → ((c : Call) → s ≡ stmt.Call c → ⊥) → ((c : Call) → s ≡ stmt.Sequence c → ⊥) → top_text (plain_stmt s) ≡ None
no_text s no_assign no_call no_sequence = ap top_text (plain_stmt_out s) ∙ text_by s (out-Stmt s) (roll-out-Stmt s) no_assign no_call no_sequence

-- the walk of one job
pub then_goes : (a : Walked) → and_then a (λ w. Goes w) ≡ a
then_goes (Goes w) = refl
then_goes (Faulty site x) = refl

pub finds : (r : Result Marks Stop) (a b : Walked) → a ≡ b → Ends a r → Finds (fault_in b) r
finds (Ok read) a b e h = ap fault_in (sym e ∙ h.1)
finds (Err (stop.Fault s x)) a b e h = ap fault_in (sym e ∙ h)
finds (Err stop.Memory) a b e h = tt

pub reads : (r : Result Marks Stop) (a b : Walked) → a ≡ b → Ends a r → IfOk r (λ read. flags read ≡ read_in b)
reads (Ok read) a b e h = sym h.2 ∙ ap read_in (sym h.1 ∙ e)
reads (Err why) a b e h = tt

-- the walk of a text of the top level, whose first job is this
pub started : (d : Dictionary) (f : Activation) (position n : ℕ) (ts : List Text) (t : TopText) → ((waiting : List m.Activation) → plain_activation waiting f ≡ m.at_top (first_target ts) position) → position ≡ length d.definitions → ts ≡ t.targets → n ≡ length t.targets →
    m.do_job d (m.ExprJob n t.value) m.at_end (m.alone (plain_activation [] f)) (walk_begins d) ≡ walk_of d t
started d f position n ts t e h a l =
    ap₂ (λ k g. m.do_job d (m.ExprJob k t.value) m.at_end (m.alone g) (walk_begins d)) l (e [] ∙ ap₂ (λ us p. m.at_top (first_target us) p) a h) ∙ then_goes (walk_of d t)

stopped : (A : Type 0) (e : Stop) (a before after : Walked) → a ≡ before → Continues {A = A} before (Err e) after → Stops a e
stopped A (stop.Fault s x) a before after h c = h ∙ c
stopped A stop.Memory a before after h c = tt

pub fails : {A : Type 0} (r : Result A Stop) (r' : Result Marks Stop) (e : Stop) (a before after : Walked) → a ≡ before → Continues before r after → r ≡ Err e → r' ≡ Err e → Ends a r'
fails {A = A} r r' e a before after h c p q = subst (Ends a) (sym q) (stopped A e a before after h (subst (λ (x : Result A Stop). Continues before x after) p c))
