-- One step of the walk.
use Rattle.std.proofs.Common.{◌≡◌, ℕ, zero, suc, List, [], ◌∷◌, ◌++◌, length, Option, Some, None, Bool, true, false, refl, sym, ap, ◌∙◌, append_assoc}
use Rattle.std.specs.Prelude.{slice_index_or, slice_set, if◌then◌else◌}
use Rattle.dx_base.specs.declared.function.Function.{Function}
use Rattle.dx_ast.specs.Classes.{Text}
use Rattle.dx_ast.specs.Syntax.{Expr, Call, MakeCall, Args, AndArg, Assigns, Calls, Macro, MakeMacro, Stmts, AndStmt}
use Rattle.dx_ast.specs.declared.statements.Param.{Param}
use Rattle.dx_signatures.specs.declared.fault.StaticFault.{StaticFault}
use Rattle.dx_macros.specs.Site.{Step, first_target, next_step}
use Rattle.dx_base.specs.NameLists.{has}
use Rattle.dx_macros.specs.Names.{calls_in, calls_in_args}
use Rattle.dx_macros.specs.Dictionary.{Dictionary, Macros, callee}
use Rattle.dx_definitions.specs.TopTexts.{TopText, definition, last_named}
use Rattle.dx_signatures.specs.Callees.{param_names, CallsMacro, CallsFunction}
use Rattle.dx_macros.specs.Walk.{Walk, Walked, Goes, Faulty, and_then, reader_at, walk_macro, walk_call, walk_expr, walk_args, pick, read_definition}
use Rattle.dx_signatures.specs.Faults.{fault_of_call, arg_names}
use Rattle.dx_macros.specs.Machine.{Stack, Job, ExprJob, CallJob, ArgsJob, EnterJob, BodyJob, OwnJob, NamesJob, LeaveJob, top_reader, reads, under, met, with_active, entered, Rest, do_job, jobs_above, in_macro, at_top}

pub jobs_push : (d : Dictionary) (k : Rest) (js : List Job) (j : Job) → jobs_above d k (js ++ j ∷ []) ≡ do_job d j (jobs_above d k js)
jobs_push d k [] j = refl
jobs_push d k (i ∷ js) j = jobs_push d (do_job d i k) js j

pub then_assoc : (a : Walked) (g h : Walk → Walked) → and_then (and_then a g) h ≡ and_then a (λ w. and_then (g w) h)
then_assoc (Goes w) g h = refl
then_assoc (Faulty site fault) g h = refl

then_same : (a : Walked) (g h : Walk → Walked) → ((w : Walk) → g w ≡ h w) → and_then a g ≡ and_then a h
then_same (Goes w) g h e = e w
then_same (Faulty site fault) g h e = refl

pub met_twice : (s : Stack) (xs ys : List Text) → met ys (met xs s) ≡ met (xs ++ ys) s
met_twice s xs ys =
    let a = s.active in
    ap (λ (b : List Text). with_active s (record { base = a.base; left = a.left; position = a.position; own = a.own; before = b })) (append_assoc a.before xs ys)

module _ (d : Dictionary) (k : Rest) (s : Stack) (w : Walk) where
  pub args_step : (n : Option Text) (e : Expr) (args : Args) → do_job d (ArgsJob (AndArg n e args)) k s w ≡ do_job d (ExprJob 0 e) (do_job d (ArgsJob args) k) s w
  args_step n e args =
      then_assoc (walk_expr (under d s.active) s.active.base (reads d s.active) s.active.before 0 e w) _ _
      ∙ then_same (walk_expr (under d s.active) s.active.base (reads d s.active) s.active.before 0 e w) _ _
      (λ w1. ap (λ g. and_then (walk_args (under d s.active) s.active.base (reads d s.active) (s.active.before ++ calls_in e) args w1) (k g)) (sym (met_twice s (calls_in e) (calls_in_args args))))

  pub enter_step : (left : ℕ) (name : Text) (params : List Param) (results : List Text) (body : Stmts) (step : Step) → s.active.left ≡ suc left →
      do_job d (EnterJob (MakeMacro name params results body) step) k s w ≡ do_job d (BodyJob results body) (do_job d LeaveJob k) (entered (in_macro s.active left (param_names params) step) s) w
  enter_step left name params results body step e = ap (λ n. and_then (walk_macro d.macros (top_reader d s.active) n (MakeMacro name params results body) (s.active.base ++ step ∷ []) w) (k s)) e

  pub body_call_step : (results : List Text) (c : Call) (rest : Stmts) → do_job d (BodyJob results (AndStmt (Calls c) rest)) k s w ≡ do_job d (CallJob 0 c) (do_job d (BodyJob results rest) k) s w
  body_call_step results c rest = then_assoc (walk_call (under d s.active) s.active.base (reads d s.active) s.active.before 0 c w) _ _

  pub body_assign_step : (results : List Text) (targets : List Text) (e : Expr) (rest : Stmts) → do_job d (BodyJob results (AndStmt (Assigns targets e) rest)) k s w ≡ do_job d (ExprJob (length targets) e) (do_job d (OwnJob targets) (do_job d (BodyJob results rest) k)) s w
  body_assign_step results targets e rest = then_assoc (walk_expr (under d s.active) s.active.base (reads d s.active) s.active.before (length targets) e w) _ _

  pub names_step : (n : Text) (ns : List Text) → do_job d (NamesJob (n ∷ ns)) k s w ≡ and_then (reads d s.active n w) (do_job d (NamesJob ns) k s)
  names_step n ns = then_assoc (reads d s.active n w) _ _

  pub call_fault_step : (targets : ℕ) (name : Text) (cache : ℕ) (args : Args) (fault : StaticFault) →
      fault_of_call w.calls (callee d.macros name) s.active.left (arg_names args) targets ≡ Some fault →
      do_job d (CallJob targets (MakeCall name cache args)) k s w ≡ Faulty (s.active.base ++ next_step name s.active.before ∷ []) fault
  call_fault_step targets name cache args fault e = rw e refl

  pub call_macro_step : (targets : ℕ) (name : Text) (cache : ℕ) (args : Args) (m : Macro) →
      fault_of_call w.calls (callee d.macros name) s.active.left (arg_names args) targets ≡ None →
      callee d.macros name ≡ CallsMacro m →
      do_job d (CallJob targets (MakeCall name cache args)) k s w ≡
      do_job d (ArgsJob args) (do_job d (EnterJob m (next_step name s.active.before)) k) (met (name ∷ []) s) (record { calls = suc w.calls; read = w.read })
  call_macro_step targets name cache args m e c =
      let w1 : Walk = record { calls = suc w.calls; read = w.read } in
      rw (e, c)
      (then_assoc (walk_args (under d s.active) s.active.base (reads d s.active) (s.active.before ++ name ∷ []) args w1) _ _
      ∙ then_same (walk_args (under d s.active) s.active.base (reads d s.active) (s.active.before ++ name ∷ []) args w1) _ _
      (λ w2. ap (λ g. and_then (walk_macro d.macros (top_reader d s.active) s.active.left m (s.active.base ++ next_step name s.active.before ∷ []) w2) (k g)) (sym (met_twice s (name ∷ []) (calls_in_args args)))))

  pub call_function_step : (targets : ℕ) (name : Text) (cache : ℕ) (args : Args) (h : Function) →
      fault_of_call w.calls (callee d.macros name) s.active.left (arg_names args) targets ≡ None →
      callee d.macros name ≡ CallsFunction h →
      do_job d (CallJob targets (MakeCall name cache args)) k s w ≡
      do_job d (ArgsJob args) k (met (name ∷ []) s) (record { calls = suc w.calls; read = w.read })
  call_function_step targets name cache args h e c =
      let w1 : Walk = record { calls = suc w.calls; read = w.read } in
      rw (e, c)
      (then_assoc (walk_args (under d s.active) s.active.base (reads d s.active) (s.active.before ++ name ∷ []) args w1) _ _
      ∙ then_same (walk_args (under d s.active) s.active.base (reads d s.active) (s.active.before ++ name ∷ []) args w1) _ _
      (λ w2. ap (λ g. k g w2) (sym (met_twice s (name ∷ []) (calls_in_args args)))))

-- Reading a name.

module _ (macros : Macros) (definitions : List TopText) (n : Text) where
  none_by : (b : Bool) (i : ℕ) → (last_named definitions i n ≡ None → reader_at macros definitions i n ≡ Goes) → (if b then Some i else last_named definitions i n) ≡ None → pick b (read_definition macros (reader_at macros definitions i) i (definition definitions i)) (reader_at macros definitions i n) ≡ Goes
  none_by true i go e = cc
  none_by false i go e = go e

  some_by : (b : Bool) (p i : ℕ) → (last_named definitions p n ≡ Some i → reader_at macros definitions p n ≡ read_definition macros (reader_at macros definitions i) i (definition definitions i)) → (if b then Some p else last_named definitions p n) ≡ Some i → pick b (read_definition macros (reader_at macros definitions p) p (definition definitions p)) (reader_at macros definitions p n) ≡ read_definition macros (reader_at macros definitions i) i (definition definitions i)
  some_by true p i go e = let same : p ≡ i = cc in ap (λ j. read_definition macros (reader_at macros definitions j) j (definition definitions j)) same
  some_by false p i go e = go e

  pub reader_none : (p : ℕ) → last_named definitions p n ≡ None → reader_at macros definitions p n ≡ Goes
  reader_none zero e = refl
  reader_none (suc i) e = none_by (has (definition definitions i).targets n) i (reader_none i) e

  pub reader_some : (p i : ℕ) → last_named definitions p n ≡ Some i → reader_at macros definitions p n ≡ read_definition macros (reader_at macros definitions i) i (definition definitions i)
  reader_some zero i e = cc
  reader_some (suc p) i e = some_by (has (definition definitions p).targets n) p i (reader_some p i) e

module _ (d : Dictionary) (k : Rest) (s : Stack) (w : Walk) (n : Text) where
  pub unbound_step : has s.active.own n ≡ false → last_named d.definitions s.active.position n ≡ None → and_then (reads d s.active n w) (k s) ≡ k s w
  unbound_step e h = rw (e, reader_none d.macros d.definitions n s.active.position h) refl

  pub read_again_step : (i : ℕ) → has s.active.own n ≡ false → last_named d.definitions s.active.position n ≡ Some i → slice_index_or w.read i false ≡ true → and_then (reads d s.active n w) (k s) ≡ k s w
  read_again_step i e h r = rw (e, reader_some d.macros d.definitions n s.active.position i h, r) refl

  pub first_read_step : (i : ℕ) → has s.active.own n ≡ false → last_named d.definitions s.active.position n ≡ Some i → slice_index_or w.read i false ≡ false →
      and_then (reads d s.active n w) (k s) ≡
      do_job d (ExprJob (length (definition d.definitions i).targets) (definition d.definitions i).value) (do_job d LeaveJob k) (entered (at_top (first_target (definition d.definitions i).targets) i) s) (record { calls = w.calls; read = slice_set w.read i true })
  first_read_step i e h r = rw (e, reader_some d.macros d.definitions n s.active.position i h, r) refl
