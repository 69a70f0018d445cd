-- What each step of a walk does to its weight.
use Rattle.std.proofs.Common.{◌≡◌, ℕ, zero, suc, ◌+◌, ◌*◌, ◌<◌, ◌≤◌, List, [], ◌∷◌, ◌++◌, length, map, Option, Some, None, Bool, true, false, Vec, refl, sym, ap, ap₂, subst, ◌∙◌, option_map, arith}
use Rattle.std.specs.Prelude.{Result, Ok, Err, slice_index_or, slice_set, cond}
use Rattle.std.specs.Str.{bytes_eq}
use Rattle.std.specs.Map.{lookup}
use Rattle.std.specs.declared.alloc.Global.{Global}
use Rattle.std.proofs.lemmas.List.{map-append, length-map}
use Rattle.dx_ast.specs.declared.statements.Assign.{Assign}
use Rattle.dx_ast.specs.declared.statements.MacroDef.{MacroDef}
use Rattle.dx_ast.specs.Classes.{Text}
use Rattle.dx_base.specs.declared.function.Function.{Function}
use Rattle.dx_ast.specs.Table.{function_named}
use Rattle.dx_ast.specs.Plain.{plain_macro}
use Rattle.dx_ast.specs.Syntax as plain
use Rattle.dx_macros.specs.Dictionary.{Dictionary, callee}
use Rattle.dx_definitions.specs.TopTexts.{definition}
use Rattle.dx_signatures.specs.Callees.{Callee, callee_by}
use Rattle.dx_macros.specs.DictionaryView.{dictionary_of}
use Rattle.dx_definitions.specs.Index.{text_of}
use Rattle.dx_base.specs.Places.{Marks, flags}
use Rattle.dx_macros.specs.Machine as m
use Rattle.dx_macros.specs.MachineView.{plain_job, IsPushed, PushesJob, IsEntered, IsCounted, IsLeft}
use Rattle.dx_macros.specs.Weight.{expr_weight, call_weight, macro_weight, callee_weight, job_weight, jobs_weight, unread, chances, weight, Bounds, IsFit, FallsTo, Falls, Pays}
use Rattle.dx_macros.specs.Bound.{macros_weight, definitions_weight, bound_of}
use Rattle.dx_macros.specs.declared.dictionary.Dictionary.{Dictionary as CodeDictionary}
use Rattle.dx_macros.specs.declared.machine.Activation.{Activation}
use Rattle.dx_macros.specs.declared.machine.Job.{Job}
use Rattle.dx_macros.specs.declared.machine.Job.TheVariants as job
use Rattle.dx_macros.specs.declared.machine.Machine.{Machine}
use Rattle.dx_macros.specs.declared.machine.Stop.{Stop}

-- ---- every job weighs something

pub call_positive : (c : plain.Call) → 0 < call_weight c
call_positive (plain.MakeCall name cache args) = omega arith

-- ---- lists of jobs

jobs_snoc : (js : List m.Job) (j : m.Job) → jobs_weight (js ++ j ∷ []) ≡ jobs_weight js + job_weight j
jobs_snoc [] j = omega arith
jobs_snoc (i ∷ js) j = let h = jobs_snoc js j in omega (arith, h)

jobs_pushed : (js more : List Job) (j : Job) → more ≡ js ++ j ∷ [] → jobs_weight (map plain_job more) ≡ jobs_weight (map plain_job js) + job_weight (plain_job j)
jobs_pushed js more j e =
    ap (λ (xs : List Job). jobs_weight (map plain_job xs)) e ∙ ap jobs_weight (map-append plain_job js (j ∷ [])) ∙ jobs_snoc (map plain_job js) (plain_job j)

chances_same : (old new : Machine) → new.calls ≡ old.calls → new.read ≡ old.read → chances new.calls (flags new.read) ≡ chances old.calls (flags old.read)
chances_same old new e f = ap₂ (λ (n : ℕ) (v : Marks). chances n (flags v)) e f

fit_same : (d : Dictionary) (old new : Machine) → new.read ≡ old.read → IsFit d old → IsFit d new
fit_same d old new e h = ap (λ (v : Marks). length (flags v)) e ∙ h

-- a job more, where the same calls and readings can come
grown : (b : ℕ) (old new : Machine) (k : ℕ) → new.calls ≡ old.calls → new.read ≡ old.read → jobs_weight (map plain_job new.jobs.items) ≡ jobs_weight (map plain_job old.jobs.items) + k → weight b new ≡ weight b old + k
grown b old new k e f h =
    let same = ap (λ (n : ℕ). n * suc b) (chances_same old new e f) in
    omega (arith, same, h)

pub weight_pushed : (b : ℕ) (old new : Machine) (j : Job) → IsPushed old j new → weight b new ≡ weight b old + job_weight (plain_job j)
weight_pushed b old new j p = grown b old new (job_weight (plain_job j)) p.calls p.read (jobs_pushed old.jobs.items new.jobs.items j p.jobs)

-- ---- steps

pub still : (d : Dictionary) (w : ℕ) (old : Machine) → 0 < w → FallsTo d w old old
still d w old h b bounds fit = (omega arith, fit)

-- a text left behind
pub left_falls : (d : Dictionary) (w : ℕ) (old new : Machine) → IsLeft old new → 0 < w → FallsTo d w old new
left_falls d w old new p h b bounds fit =
    let same = grown b old new 0 p.calls p.read (ap (λ (v : Vec Job Global). jobs_weight (map plain_job v.items)) p.jobs ∙ sym (add-zero (jobs_weight (map plain_job old.jobs.items)))) in
    (omega (arith, same), fit_same d old new p.read fit)
  where
    add-zero : (n : ℕ) → n + 0 ≡ n
    add-zero n = omega arith

pub push_falls : {A : Type 0} (d : Dictionary) (w : ℕ) (old new : Machine) (j : Job) (r : Result A Stop) → PushesJob old j r new → job_weight (plain_job j) < w → Falls d w old r new
push_falls d w old new j (Ok a) p h = λ b bounds fit. (let e = weight_pushed b old new j p in omega (arith, e), fit_same d old new p.read fit)
push_falls d w old new j (Err s) p h = tt

pub wider : {A : Type 0} (d : Dictionary) (v w : ℕ) (old new : Machine) (r : Result A Stop) → Falls d v old r new → v ≤ w → Falls d w old r new
wider d v w old new (Ok a) f h = λ b bounds fit. (let x = (f b bounds fit).0 in omega (arith, x), (f b bounds fit).1)
wider d v w old new (Err s) f h = tt

-- a job pushed before
pub pushed_falls : {A : Type 0} (d : Dictionary) (w : ℕ) (old mid new : Machine) (j : Job) (r : Result A Stop) → IsPushed old j mid → Falls d w mid r new → Falls d (w + job_weight (plain_job j)) old r new
pushed_falls d w old mid new j (Ok a) p f = λ b bounds fit.
    let e = weight_pushed b old mid j p in
    let g = f b bounds (fit_same d old mid p.read fit) in
    (let x = g.0 in omega (arith, e, x), g.1)
pushed_falls d w old mid new j (Err s) p f = tt

-- a text entered before
pub entered_falls : {A : Type 0} (d : Dictionary) (w : ℕ) (old mid new : Machine) (g : Activation) (r : Result A Stop) → IsEntered old g mid → Falls d w mid r new → Falls d (w + 1) old r new
entered_falls d w old mid new g (Ok a) p f = λ b bounds fit.
    let e = grown b old mid 1 p.calls p.read (jobs_pushed old.jobs.items mid.jobs.items job.Leave p.jobs) in
    let h = f b bounds (fit_same d old mid p.read fit) in
    (let x = h.0 in omega (arith, e, x), h.1)
entered_falls d w old mid new g (Err s) p f = tt

-- one chance less pays for what it brings
spent : (b n k : ℕ) → n ≡ suc k → n * suc b ≡ k * suc b + suc b
spent b n k e = ap (λ (x : ℕ). x * suc b) e ∙ more_by k (suc b)
  where
    more_by : (k c : ℕ) → suc k * c ≡ k * c + c
    more_by k c = grind arith

unread_marked : (read : List Bool) (i : ℕ) → i < length read → slice_index_or read i false ≡ false → unread read ≡ suc (unread (slice_set read i true))
unread_marked [] i h e = absurd (omega arith)
unread_marked (true ∷ rest) zero h e = cc
unread_marked (false ∷ rest) zero h e = refl
unread_marked (true ∷ rest) (suc i) h e = unread_marked rest i (omega arith) e
unread_marked (false ∷ rest) (suc i) h e = ap suc (unread_marked rest i (omega arith) e)

length_marked : (read : List Bool) (i : ℕ) → length (slice_set read i true) ≡ length read
length_marked [] i = refl
length_marked (x ∷ rest) zero = refl
length_marked (x ∷ rest) (suc i) = ap suc (length_marked rest i)

-- a definition is read for the first time
pub defines_falls : {A : Type 0} (d : Dictionary) (i : ℕ) (old mid new : Machine) (read : Marks) (g : Activation) (j : Job) (r : Result A Stop) → i < length d.definitions →
    flags read ≡ slice_set (flags old.read) i true → slice_index_or (flags old.read) i false ≡ false →
    IsEntered (record { jobs = old.jobs; active = old.active; waiting = old.waiting; calls = old.calls; read = read }) g mid → PushesJob mid j r new →
    job_weight (plain_job j) ≡ expr_weight (definition d.definitions i).value → Falls d 1 old r new
defines_falls d i old mid new read g j (Ok a) h s e p q l = λ b bounds fit.
    let x : Machine = record { jobs = old.jobs; active = old.active; waiting = old.waiting; calls = old.calls; read = read } in
    let here : i < length (flags old.read) = omega (arith, fit) in
    let less = unread_marked (flags old.read) i here e in
    let marked = ap unread s in
    let paid = spent b (chances old.calls (flags old.read)) (chances x.calls (flags x.read)) (omega (arith, less, marked)) in
    let entered = grown b x mid 1 p.calls p.read (jobs_pushed x.jobs.items mid.jobs.items job.Leave p.jobs) in
    let pushed = weight_pushed b mid new j q in
    let small = bounds.definitions i h in
    let kept : length (flags read) ≡ length (flags old.read) = ap length s ∙ length_marked (flags old.read) i in
    (omega (arith, paid, entered, pushed, small, l), fit_same d mid new q.read (fit_same d x mid p.read (kept ∙ fit)))
defines_falls d i old mid new read g j (Err stop) h s e p q l = tt

-- a call is counted
counted_pays : (b : ℕ) (old mid : Machine) (name : Text) → old.calls < 65536 → IsCounted old name mid → weight b mid + suc b ≡ weight b old
counted_pays b old mid name h p =
    let calls = p.calls in
    let read : unread (flags mid.read) ≡ unread (flags old.read) = ap (λ (v : Marks). unread (flags v)) p.read in
    let jobs : jobs_weight (map plain_job mid.jobs.items) ≡ jobs_weight (map plain_job old.jobs.items) = ap (λ (v : Vec Job Global). jobs_weight (map plain_job v.items)) p.jobs in
    let paid = spent b (chances old.calls (flags old.read)) (chances mid.calls (flags mid.read)) (omega (arith, calls, read)) in
    omega (arith, paid, jobs)

pub accepted_pays : {A : Type 0} (d : Dictionary) (old mid new : Machine) (name : Text) (j : Job) (w : ℕ) (r : Result A Stop) → old.calls < 65536 → IsCounted old name mid →
    PushesJob mid j r new → job_weight (plain_job j) ≤ w → Pays d w old r new
accepted_pays d old mid new name j w (Ok a) h p q l = λ b bounds fit.
    let counted = counted_pays b old mid name h p in
    let pushed = weight_pushed b mid new j q in
    (omega (arith, counted, pushed, l), fit_same d mid new q.read (fit_same d old mid p.read fit))
accepted_pays d old mid new name j w (Err s) h p q l = tt

pub accepted_macro_pays : {A : Type 0} (d : Dictionary) (old mid mid1 new : Machine) (name : Text) (i j : Job) (w : ℕ) (r : Result A Stop) → old.calls < 65536 → IsCounted old name mid →
    IsPushed mid i mid1 → PushesJob mid1 j r new → job_weight (plain_job i) + job_weight (plain_job j) ≤ w → Pays d w old r new
accepted_macro_pays d old mid mid1 new name i j w (Ok a) h p s q l = λ b bounds fit.
    let counted = counted_pays b old mid name h p in
    let first = weight_pushed b mid mid1 i s in
    let pushed = weight_pushed b mid1 new j q in
    (omega (arith, counted, first, pushed, l), fit_same d mid1 new q.read (fit_same d mid mid1 s.read (fit_same d old mid p.read fit)))
accepted_macro_pays d old mid mid1 new name i j w (Err stop) h p s q l = tt

callee_bounded : (d : Dictionary) (b : ℕ) (name : Text) → Bounds d b → callee_weight (callee d.macros name) ≤ b
callee_bounded d b name bounds = go (d.macros name) (function_named name) (λ x e. bounds.macros name x e)
  where
    go : (o : Option plain.Macro) (f : Option Function) → ((x : plain.Macro) → o ≡ Some x → macro_weight x ≤ b) → callee_weight (callee_by o f) ≤ b
    go (Some x) f h = h x refl
    go None None h = omega arith
    go None (Some f) h = omega arith

pub call_falls : {A : Type 0} (d : Dictionary) (old new : Machine) (name : Text) (cl : Callee) (w v : ℕ) (r : Result A Stop) → cl ≡ callee d.macros name → Pays d (w + callee_weight cl) old r new → w < v → Falls d v old r new
call_falls d old new name cl w v (Ok a) e p h = λ b bounds fit.
    let x = (p b bounds fit).0 in
    let small : callee_weight cl ≤ b = subst (λ (y : Callee). callee_weight y ≤ b) (sym e) (callee_bounded d b name bounds) in
    (omega (arith, x, small, h), (p b bounds fit).1)
call_falls d old new name cl w v (Err s) e p h = tt

-- ---- a bound

macro_bounded : (es : List (Vec ℕ Global × MacroDef)) (test : Vec ℕ Global → Bool) (x : plain.Macro) → option_map plain_macro (lookup test es) ≡ Some x → macro_weight x ≤ macros_weight es
macro_bounded [] test x e = cc
macro_bounded (p ∷ rest) test x e = go (test p.0) (macro_bounded rest test x) e
  where
    go : (b : Bool) → (option_map plain_macro (lookup test rest) ≡ Some x → macro_weight x ≤ macros_weight rest) → option_map plain_macro (cond b (Some p.1) (lookup test rest)) ≡ Some x → macro_weight x ≤ macro_weight (plain_macro p.1) + macros_weight rest
    go true h e = let same : plain_macro p.1 ≡ x = cc in let w = ap macro_weight same in omega (arith, w)
    go false h e = let w = h e in omega (arith, w)

definition_bounded : (xs : List Assign) (i : ℕ) → i < length xs → expr_weight (definition (map text_of xs) i).value ≤ definitions_weight xs
definition_bounded [] i h = absurd (omega arith)
definition_bounded (a ∷ rest) zero h = omega arith
definition_bounded (a ∷ rest) (suc i) h = let w = definition_bounded rest i (omega arith) in omega (arith, w)

pub bounded : (d : CodeDictionary) → Bounds (dictionary_of d) (bound_of d)
bounded d = record {
  macros = λ name x e. let w = macro_bounded d.macros.entries (λ (key : Vec ℕ Global). bytes_eq name key.items) x e in omega (arith, w);
  definitions = λ i h. let below : i < length d.definitions.items = omega (arith, h, length-map d.definitions.items text_of) in let w = definition_bounded d.definitions.items i below in omega (arith, w);
}

-- ---- a job popped

pub popped_weight : (b : ℕ) (old : Machine) (jobs : Vec Job Global) (j : Job) → old.jobs.items ≡ jobs.items ++ j ∷ [] →
    weight b old ≡ weight b (record { jobs = jobs; active = old.active; waiting = old.waiting; calls = old.calls; read = old.read }) + job_weight (plain_job j)
popped_weight b old jobs j e = let h = jobs_pushed jobs.items old.jobs.items j e in omega (arith, h)
