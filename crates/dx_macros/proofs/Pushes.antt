-- Machines with more jobs.
use Rattle.std.proofs.Common.{◌≡◌, ℕ, List, [], ◌∷◌, ◌++◌, map, length, drop, ◌≤◌, arith, refl, Bool, sym, ap, ap₂, ◌∙◌, subst}
use Rattle.std.specs.Prelude.{Result, Ok, Err, Vec}
use Rattle.std.specs.declared.alloc.Global.{Global}
use Rattle.std.proofs.lemmas.List.{map-append, at_drop_all}
use Rattle.dx_macros.specs.Site.{Step}
use Rattle.dx_macros.specs.Dictionary.{Dictionary}
use Rattle.dx_macros.specs.Walk.{Walked, Walk, and_then}
use Rattle.dx_ast.specs.Classes.{Text}
use Rattle.dx_base.specs.Places.{flags}
use Rattle.dx_macros.specs.Machine as m
use Rattle.dx_macros.specs.declared.machine.Activation.{Activation}
use Rattle.dx_macros.specs.declared.machine.Job.{Job}
use Rattle.dx_macros.specs.declared.machine.Machine.{Machine}
use Rattle.dx_macros.specs.declared.machine.Stop.{Stop}
use Rattle.dx_macros.specs.declared.machine.Stop.TheVariants as stop
use Rattle.dx_macros.specs.declared.machine.Job.TheVariants as job
use Rattle.dx_macros.specs.MachineView.{plain_job, plain_activation, waiting_above, base_of, steps_behind, stacked, stack_now, walk_now, rest, means, Continues, IsPushed, PushesJob, IsEntered, Enters, job_first, name_first, IsLeft}
use Rattle.dx_macros.proofs.Steps.{jobs_push}

pub rest_push : (d : Dictionary) (js more : List Job) (j : Job) → more ≡ js ++ j ∷ [] → m.rest_of d (map plain_job more) ≡ m.do_job d (plain_job j) (m.rest_of d (map plain_job js))
rest_push d js more j e =
    ap (λ xs. m.rest_of d (map plain_job xs)) e ∙ ap (m.rest_of d) (map-append plain_job js (j ∷ [])) ∙ jobs_push d m.at_end (map plain_job js) (plain_job j)

walk_same : (old new : Machine) → new.calls ≡ old.calls → new.read ≡ old.read → walk_now new ≡ walk_now old
walk_same old new e f = ap₂ (λ (n : ℕ) (bs : List Bool). let w : Walk = record { calls = n; read = bs } in w) e (ap flags f)

-- what a machine leads to after a push, by its new rest
pub rest_pushed : (d : Dictionary) (old new : Machine) (j : Job) → IsPushed old j new → rest d new ≡ m.do_job d (plain_job j) (rest d old)
rest_pushed d old new j p = rest_push d old.jobs.items new.jobs.items j p.jobs

stack_same : (old new : Machine) → new.active ≡ old.active → new.waiting ≡ old.waiting → stack_now new ≡ stack_now old
stack_same old new e f = ap₂ (λ (a : Activation) (v : Vec Activation Global). stacked v.items a) e f

pub at_same : (k : m.Rest) (old new : Machine) (j : Job) → IsPushed old j new → k (stack_now new) (walk_now new) ≡ k (stack_now old) (walk_now old)
at_same k old new j p = ap₂ (λ s w. k s w) (stack_same old new p.active p.waiting) (walk_same old new p.calls p.read)

pub pushed : (d : Dictionary) (old new : Machine) (j : Job) → IsPushed old j new → means d new ≡ job_first d (plain_job j) old
pushed d old new j p =
    ap (λ k. k (stack_now new) (walk_now new)) (rest_pushed d old new j p) ∙ at_same (m.do_job d (plain_job j) (rest d old)) old new j p

pub first_pushed : (d : Dictionary) (old new : Machine) (i : m.Job) (j : Job) → IsPushed old j new → job_first d i new ≡ m.do_job d i (m.do_job d (plain_job j) (rest d old)) (stack_now old) (walk_now old)
first_pushed d old new i j p =
    ap (λ k. m.do_job d i k (stack_now new) (walk_now new)) (rest_pushed d old new j p) ∙ at_same (m.do_job d i (m.do_job d (plain_job j) (rest d old))) old new j p

-- two jobs pushed
pub pushed_twice : (d : Dictionary) (old mid new : Machine) (j i : Job) → IsPushed old j mid → IsPushed mid i new → means d new ≡ m.do_job d (plain_job i) (m.do_job d (plain_job j) (rest d old)) (stack_now old) (walk_now old)
pushed_twice d old mid new j i p q = pushed d mid new i q ∙ first_pushed d old mid (plain_job i) j p

pub ok_pushed : {A : Type 0} (old new : Machine) (j : Job) (r : Result A Stop) (a : A) → r ≡ Ok a → PushesJob old j r new → IsPushed old j new
ok_pushed {A = A} old new j r a e p = let P : Result A Stop → Type 0 = λ r. PushesJob old j r new in subst P e p

-- a push at the end
pub by_push : {A : Type 0} (old new : Machine) (j : Job) (r : Result A Stop) (before after : Walked) → PushesJob old j r new → (IsPushed old j new → before ≡ after) → Continues before r after
by_push old new j (Ok a) before after p go = go p
by_push old new j (Err (stop.Fault s fault)) before after p go = absurd p
by_push old new j (Err stop.Memory) before after p go = tt

-- a call at the end
pub by_call : {A : Type 0} (r : Result A Stop) (before middle after : Walked) → before ≡ middle → Continues middle r after → Continues before r after
by_call r before middle after e p = let P : Walked → Type 0 = λ x. Continues x r after in subst P (sym e) p

-- one more text that waits
above : (waiting : List m.Activation) (js : List Activation) (a : Activation) → waiting_above waiting (js ++ a ∷ []) ≡ plain_activation (waiting_above waiting js) a ∷ waiting_above waiting js
above waiting [] a = refl
above waiting (b ∷ js) a = above (plain_activation waiting b ∷ waiting) js a

-- the stack where the text so far waits for another
stack_entered : (old mid : Machine) (a : Activation) → IsEntered old a mid → stack_now mid ≡ m.entered (plain_activation ((stack_now old).active ∷ (stack_now old).waiting) a) (stack_now old)
stack_entered old mid a p =
    let grown = ap (waiting_above []) p.waiting ∙ above [] old.waiting.items old.active in
    ap (λ (x : Activation). stacked mid.waiting.items x) p.active
    ∙ ap (λ (w : List m.Activation). let s : m.Stack = record { active = plain_activation w a; waiting = w } in s) grown

-- a job pushed for a new text
pub entered : (d : Dictionary) (old mid new : Machine) (a : Activation) (i : Job) → IsEntered old a mid → IsPushed mid i new →
    means d new ≡ m.do_job d (plain_job i) (m.do_job d m.LeaveJob (rest d old)) (m.entered (plain_activation ((stack_now old).active ∷ (stack_now old).waiting) a) (stack_now old)) (walk_now old)
entered d old mid new a i p q =
    pushed d mid new i q
    ∙ ap (λ k. m.do_job d (plain_job i) k (stack_now mid) (walk_now mid)) (rest_push d old.jobs.items mid.jobs.items job.Leave p.jobs)
    ∙ ap₂ (λ s w. m.do_job d (plain_job i) (m.do_job d m.LeaveJob (rest d old)) s w) (stack_entered old mid a p) (walk_same old mid p.calls p.read)

pub ok_entered : {A : Type 0} (old new : Machine) (a : Activation) (r : Result A Stop) (x : A) → r ≡ Ok x → Enters old a r new → IsEntered old a new
ok_entered {A = A} old new a r x e p = let P : Result A Stop → Type 0 = λ r. Enters old a r new in subst P e p

-- the text that waits goes on
pub none_waits : (waiting : List Activation) (a : Activation) → length waiting ≡ 0 → stacked waiting a ≡ m.left_behind (stacked waiting a)
none_waits [] a e = refl
none_waits (b ∷ rest) a e = absurd (omega arith)

pub last_waits : (old new : List Activation) (a b : Activation) → old ≡ new ++ b ∷ [] → stacked new b ≡ m.left_behind (stacked old a)
last_waits old new a b e =
    sym (ap (λ (w : List m.Activation). m.left_behind (record { active = plain_activation w a; waiting = w })) (ap (waiting_above []) e ∙ above [] new b))

-- what is left where a text is left behind
pub left : (d : Dictionary) (old new : Machine) → IsLeft old new → job_first d m.LeaveJob old ≡ means d new
left d old new p =
    sym (ap (λ (js : Vec Job Global). m.rest_of d (map plain_job js.items) (stack_now new) (walk_now new)) p.jobs
    ∙ ap₂ (λ s w. rest d old s w) p.stack (walk_same old new p.calls p.read))

pub pushed_thrice : (d : Dictionary) (a b c e : Machine) (j i h : Job) → IsPushed a j b → IsPushed b i c → IsPushed c h e → means d e ≡ m.do_job d (plain_job h) (m.do_job d (plain_job i) (m.do_job d (plain_job j) (rest d a))) (stack_now a) (walk_now a)
pushed_thrice d a b c e j i h p q r =
    pushed_twice d b c e i h q r
    ∙ ap (λ k. m.do_job d (plain_job h) (m.do_job d (plain_job i) k) (stack_now b) (walk_now b)) (rest_pushed d a b j p)
    ∙ at_same (m.do_job d (plain_job h) (m.do_job d (plain_job i) (m.do_job d (plain_job j) (rest d a)))) a b j p

-- the reading of a name after a push
pub name_pushed : (d : Dictionary) (old new : Machine) (n : Text) (j : Job) → IsPushed old j new → name_first d n new ≡ and_then (m.reads d (stack_now old).active n (walk_now old)) (m.do_job d (plain_job j) (rest d old) (stack_now old))
name_pushed d old new n j p =
    ap (λ k. and_then (m.reads d (stack_now new).active n (walk_now new)) (k (stack_now new))) (rest_pushed d old new j p)
    ∙ ap₂ (λ s w. and_then (m.reads d s.active n w) (m.do_job d (plain_job j) (rest d old) s)) (stack_same old new p.active p.waiting) (walk_same old new p.calls p.read)

pub chain : {A B : Type 0} (g : A → B) (x y : A) (r b : B) → y ≡ x → r ≡ g y → r ≡ b → g x ≡ b
chain g x y r b e h p = ap g (sym e) ∙ sym h ∙ p

-- the steps that lead to a text, from those of the first that waits
pub behind_base : (waiting : List m.Activation) (js : List Activation) → base_of (waiting_above waiting js) ≡ steps_behind (base_of waiting) js
behind_base waiting [] = refl
behind_base waiting (a ∷ js) = behind_base (plain_activation waiting a ∷ waiting) js

pub behind_all : (steps : List Step) (js : List Activation) (i : ℕ) → length js ≤ i → steps_behind steps (drop i js) ≡ steps_behind [] js → steps ≡ base_of (waiting_above [] js)
behind_all steps js i h e = sym (at_drop_all (steps_behind steps) js i h) ∙ e ∙ sym (behind_base [] js)
