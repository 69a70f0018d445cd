-- Where effects were cut short, a front of all their text was printed, and a front of all their runs was told.
use Rattle.std.proofs.Common.{◌≡◌, inl, inr, ℕ, List, [], ◌∷◌, ◌++◌, Bool, true, false, Option, refl, sym, ap, ◌∙◌, subst, append_assoc}
use Rattle.dx_base.specs.declared.function.Effect.{Effect}
use Rattle.dx_base.specs.declared.function.Function.TheVariants as function
use Rattle.dx_io.specs.Devices.{GrowsInto}
use Rattle.dx_macros.specs.Site.{Step}
use Rattle.dx_macros.specs.Tree.{Place, CallTree, TreeCall}
use Rattle.dx_machine.specs.Machine.{Task, tasks_of}
use Rattle.dx_objects.specs.Runs.{Values}
use Rattle.dx_getting.specs.Told.{Told}
use Rattle.dx_getting.proofs.TellLaws.{some_later}
use Rattle.dx_meaning.specs.Meaning.{World, outcomes, together}
use Rattle.dx_meaning.specs.Outcome.{Decided, Val, ErrAt, Off, HaltAt}
use Rattle.dx_performing.specs.Acts.{Act, Prints, Puts, Sets, Refuses, act}
use Rattle.dx_performing.specs.Execution.{Execution, execution, performing, deciding, call_of}
use Rattle.dx_performing.specs.Kept.{Kept}
use Rattle.dx_performing.specs.Course.{Fixed, At, world_of, around_of, sight_of, look_at, came, ends_by, worked, unless, call_course, course, begins, committed, executed}
use Rattle.dx_engine.specs.Executing.{Devices, IsCutEarly}
use Rattle.dx_engine.specs.Fronts.{AddsFront}
use Rattle.dx_engine.specs.Keeping.{kept_of}
use Rattle.dx_engine.specs.Stopping.{StopsIn, ToldBefore, printed_by, runs_by}
use Rattle.dx_engine.specs.declared.state.State.{State}
use Rattle.dx_engine.proofs.Coursing.{MoreRuns, more_none, course_more}
use Rattle.dx_engine.proofs.Fronts.{front_all, front_some}
use Rattle.dx_engine.proofs.SoundBehind.{tasks_stay}

-- ---- effects behind others only add text

abbrev Longer : Execution → Execution → Type 0
Longer y z = (rest : List ℕ) × (z.printed ≡ y.printed ++ rest)

acted_longer : (site : List Step) (a : Act) (y z : Execution) → Longer y z → Longer (performing site a y) (performing site a z)
acted_longer site (Prints text) y z h = (h.0, ap (λ t. text ++ t) h.1 ∙ sym (append_assoc text y.printed h.0))
acted_longer site (Puts name content) y z h = h
acted_longer site (Sets key value) y z h = h
acted_longer site (Refuses code) y z h = ([], refl)

decided_longer : (e : Effect) (p : Place) (d : Decided Values) (y z : Execution) → Longer y z → Longer (deciding e p d y) (deciding e p d z)
decided_longer e p Off y z h = h
decided_longer e p (HaltAt site code) y z h = ([], refl)
decided_longer e p (ErrAt site code) y z h = ([], refl)
decided_longer e p (Val values) y z h = acted_longer p.site (act e p values) y z h

call_longer : (w : World) (c : CallTree) (y z : Execution) → Longer y z → Longer (call_of w c y) (call_of w c z)
call_longer w (TreeCall (function.Effect e) p args) y z h = decided_longer e p (together (outcomes w args)).decided y z h
call_longer w (TreeCall (function.Module m) p args) y z h = h
call_longer w (TreeCall function.Switch p args) y z h = h
call_longer w (TreeCall function.Route p args) y z h = h
call_longer w (TreeCall function.GetLocal p args) y z h = h
call_longer w (TreeCall function.GetGlobal p args) y z h = h

effects_longer : (w : World) (cs more : List CallTree) → Longer (execution w cs) (execution w (cs ++ more))
effects_longer w [] more = ((execution w more).printed, refl)
effects_longer w (c ∷ cs) more = call_longer w c (execution w cs) (execution w (cs ++ more)) (effects_longer w cs more)

-- ---- and only add runs

unless_later : (b : Bool) (now later later' : At) → MoreRuns later.state later'.state → MoreRuns (unless b now later).state (unless b now later').state
unless_later true now later later' m = more_none now.state
unless_later false now later later' m = m

call_later : (x : Fixed) (k : Kept) (c : CallTree) (rest rest' : At → At) → ((at : At) → MoreRuns (rest at).state (rest' at).state) → (at : At) → MoreRuns (call_course x k c rest at).state (call_course x k c rest' at).state
call_later x k (TreeCall (function.Effect e) p args) rest rest' h at =
    let now = worked x k e p (look_at (sight_of x k) args) at in
    unless_later (ends_by e p (came (around_of x k) (look_at (sight_of x k) args).terms)) now (rest now) (rest' now) (h now)
call_later x k (TreeCall (function.Module m) p args) rest rest' h at = h at
call_later x k (TreeCall function.Switch p args) rest rest' h at = h at
call_later x k (TreeCall function.Route p args) rest rest' h at = h at
call_later x k (TreeCall function.GetLocal p args) rest rest' h at = h at
call_later x k (TreeCall function.GetGlobal p args) rest rest' h at = h at

course_later : (x : Fixed) (k : Kept) (cs more : List CallTree) (at : At) → MoreRuns (course x k cs at).state (course x k (cs ++ more) at).state
course_later x k [] more at = course_more x k more at
course_later x k (c ∷ cs) more at = call_later x k c (course x k cs) (course x k (cs ++ more)) (course_later x k cs more) at

-- ---- of all effects

told_front : (text : List ℕ) (ahead : Bool) (base now : Told) (runs more all : List Task) → ToldBefore text ahead base now runs → all ≡ runs ++ more → AddsFront ahead base now all
told_front text ahead base now runs more all (inl whole) w = front_all ahead base now runs more all whole w
told_front text ahead base now runs more all (inr (is, none, some)) w = subst (λ y. AddsFront y base now all) (sym is) (front_some base now all (some_later base now runs more all some w))

module _ (ahead : Bool) (x : Fixed) (k : Kept) (effects : List CallTree) (from : At) (base : Told) (before : Option (List ℕ)) (now : Told) (written : Option (List ℕ)) (h : StopsIn ahead x k effects from base before now written) where
  effects_are : effects ≡ (h.whole ++ h.next) ++ h.rest
  effects_are = h.all ∙ sym (append_assoc h.whole h.next h.rest)

  pub stops_printed : GrowsInto before written (printed_by x k effects)
  stops_printed =
      let done = printed_by x k h.whole in
      let more = effects_longer (world_of x k) (h.whole ++ h.next) h.rest in (
        done ++ h.front,
        h.left ++ more.0,
        ap (printed_by x k) effects_are ∙ more.1 ∙ ap (λ y. y ++ more.0) h.text ∙ append_assoc done (h.front ++ h.left) more.0 ∙ ap (λ y. done ++ y) (append_assoc h.front h.left more.0) ∙ sym (append_assoc done h.front (h.left ++ more.0)),
        h.printed,
      )

  pub stops_told : AddsFront ahead base now (runs_by x k effects from)
  stops_told =
      let m = course_later x k (h.whole ++ h.next) h.rest from in
      told_front h.front ahead base now (runs_by x k (h.whole ++ h.next) from) m.more (runs_by x k effects from) h.told (ap (λ cs. runs_by x k cs from) effects_are ∙ m.runs)

-- ---- of an execution

module _ (ahead : Bool) (x : Fixed) (st : State) (effects : List CallTree) (was now : Devices) (h : IsCutEarly ahead x st effects was now) where
  pub early_printed : GrowsInto was.written now.written (execution (world_of x (kept_of st)) effects).printed
  early_printed = stops_printed ahead x (kept_of st) effects (begins (kept_of st)) was.told was.written now.told now.written h

  pub early_told : AddsFront ahead was.told now.told (tasks_of (executed x effects (kept_of st)).events)
  early_told =
      let at = course x (kept_of st) effects (begins (kept_of st)) in
      subst (AddsFront ahead was.told now.told) (sym (tasks_stay (committed (kept_of st) (execution (world_of x (kept_of st)) effects) at) at))
      (stops_told ahead x (kept_of st) effects (begins (kept_of st)) was.told was.written now.told now.written h)
