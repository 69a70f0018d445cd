-- What is run is what the meaning demands.
use Rattle.std.specs.Prelude.{◌≡◌, ◌⊎◌, List, [], ◌∷◌}
use Rattle.dx_macros.specs.Tree.{Tree, CallTree}
use Rattle.dx_tags.specs.Closed.{ValueTerm}
use Rattle.dx_machine.specs.Machine.{Task, tasks_of}
use Rattle.dx_machine.specs.Sound.{IsSound}
use Rattle.dx_machine.specs.Agree.{Demanded, Runs, Refuses, demanded}
use Rattle.dx_meaning.specs.Outcome.{Use, Decided, Val, ErrAt, Off, HaltAt, demand}
use Rattle.dx_meaning.specs.Meaning.{World, outcome}
use Rattle.dx_meaning.specs.Term.{Names, around, term_of}
use Rattle.dx_performing.specs.Execution.{execution}
use Rattle.dx_performing.specs.Kept.{Kept}
use Rattle.dx_performing.specs.Course.{Fixed, around_of, world_of, begins, executed}
use Rattle.dx_performing.specs.Meant.{LinksRight}
use Rattle.dx_performing.specs.SoundEntries.{AreLawfulCalls}
use Rattle.dx_demanded.specs.Found.{AreLinks}

-- a use of the same module, with the same inputs
abbrev pub IsUse : Use → Task → Type 0
IsUse u task = (u.called ≡ task.run.0) × (u.inputs ≡ task.run.1)

-- one of these
abbrev pub IsUsed : List Use → Task → Type 0
IsUsed [] task = ⊥
IsUsed (u ∷ us) task = IsUse u task ⊎ IsUsed us task

abbrev pub AreUsed : List Use → List Task → Type 0
AreUsed us [] = Unit {0}
AreUsed us (t ∷ ts) = IsUsed us t × AreUsed us ts

abbrev pub tasks_in : Demanded → List Task
tasks_in (Runs ts) = ts
tasks_in (Refuses ts c code) = ts

-- where there is a value or an error, each task is one of these uses
abbrev pub Uses : {A : Type 0} → Decided A → List Use → Demanded → Type 0
Uses (Val v) us d = AreUsed us (tasks_in d)
Uses (ErrAt site code) us d = AreUsed us (tasks_in d)
Uses Off us d = Unit {0}
Uses (HaltAt site code) us d = Unit {0}

-- each run that a tree's term needs where nothing is kept is one of the uses that the tree demands
abbrev pub TermsUseDemand : Type 0
TermsUseDemand = (w : World) (n : Names) (links : List ValueTerm) → AreLinks w n links → (t : Tree) → Uses (outcome w t).decided (demand (outcome w t)) (demanded (around w n) links (term_of w n t))

-- each run of an execution is one of the uses that it demands
abbrev pub RunsAreDemanded : Type 0
RunsAreDemanded = (x : Fixed) (k : Kept) (effects : List CallTree) → AreLawfulCalls effects → LinksRight (around_of x k) k.links → IsSound (around_of x k) x.budget (begins k).state → AreUsed (execution (world_of x k) effects).demanded (tasks_of (executed x effects k).events)
