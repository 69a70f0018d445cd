-- The call that is refused in a selector is found by its term.
use Rattle.std.specs.Prelude.{◌≡◌, List}
use Rattle.dx_base.specs.declared.code.Code.{Code}
use Rattle.dx_macros.specs.Site.{Step}
use Rattle.dx_macros.specs.Tree.{Tree, Trees}
use Rattle.dx_objects.specs.Runs.{Values}
use Rattle.dx_tags.specs.Closed.{ValueTerm, CallTerm}
use Rattle.dx_links.specs.Denotes.{Around}
use Rattle.dx_machine.specs.Machine.{FormedCall, State, Got, Went, Stopped, get}
use Rattle.dx_machine.specs.Sound.{HaveAttributes, IsSound}
use Rattle.dx_machine.specs.Agree.{demanded}
use Rattle.dx_meaning.specs.Outcome.{Decided, Val, ErrAt, Off, HaltAt}
use Rattle.dx_meaning.specs.Meaning.{World, outcome, outcomes, together}
use Rattle.dx_meaning.specs.More.{More}
use Rattle.dx_meaning.specs.Scan.{Sight, IsOff, Stops, Needs, Scanned, Forms, Ends, scan, scan_each, all_scanned}
use Rattle.dx_meaning.specs.Met.{Called}
use Rattle.dx_meaning.specs.Halted.{halted_met, halted_all}
use Rattle.dx_meaning.specs.Term.{Names, around}
use Rattle.dx_performing.specs.Kept.{Kept}
use Rattle.dx_performing.specs.Course.{Fixed, around_of, world_of, sight_of, frame_with}
use Rattle.dx_performing.specs.Meant.{IsFull, LinksRight}
use Rattle.dx_demanded.specs.Found.{AreLinks, StandsAt, RefusesAt}

-- ---- it is found among them

-- a selector that isn't told is refused with the code, and the first call with the refused term stands at the site
abbrev pub SelectorRefuses : {T : Type 0} → Around → List ValueTerm → List Called → List Step → Code → Scanned T → Type 0
SelectorRefuses a links calls site code (Forms t) = Unit {0}
SelectorRefuses a links calls site code (Ends IsOff) = Unit {0}
SelectorRefuses a links calls site code (Ends (Stops place c)) = Unit {0}
SelectorRefuses a links calls site code (Ends (Needs place u)) = RefusesAt a calls site code (demanded a links u)

abbrev pub HaltFinds : {A T : Type 0} → Around → List ValueTerm → Decided A → List Called → Scanned T → Type 0
HaltFinds a links (HaltAt site code) calls x = SelectorRefuses a links calls site code x
HaltFinds a links (Val v) calls x = Unit {0}
HaltFinds a links (ErrAt site code) calls x = Unit {0}
HaltFinds a links Off calls x = Unit {0}

abbrev pub TreeHalts : World → Names → Sight → List ValueTerm → Tree → Type 0
TreeHalts w n s links t = HaltFinds (around w n) links (outcome w t).decided (halted_met s t) (scan s t)

abbrev pub ArgumentsHalt : World → Names → Sight → List ValueTerm → Trees → Type 0
ArgumentsHalt w n s links args = HaltFinds (around w n) links (together (outcomes w args)).decided (halted_all s args) (all_scanned (scan_each s args))

abbrev pub HaltsAreFound : Type 0
HaltsAreFound = (w : World) (n : Names) (s : Sight) (links : List ValueTerm) → AreLinks w n links → IsFull w n s → ((t : Tree) → TreeHalts w n s links t) × ((args : Trees) → ArgumentsHalt w n s links args)

-- ---- getting with what is kept

-- the outcome ends with the code, at the site of the first call with the term
abbrev pub EndsAt : {A : Type 0} → List Called → CallTerm → Code → Decided A → Type 0
EndsAt calls c code (HaltAt site code') = (code' ≡ code) × StandsAt calls c site
EndsAt calls c code (Val v) = ⊥
EndsAt calls c code (ErrAt site code') = ⊥
EndsAt calls c code Off = ⊥

-- where it is stopped
abbrev pub HaltedGot : Decided Values → List Called → Got → Type 0
HaltedGot d calls (Went s) = Unit {0}
HaltedGot d calls (Stopped c code s) = EndsAt calls c code d

-- a selector of an effect that isn't told yet, got in any sound state
abbrev pub HaltedGettingsFind : Type 0
HaltedGettingsFind = (x : Fixed) (k : Kept) (told : Sight) (formed : List FormedCall) (args : Trees) (place : List Step) (u : ValueTerm) (s : State) → LinksRight (around_of x k) k.links → More told (sight_of x k) → HaveAttributes formed → IsSound (around_of x k) x.budget s → all_scanned (scan_each told args) ≡ Ends (Needs place u) →
    HaltedGot (together (outcomes (world_of x k) args)).decided (halted_all told args) (get (frame_with x k formed) u s)
