-- What looking at the arguments of an effect and getting them comes to is what the meaning decides.
use Rattle.std.specs.Prelude.{◌≡◌, List, Ok}
use Rattle.dx_macros.specs.Site.{Step}
use Rattle.dx_macros.specs.Tree.{Trees}
use Rattle.dx_objects.specs.Runs.{Values}
use Rattle.dx_tags.specs.Closed.{ValueTerms}
use Rattle.dx_links.specs.Denotes.{Around, all_denote}
use Rattle.dx_machine.specs.Machine.{FormedCall, Frame, State, Got, Went, Stopped, get, get_all}
use Rattle.dx_machine.specs.Sound.{HaveAttributes, IsSound}
use Rattle.dx_meaning.specs.Outcome.{Decided, Val, ErrAt, Off, HaltAt}
use Rattle.dx_meaning.specs.Meaning.{outcomes, together}
use Rattle.dx_meaning.specs.Met.{Called, each_met, all_met}
use Rattle.dx_meaning.specs.More.{More}
use Rattle.dx_meaning.specs.Scan.{Sight, IsOff, Stops, Needs, Scanned, Forms, Ends, scan_each, all_scanned}
use Rattle.dx_performing.specs.Kept.{Kept}
use Rattle.dx_performing.specs.Course.{Fixed, around_of, world_of, sight_of, frame_with}
use Rattle.dx_performing.specs.Meant.{LinksRight}
use Rattle.dx_demanded.specs.Found.{StandsAt}
use Rattle.dx_meaning.specs.Halted.{halted_all}

-- the arguments have the values that their terms denote, or the error is that of the first call with the refused term
abbrev pub ArgumentsEnd : Around → Decided Values → List Called → ValueTerms → Got → Type 0
ArgumentsEnd a d calls ts (Went s) = (vs : Values) × (d ≡ Val vs) × (all_denote a ts ≡ Ok vs)
ArgumentsEnd a d calls ts (Stopped c code s) = (site : List Step) × (d ≡ ErrAt site code) × StandsAt calls c site

-- looking goes on, or the halt is that of the first call with the refused term
abbrev pub SelectorEnds : Decided Values → List Called → Got → Type 0
SelectorEnds d calls (Went s) = Unit {0}
SelectorEnds d calls (Stopped c code s) = (site : List Step) × (d ≡ HaltAt site code) × StandsAt calls c site

-- by what is told so far
abbrev pub EndsAsMeant : Around → Frame → Decided Values → (met halted : List Called) → State → Scanned ValueTerms → Type 0
EndsAsMeant a k d met halted s (Forms ts) = ArgumentsEnd a d met ts (get_all k ts s)
EndsAsMeant a k d met halted s (Ends IsOff) = d ≡ Off
EndsAsMeant a k d met halted s (Ends (Stops place code)) = d ≡ HaltAt place code
EndsAsMeant a k d met halted s (Ends (Needs place u)) = SelectorEnds d halted (get k u s)

-- in any sound state
abbrev pub EffectsEndAsMeant : Type 0
EffectsEndAsMeant = (x : Fixed) (k : Kept) (told : Sight) (formed : List FormedCall) (args : Trees) (s : State) → LinksRight (around_of x k) k.links → More told (sight_of x k) → HaveAttributes formed → IsSound (around_of x k) x.budget s →
    EndsAsMeant (around_of x k) (frame_with x k formed) (together (outcomes (world_of x k) args)).decided (all_met (each_met told args)) (halted_all told args) s (all_scanned (scan_each told args))
