-- A getting that is refused ends with the run that the data ends with.
use Rattle.std.specs.Prelude.{◌≡◌, List, [], ◌∷◌, ◌++◌}
use Rattle.dx_base.specs.declared.code.Code.{Code}
use Rattle.dx_macros.specs.Site.{Step}
use Rattle.dx_macros.specs.Tree.{Tree, Trees}
use Rattle.dx_objects.specs.Runs.{Values, Ran}
use Rattle.dx_tags.specs.Closed.{ValueTerm, ValueTerms}
use Rattle.dx_machine.specs.Machine.{Task, FormedCall, State, Got, Went, Stopped, tasks_of, runs_in, get, get_all}
use Rattle.dx_machine.specs.Sound.{HaveAttributes, IsSound}
use Rattle.dx_meaning.specs.Outcome.{Use, Decided, Val, ErrAt, Off, HaltAt}
use Rattle.dx_meaning.specs.Meaning.{outcome, outcomes, together}
use Rattle.dx_meaning.specs.More.{More}
use Rattle.dx_meaning.specs.Scan.{Sight, Needs, Forms, Ends, scan, scan_each, all_scanned}
use Rattle.dx_performing.specs.Kept.{Kept}
use Rattle.dx_performing.specs.Course.{Fixed, around_of, world_of, sight_of, frame_with}
use Rattle.dx_performing.specs.Meant.{LinksRight}
use Rattle.dx_demanded.specs.Found.{Goes}

abbrev pub IsLast : {A : Type 0} → A → List A → Type 0
IsLast {A} x xs = (before : List A) × (xs ≡ before ++ x ∷ [])

-- something was run from one state to another, and this last
abbrev pub RanLast : State → Ran → State → Type 0
RanLast s r s' = (more : List Task) × (tasks_of s'.events ≡ tasks_of s.events ++ more) × IsLast r (runs_in more)

-- the last run is that of the last of these uses, which stands at the site
abbrev pub EndsWithLast : List Step → List Use → State → State → Type 0
EndsWithLast site us s s' = (u : Use) × IsLast u us × (u.site ≡ site) × RanLast s (u.called, u.inputs) s'

-- it is stopped with the code, and ends so
abbrev pub StopsLast : List Step → Code → List Use → State → Got → Type 0
StopsLast site code us s (Went s') = ⊥
StopsLast site code us s (Stopped c code' s') = (code' ≡ code) × EndsWithLast site us s s'

-- it runs to its end where there is a value, and is stopped so where there is an error
abbrev pub GotLast : {A : Type 0} → Decided A → List Use → State → Got → Type 0
GotLast (Val v) us s g = Goes g
GotLast (ErrAt site code) us s g = StopsLast site code us s g
GotLast Off us s g = ⊥
GotLast (HaltAt site code) us s g = ⊥

-- the term of a tree, once it is formed by what is told, got in any sound state
abbrev pub TermsStopLast : Type 0
TermsStopLast = (x : Fixed) (k : Kept) (told : Sight) (formed : List FormedCall) (t : Tree) (u : ValueTerm) (s : State) → LinksRight (around_of x k) k.links → More told (sight_of x k) → HaveAttributes formed → IsSound (around_of x k) x.budget s → scan told t ≡ Forms u →
    GotLast (outcome (world_of x k) t).decided (outcome (world_of x k) t).data_uses s (get (frame_with x k formed) u s)

-- and those of all arguments of an effect together
abbrev pub ArgumentsStopLast : Type 0
ArgumentsStopLast = (x : Fixed) (k : Kept) (told : Sight) (formed : List FormedCall) (args : Trees) (ts : ValueTerms) (s : State) → LinksRight (around_of x k) k.links → More told (sight_of x k) → HaveAttributes formed → IsSound (around_of x k) x.budget s → all_scanned (scan_each told args) ≡ Forms ts →
    GotLast (together (outcomes (world_of x k) args)).decided (together (outcomes (world_of x k) args)).data_uses s (get_all (frame_with x k formed) ts s)

-- ---- a selector

-- it halts with the code, and ends with the last use of control
abbrev pub HaltsWithLast : Decided Values → Code → List Use → State → State → Type 0
HaltsWithLast (HaltAt site code') code us s s' = (code' ≡ code) × EndsWithLast site us s s'
HaltsWithLast (Val vs) code us s s' = ⊥
HaltsWithLast (ErrAt site code') code us s s' = ⊥
HaltsWithLast Off code us s s' = ⊥

-- where it is stopped
abbrev pub HaltsLast : Decided Values → List Use → State → Got → Type 0
HaltsLast d us s (Went s') = Unit {0}
HaltsLast d us s (Stopped c code s') = HaltsWithLast d code us s s'

-- a selector of an effect that isn't told yet, got in any sound state
abbrev pub SelectorsStopLast : Type 0
SelectorsStopLast = (x : Fixed) (k : Kept) (told : Sight) (formed : List FormedCall) (args : Trees) (place : List Step) (u : ValueTerm) (s : State) → LinksRight (around_of x k) k.links → More told (sight_of x k) → HaveAttributes formed → IsSound (around_of x k) x.budget s → all_scanned (scan_each told args) ≡ Ends (Needs place u) →
    HaltsLast (together (outcomes (world_of x k) args)).decided (together (outcomes (world_of x k) args)).control_uses s (get (frame_with x k formed) u s)
