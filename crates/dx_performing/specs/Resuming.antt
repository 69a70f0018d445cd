-- Looking may be broken off at each selector, and begin anew once more values are told.
use Rattle.std.specs.Prelude.{◌≡◌, List, [], ◌∷◌, ◌++◌, Some, Bool, true, ◌||◌}
use Rattle.dx_macros.specs.Tree.{Tree, Trees}
use Rattle.dx_tags.specs.Closed.{ValueTerm, ConstantTerm, HeldTerm, ResultTerm, FileTerm}
use Rattle.dx_links.specs.Getting.{has_value, has_call}
use Rattle.dx_machine.specs.Machine.{Frame, State, Went, and_then, get, get_all}
use Rattle.dx_meaning.specs.Outcome.{Value}
use Rattle.dx_meaning.specs.Scan.{Sight, IsOff, Stops, Needs, Scanned, Forms, Ends, scan, scan_each, all_scanned}
use Rattle.dx_meaning.specs.More.{More}
use Rattle.dx_performing.specs.Selectors.{selectors, selectors_all}
use Rattle.dx_performing.specs.Course.{as_terms}

-- ---- as more is told

-- each selector has a value that is told
abbrev pub AreTold : Sight → List ValueTerm → Type 0
AreTold s [] = Unit {0}
AreTold s (t ∷ ts) = ((v : Value) × (s.told t ≡ Some v)) × AreTold s ts

-- looking ended at a selector that isn't told, from which other looking goes on
pub record IsBegun (s : Sight) (t : ValueTerm) (ts ts' : List ValueTerm) : Type 0 where
  pub before : List ValueTerm
  pub after : List ValueTerm
  pub told : AreTold s before
  pub ends : ts ≡ before ++ t ∷ []
  pub more : ts' ≡ before ++ t ∷ after

-- what rests on no value that isn't told meets the same selectors, and else it is begun so
abbrev pub GoesOn : {A : Type 0} → Sight → Scanned A → List ValueTerm → List ValueTerm → Type 0
GoesOn s (Forms x) ts ts' = (ts' ≡ ts) × AreTold s ts
GoesOn s (Ends IsOff) ts ts' = (ts' ≡ ts) × AreTold s ts
GoesOn s (Ends (Stops site code)) ts ts' = (ts' ≡ ts) × AreTold s ts
GoesOn s (Ends (Needs site t)) ts ts' = IsBegun s t ts ts'

abbrev pub SelectorsGoOn : Type 0
SelectorsGoOn = (s s' : Sight) → More s s' → (t : Tree) → GoesOn s (scan s t) (selectors s t) (selectors s' t)

abbrev pub AllSelectorsGoOn : Type 0
AllSelectorsGoOn = (s s' : Sight) → More s s' → (ts : Trees) → GoesOn s (all_scanned (scan_each s ts)) (selectors_all s ts) (selectors_all s' ts)

-- ---- the machine's getting of selectors

-- to get it does nothing
abbrev pub is_ready : Frame → State → ValueTerm → Bool
is_ready k s (ConstantTerm c) = true
is_ready k s (HeldTerm n) = true
is_ready k s (FileTerm bytes) = true
is_ready k s (ResultTerm result c) = has_value k.links (ResultTerm result c) || has_call s.known c

-- what is told was got
abbrev pub ToldIsReady : Frame → State → Sight → Type 0
ToldIsReady k s sight = (t : ValueTerm) (v : Value) → sight.told t ≡ Some v → is_ready k s t ≡ true

-- what looking by all values gets, and what it comes to, by what is told so far: nothing is left to get, or the selector that is
-- needed is next
abbrev pub Resumes : {A : Type 0} → Frame → State → Scanned A → List ValueTerm → Type 0
Resumes k s (Forms x) ts = get_all k (as_terms ts) s ≡ Went s
Resumes k s (Ends IsOff) ts = get_all k (as_terms ts) s ≡ Went s
Resumes k s (Ends (Stops site code)) ts = get_all k (as_terms ts) s ≡ Went s
Resumes k s (Ends (Needs site t)) ts =
    ((rest : List ValueTerm) × (get_all k (as_terms ts) s ≡ and_then (get k t s) (get_all k (as_terms rest))))
    × ((s1 : State) → get k t s ≡ Went s1 → get_all k (as_terms ts) s ≡ get_all k (as_terms ts) s1)

abbrev pub LookingResumes : Type 0
LookingResumes = (k : Frame) (s : State) (told full : Sight) → More told full → ToldIsReady k s told → (t : Tree) → Resumes k s (scan told t) (selectors full t)

-- a getting that went well leaves its term ready, and all that was
abbrev pub ReadyStays : Type 0
ReadyStays = (k : Frame) (t : ValueTerm) (s s1 : State) → get k t s ≡ Went s1 → (is_ready k s1 t ≡ true) × ((u : ValueTerm) → is_ready k s u ≡ true → is_ready k s1 u ≡ true)
