-- A sound state: what is kept is right.
use Rattle.std.specs.Prelude.{◌≡◌, ◌⊎◌, ◌≤◌, ℕ, List, [], ◌∷◌, Bool, true, false, Result, Ok, Err}
use Rattle.dx_base.specs.Object.{Tree, results_size}
use Rattle.dx_base.specs.declared.code.Code.{Code}
use Rattle.dx_objects.specs.Runs.{Values}
use Rattle.dx_tags.specs.Closed.{ValueTerm, CallTerm, ValueTerms}
use Rattle.dx_links.specs.Denotes.{Around, denotes, results_of, all_denote}
use Rattle.dx_links.specs.Getting.{has_value}
use Rattle.dx_machine.specs.Machine.{Cached, Event, FormedCall, Frame, State, Got, Went, Stopped, Task, has_entry, total, site_of, attribute_of, hit, store, entry_for, with_known, with_event, emptied, get, get_call, get_all, state_at}

-- an entry has the results that its call denotes, their size, and attribute 1 or 2
pub record IsRight (a : Around) (e : Cached) : Type 0 where
  pub results : results_of a e.call ≡ Ok e.results
  pub size : e.size ≡ results_size e.results
  pub attribute : (e.attribute ≡ 1) ⊎ (e.attribute ≡ 2)

-- each entry is so, and the terms differ
abbrev pub AreRight : Around → List Cached → Type 0
AreRight a [] = Unit {0}
AreRight a (e ∷ es) = IsRight a e × (has_entry es e.call ≡ false) × AreRight a es

-- a call term denotes results
abbrev pub HasResults : Around → CallTerm → Type 0
HasResults a c = (values : Values) × (results_of a c ≡ Ok values)

abbrev pub HaveResults : Around → List CallTerm → Type 0
HaveResults a [] = Unit {0}
HaveResults a (c ∷ cs) = HasResults a c × HaveResults a cs

-- the entries are right, their stated sizes don't exceed the budget, and each known call denotes results
pub record IsSound (a : Around) (budget : ℕ) (s : State) : Type 0 where
  pub entries : AreRight a s.entries
  pub bounded : total s.entries ≤ budget
  pub known : HaveResults a s.known

-- each call formed has an attribute of at most 2
abbrev pub HaveAttributes : List FormedCall → Type 0
HaveAttributes [] = Unit {0}
HaveAttributes (f ∷ fs) = (f.attribute ≤ 2) × HaveAttributes fs

-- ---- what keeps a state sound

-- an event that only is told, as a run
abbrev pub TellingKeeps : Type 0
TellingKeeps = (a : Around) (budget : ℕ) (e : Event) (s : State) → IsSound a budget s → IsSound a budget (with_event e s)

-- a hit
abbrev pub HitKeeps : Type 0
HitKeeps = (k : Frame) (c : CallTerm) (s : State) → HasResults k.around c → IsSound k.around k.budget s → IsSound k.around k.budget (hit k c s)

-- the results of a call that no entry has are known and stored: what is dropped goes, and they are kept, where that is so
abbrev pub StoringKeeps : Type 0
StoringKeeps = (k : Frame) (c : CallTerm) (results : Values) (s : State) → HaveAttributes k.formed → results_of k.around c ≡ Ok results → has_entry s.entries c ≡ false → IsSound k.around k.budget s → IsSound k.around k.budget (store k.budget (entry_for k c results) (with_known c s))

-- an emptying
abbrev pub EmptyingKeeps : Type 0
EmptyingKeeps = (a : Around) (budget : ℕ) (s : State) → IsSound a budget (emptied s)

-- a getting, however it ends
abbrev pub GettingKeeps : Type 0
GettingKeeps = (k : Frame) (t : ValueTerm) (s : State) → HaveAttributes k.formed → IsSound k.around k.budget s → IsSound k.around k.budget (state_at (get k t s))

abbrev pub GettingAllKeeps : Type 0
GettingAllKeeps = (k : Frame) (ts : ValueTerms) (s : State) → HaveAttributes k.formed → IsSound k.around k.budget s → IsSound k.around k.budget (state_at (get_all k ts s))
