-- Getting with entries and known calls has to do with getting without: it ends the same way, and runs some of the same.
use Rattle.std.specs.Prelude.{◌≡◌, List, [], ◌∷◌, ◌++◌, Bool, true, false, Result, Ok, Err}
use Rattle.dx_base.specs.declared.function.Module.{Module}
use Rattle.dx_base.specs.declared.code.Code.{Code}
use Rattle.dx_objects.specs.Runs.{Values, Answer}
use Rattle.dx_tags.specs.Closed.{ValueTerm, ConstantTerm, HeldTerm, ResultTerm, FileTerm, CallTerm, CallOf, ValueTerms, NoTerm, AndTerm}
use Rattle.dx_links.specs.Denotes.{Around, own_file, file_of, all_denote}
use Rattle.dx_links.specs.Getting.{has_value}
use Rattle.dx_links.specs.Getting as plain
use Rattle.dx_cache.specs.Cached.{IsPartOf}
use Rattle.dx_machine.specs.Machine.{Task, task_of, Frame, State, Got, Went, Stopped, tasks_of, get, get_all}
use Rattle.dx_machine.specs.Sound.{HaveResults, HaveAttributes, IsSound}

-- the runs that a term needs where nothing is kept and nothing is known, each call each time it is met, in order; where one
-- refuses, it is the last
pub data Demanded : Type 0 where
  Runs : List Task → Demanded
  Refuses : List Task → CallTerm → Code → Demanded

abbrev pub more_of : List Task → Demanded → Demanded
more_of before (Runs ts) = Runs (before ++ ts)
more_of before (Refuses ts c code) = Refuses (before ++ ts) c code

abbrev pub then_of : Demanded → Demanded → Demanded
then_of (Runs ts) rest = more_of ts rest
then_of (Refuses ts c code) rest = Refuses ts c code

abbrev pub answered : CallTerm → Task → Answer → Demanded
answered c task (Ok results) = Runs (task ∷ [])
answered c task (Err code) = Refuses (task ∷ []) c code

-- a call is run on the values of its arguments; one whose arguments have none refuses without a run
abbrev pub run_demanded : Around → Module → ValueTerms → Answer → Demanded
run_demanded a m ts (Ok values) = answered (CallOf m ts) (task_of m ts values) (a.answer m values (file_of a m values (own_file ts)))
run_demanded a m ts (Err code) = Refuses [] (CallOf m ts) code

abbrev pub unless : Bool → Demanded → Demanded
unless true d = Runs []
unless false d = d

abbrev mutual
  pub demanded : Around → (links : List ValueTerm) → ValueTerm → Demanded
  demanded a links (ConstantTerm c) = Runs []
  demanded a links (HeldTerm n) = Runs []
  demanded a links (FileTerm b) = Runs []
  demanded a links (ResultTerm result c) = unless (has_value links (ResultTerm result c)) (call_demanded a links c)

  pub call_demanded : Around → (links : List ValueTerm) → CallTerm → Demanded
  call_demanded a links (CallOf m ts) = then_of (all_demanded a links ts) (run_demanded a m ts (all_denote a ts))

  pub all_demanded : Around → (links : List ValueTerm) → ValueTerms → Demanded
  all_demanded a links NoTerm = Runs []
  all_demanded a links (AndTerm t ts) = then_of (demanded a links t) (all_demanded a links ts)

-- the machine went well where no call refuses, and ran some of these, in order; else the same call refused with the same
-- code
abbrev pub Agrees : State → Demanded → Got → Type 0
Agrees s (Runs ts) (Went s') = (more : List Task) × (tasks_of s'.events ≡ tasks_of s.events ++ more) × IsPartOf more ts
Agrees s (Refuses ts c code) (Stopped d code' s') = (d ≡ c) × (code' ≡ code) × ((more : List Task) × (tasks_of s'.events ≡ tasks_of s.events ++ more) × IsPartOf more ts)
Agrees s (Runs ts) (Stopped d code s') = ⊥
Agrees s (Refuses ts c code) (Went s') = ⊥

-- the same of the getting without entries
abbrev pub EndsSo : Demanded → plain.Got → Type 0
EndsSo (Runs ts) (plain.Went ran) = Unit {0}
EndsSo (Refuses ts c code) (plain.Stopped ran d code') = (d ≡ c) × (code' ≡ code)
EndsSo (Runs ts) (plain.Stopped ran d code) = ⊥
EndsSo (Refuses ts c code) (plain.Went ran) = ⊥

-- with any sound state, whatever is kept and known
abbrev pub GettingAgrees : Type 0
GettingAgrees = (k : Frame) (t : ValueTerm) (s : State) → HaveAttributes k.formed → IsSound k.around k.budget s → Agrees s (demanded k.around k.links t) (get k t s)

abbrev pub PlainAgrees : Type 0
PlainAgrees = (a : Around) (links : List ValueTerm) (t : ValueTerm) (ran : List CallTerm) → HaveResults a ran → EndsSo (demanded a links t) (plain.get a links t ran)
