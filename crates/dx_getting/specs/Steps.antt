-- What the steps of a getting leave.
use Rattle.std.specs.Prelude.{◌≡◌, ◌⊎◌, ℕ, List, [], ◌∷◌, ◌++◌, map, Bool, true, false, if◌then◌else◌, Option, Some, None, Result, Ok, Err, nat_eq}
use Rattle.std.specs.Map.{lookup}
use Rattle.std.specs.declared.rc.Rc.{Rc}
use Rattle.std.specs.declared.alloc.Global.{Global}
use Rattle.dx_base.specs.Object.{Tree, results_size}
use Rattle.dx_base.specs.declared.code.Code.{Code}
use Rattle.dx_ast.specs.Value.{value_of as constant_value}
use Rattle.dx_io.specs.Devices.{Grows}
use Rattle.dx_objects.specs.Runs.{Values, Answer}
use Rattle.dx_objects.specs.Values.{value_of, value_at}
use Rattle.dx_tags.specs.declared.term.Term.{Term}
use Rattle.dx_tags.specs.declared.term.ValueTag.{ValueTag}
use Rattle.dx_tags.specs.contracts.term.ValueTagPartialEq.TheImpl as tags
use Rattle.dx_tags.specs.Closed.{Head, ConstantHead, HeldHead, CallHead, FileHead}
use Rattle.dx_cache.specs.declared.entry.Entry.{Entry}
use Rattle.dx_cache.specs.Cached as kept
use Rattle.dx_cache.specs.Cached.{IsPartOf}
use Rattle.dx_machine.specs.Machine.{Task, runs_in, reads_in}
use Rattle.dx_getting.specs.declared.work.Work.{Work}
use Rattle.dx_getting.specs.declared.event.Event.{Event as ShownEvent}
use Rattle.dx_getting.specs.declared.event.Event.TheVariants as shown
use Rattle.dx_getting.specs.declared.fail.GetFail.{GetFail}
use Rattle.dx_getting.specs.declared.fail.GetFail.TheVariants.{Refused, ReadFault, Memory}
use Rattle.dx_getting.specs.declared.value.Given.{Given}
use Rattle.dx_getting.specs.declared.value.Given.TheVariants.{Ready, ToGet}
use Rattle.dx_getting.specs.Told.{Told, TellsRuns}
use Rattle.dx_getting.specs.Stands.{Setting, IsCall}

-- ---- entries

-- each entry has the tag of a call term
abbrev pub AreCalls : List Term → List Entry → Type 0
AreCalls terms [] = Unit {0}
AreCalls terms (x ∷ xs) = IsCall terms x.tag × AreCalls terms xs

pub record IsSame (old new : Work) : Type 0 where
  pub entries : new.cache.entries ≡ old.cache.entries
  pub known : new.known.calls ≡ old.known.calls
  pub events : new.events.items ≡ old.events.items

-- there was an entry, and it is a hit
pub record IsHit (tag : ℕ) (site : List ℕ) (old new : Work) : Type 0 where
  pub entry : Entry
  pub found : kept.find tag old.cache.entries ≡ Some entry
  pub entries : new.cache.entries ≡ kept.moved tag old.cache.entries
  pub known : new.known.calls ≡ old.known.calls ++ (tag, entry.outs) ∷ []
  pub events : new.events.items ≡ old.events.items ++ shown.Hit site ∷ []

abbrev pub Hits : {A E : Type 0} → ℕ → List ℕ → Result A E → Work → Work → Type 0
Hits tag site (Ok _) old new = IsHit tag site old new
Hits tag site (Err _) old new = IsSame old new

-- the entries and the events after results are kept, from these before
pub record AreKept (tag : ℕ) (site : List ℕ) (attribute budget : ℕ) (outs : Values) (es : List Entry) (told : List ShownEvent) (new : Work) : Type 0 where
  pub entries : new.cache.entries ≡ kept.left_for site attribute (results_size outs) budget es ++ (if kept.stays attribute (results_size outs) budget then record { tag = tag; site = site; attribute = attribute; size = results_size outs; outs = outs } ∷ [] else [])
  pub events : new.events.items ≡ (told ++ map (λ (x : Entry). shown.Drop x.site) (kept.dropped_for site attribute (results_size outs) budget es)) ++ (if kept.stays attribute (results_size outs) budget then shown.Keep site (results_size outs) ∷ [] else [])

abbrev pub Keeps : {A E : Type 0} → ℕ → List ℕ → ℕ → Values → Result A E → Work → Work → Type 0
Keeps tag site attribute outs (Ok _) old new = AreKept tag site attribute old.cache.budget outs old.cache.entries old.events.items new
Keeps tag site attribute outs (Err _) old new = IsPartOf new.cache.entries old.cache.entries

-- some of the entries are left, and there may be one of this tag behind them
abbrev pub IsOneMore : ℕ → List Entry → List Entry → Type 0
IsOneMore tag left new = (new ≡ left) ⊎ ((x : Entry) × (x.tag ≡ tag) × (new ≡ left ++ x ∷ []))

pub record Stores (tag : ℕ) (old new : List Entry) : Type 0 where
  pub left : List Entry
  pub part : IsPartOf left old
  pub more : IsOneMore tag left new

-- the known calls are as before, or there is one of this tag behind them
abbrev pub Learns : ℕ → List (ℕ × Values) → List (ℕ × Values) → Type 0
Learns tag old new = (new ≡ old) ⊎ ((outs : Values) × (new ≡ old ++ (tag, outs) ∷ []))

-- ---- a run

-- how far a run was told that was cut short
pub data ToldOf (task : Task) (before now : Told) : Type 0 where
  NotBegun : TellsRuns before.done now.done [] → Grows before.asked now.asked [] → ToldOf task before now
  WasRead : TellsRuns before.done now.done [] → Grows before.asked now.asked (reads_in (task ∷ [])) → ToldOf task before now
  WasRun : TellsRuns before.done now.done (task.run ∷ []) → Grows before.asked now.asked (reads_in (task ∷ [])) → ToldOf task before now

pub record IsTold (task : Task) (before now : Told) : Type 0 where
  pub done : TellsRuns before.done now.done (task.run ∷ [])
  pub asked : Grows before.asked now.asked (reads_in (task ∷ []))

pub record IsRun (tag : ℕ) (site : List ℕ) (attribute : ℕ) (task : Task) (a : Answer) (old new : Work) (before now : Told) : Type 0 where
  pub outs : Values
  pub gives : a ≡ Ok outs
  pub known : new.known.calls ≡ old.known.calls ++ (tag, outs) ∷ []
  pub keeps : AreKept tag site attribute old.cache.budget outs old.cache.entries (old.events.items ++ shown.Run site ∷ []) new
  pub told : IsTold task before now

pub record IsRefused (tag : ℕ) (site : List ℕ) (task : Task) (a : Answer) (t : ℕ) (code : Code) (old new : Work) (before now : Told) : Type 0 where
  pub is_tag : t ≡ tag
  pub refuses : a ≡ Err code
  pub entries : new.cache.entries ≡ old.cache.entries
  pub known : new.known.calls ≡ old.known.calls
  pub events : new.events.items ≡ old.events.items ++ shown.Run site ∷ []
  pub told : IsTold task before now

-- the known calls are as before, or one more
abbrev pub KnownMore : ℕ → Answer → List (ℕ × Values) → List (ℕ × Values) → Type 0
KnownMore tag a old new = (new ≡ old) ⊎ ((outs : Values) × (a ≡ Ok outs) × (new ≡ old ++ (tag, outs) ∷ []))

pub record IsRunCut (tag : ℕ) (task : Task) (a : Answer) (old new : Work) (before now : Told) : Type 0 where
  pub entries : IsPartOf new.cache.entries old.cache.entries
  pub known : KnownMore tag a old.known.calls new.known.calls
  pub told : ToldOf task before now

abbrev pub RunFails : ℕ → List ℕ → Task → Answer → GetFail → Work → Work → Told → Told → Type 0
RunFails tag site task a (Refused t code) old new before now = IsRefused tag site task a t code old new before now
RunFails tag site task a ReadFault old new before now = IsRunCut tag task a old new before now
RunFails tag site task a Memory old new before now = IsRunCut tag task a old new before now

abbrev pub Runs : {A : Type 0} → ℕ → List ℕ → ℕ → Task → Answer → Result A GetFail → Work → Work → Told → Told → Type 0
Runs tag site attribute task a (Ok _) old new before now = IsRun tag site attribute task a old new before now
Runs tag site attribute task a (Err fail) old new before now = RunFails tag site task a fail old new before now

-- what the files are asked for a run: its read, and where memory runs out perhaps none
abbrev pub AsksFor : {A : Type 0} → Option (List (List ℕ)) → Option (List (List ℕ)) → List (List ℕ) → Result A GetFail → Type 0
AsksFor old new reads (Ok _) = Grows old new reads
AsksFor old new reads (Err (Refused t code)) = ⊥
AsksFor old new reads (Err ReadFault) = Grows old new reads
AsksFor old new reads (Err Memory) = Grows old new [] ⊎ Grows old new reads

-- ---- a value that needs no get

abbrev pub find_link : ValueTag → List (ValueTag × Tree) → Option Tree
find_link t ls = lookup (tags.ghosts.eq t) ls

abbrev pub GivenBy : Setting → ValueTag → Head → Given → Type 0
GivenBy e t (ConstantHead c) (Ready v) = value_of v ≡ constant_value c
GivenBy e t (HeldHead n) (Ready v) = value_of v ≡ value_at e.held n
GivenBy e t (FileHead b) (Ready v) = value_of v ≡ None
GivenBy e t (CallHead c) (Ready v) = (o : Tree) × (find_link t e.links ≡ Some o) × (value_of v ≡ Some o)
GivenBy e t (CallHead c) ToGet = find_link t e.links ≡ None
GivenBy e t (ConstantHead c) ToGet = ⊥
GivenBy e t (HeldHead n) ToGet = ⊥
GivenBy e t (FileHead b) ToGet = ⊥
