-- The cache machine: getting, storing, dropping and emptying, over closed terms and plain lists.
use Rattle.std.specs.Prelude.{ℕ, ◌+◌, List, [], ◌∷◌, ◌++◌, map, filter, Bool, true, false, not, ◌||◌, ◌==◌, nat_le, if◌then◌else◌, bytes_eq, Option, Some, None, Result, Ok, Err}
use Rattle.dx_base.specs.Object.{Tree, text, results_size}
use Rattle.dx_base.specs.declared.function.Module.{Module}
use Rattle.dx_base.specs.declared.function.Module.TheVariants.{Import}
use Rattle.dx_base.specs.declared.code.Code.{Code}
use Rattle.dx_objects.specs.Runs.{Values, Ran, Answer}
use Rattle.dx_tags.specs.Closed.{ValueTerm, ConstantTerm, HeldTerm, ResultTerm, FileTerm, CallTerm, CallOf, ValueTerms, NoTerm, AndTerm}
use Rattle.dx_links.specs.Denotes.{Around, own_file, file_of, all_denote}
use Rattle.dx_links.specs.Getting.{same_call, has_value, has_call}
use Rattle.dx_cache.specs.Cached.{stays}

-- the results of a call that are kept, with the site and the attribute of the call that they were stored under
pub record Cached : Type 0 where
  pub call : CallTerm
  pub site : List ℕ
  pub attribute : ℕ
  pub size : ℕ
  pub results : Values

-- a run, and the bytes of the written file that its call has
pub record Task : Type 0 where
  pub run : Ran
  pub own : Option (List ℕ)

pub data Event : Type 0 where
  RanAt : (site : List ℕ) → Task → Event
  HitAt : (site : List ℕ) → Event
  KeptAt : (site : List ℕ) → (size : ℕ) → Event
  DroppedAt : (site : List ℕ) → Event
  Cleared : Event

-- a call term that was formed, with the site and the attribute of the first call that formed it
pub record FormedCall : Type 0 where
  pub call : CallTerm
  pub site : List ℕ
  pub attribute : ℕ

-- what stays while terms are got: what terms depend on, the terms of links, the calls that were formed, and the budget
pub record Frame : Type 0 where
  pub around : Around
  pub links : List ValueTerm
  pub formed : List FormedCall
  pub budget : ℕ

-- the entries from the oldest, the known calls and the events
pub record State : Type 0 where
  pub entries : List Cached
  pub known : List CallTerm
  pub events : List Event

-- a getting ends well, or with the call that refused, which nothing comes behind
pub data Got : Type 0 where
  Went : State → Got
  Stopped : (refused : CallTerm) → Code → State → Got

abbrev pub and_then : Got → (State → Got) → Got
and_then (Went s) next = next s
and_then (Stopped refused code s) next = Stopped refused code s

abbrev pub state_at : Got → State
state_at (Went s) = s
state_at (Stopped refused code s) = s

-- ---- the first call that formed a term

abbrev pub site_of : List FormedCall → CallTerm → List ℕ
site_of [] c = []
site_of (f ∷ fs) c = if same_call f.call c then f.site else site_of fs c

abbrev pub attribute_of : List FormedCall → CallTerm → ℕ
attribute_of [] c = 1
attribute_of (f ∷ fs) c = if same_call f.call c then f.attribute else attribute_of fs c

-- ---- entries

abbrev pub has_entry : List Cached → CallTerm → Bool
has_entry [] c = false
has_entry (e ∷ es) c = same_call e.call c || has_entry es c

-- the sum of the stated sizes
abbrev pub total : List Cached → ℕ
total [] = 0
total (e ∷ es) = e.size + total es

abbrev pub of_site : List ℕ → Cached → Bool
of_site site e = bytes_eq site e.site

-- what is left when entries are dropped from the front until one of this size fits
abbrev pub fitting : ℕ → ℕ → List Cached → List Cached
fitting budget size [] = []
fitting budget size (e ∷ es) = if nat_le (total (e ∷ es) + size) budget then e ∷ es else fitting budget size es

-- those that are dropped for it
abbrev pub passed : ℕ → ℕ → List Cached → List Cached
passed budget size [] = []
passed budget size (e ∷ es) = if nat_le (total (e ∷ es) + size) budget then [] else e ∷ passed budget size es

-- under attribute 2 every entry of the site goes
abbrev pub others : ℕ → List ℕ → List Cached → List Cached
others attribute site es = if attribute == 2 then filter (λ e. not (of_site site e)) es else es

abbrev pub own_site : ℕ → List ℕ → List Cached → List Cached
own_site attribute site es = if attribute == 2 then filter (of_site site) es else []

abbrev pub left_for : List ℕ → ℕ → ℕ → ℕ → List Cached → List Cached
left_for site attribute size budget es =
    if attribute == 0 then es
    else if nat_le size budget then fitting budget size (others attribute site es)
    else others attribute site es

abbrev pub dropped_for : List ℕ → ℕ → ℕ → ℕ → List Cached → List Cached
dropped_for site attribute size budget es =
    if attribute == 0 then []
    else if nat_le size budget then own_site attribute site es ++ passed budget size (others attribute site es)
    else own_site attribute site es

abbrev pub drops : List Cached → List Event
drops es = map (λ e. DroppedAt e.site) es

-- what has to go is dropped, and the new entry goes last, where it stays
abbrev pub store : ℕ → Cached → State → State
store budget e s = record {
  entries = left_for e.site e.attribute e.size budget s.entries ++ (if stays e.attribute e.size budget then e ∷ [] else []);
  known = s.known;
  events = (s.events ++ drops (dropped_for e.site e.attribute e.size budget s.entries)) ++ (if stays e.attribute e.size budget then KeptAt e.site e.size ∷ [] else []);
}

-- ---- getting

abbrev pub entry_for : Frame → CallTerm → Values → Cached
entry_for k c results = record { call = c; site = site_of k.formed c; attribute = attribute_of k.formed c; size = results_size results; results = results }

abbrev pub with_known : CallTerm → State → State
with_known c s = record { entries = s.entries; known = s.known ++ c ∷ []; events = s.events }

abbrev pub with_event : Event → State → State
with_event e s = record { entries = s.entries; known = s.known; events = s.events ++ e ∷ [] }

-- the answer to a run: its results are known and stored, and a code stops
abbrev pub after_run : Frame → CallTerm → Answer → State → Got
after_run k c (Ok results) s = Went (store k.budget (entry_for k c results) (with_known c s))
after_run k c (Err code) s = Stopped c code s

abbrev pub task_of : Module → ValueTerms → Values → Task
task_of m ts values = record { run = (m, values); own = own_file ts }

-- the run of a call whose arguments were got
abbrev pub run_call : Frame → Module → ValueTerms → Answer → State → Got
run_call k m ts (Ok values) s =
    after_run k (CallOf m ts) (k.around.answer m values (file_of k.around m values (own_file ts))) (with_event (RanAt (site_of k.formed (CallOf m ts)) (task_of m ts values)) s)
run_call k m ts (Err code) s = Stopped (CallOf m ts) code s

-- the entry moves to the end
abbrev pub hit : Frame → CallTerm → State → State
hit k c s = record {
  entries = filter (λ e. not (same_call e.call c)) s.entries ++ filter (λ e. same_call e.call c) s.entries;
  known = s.known ++ c ∷ [];
  events = s.events ++ HitAt (site_of k.formed c) ∷ [];
}

-- a known call needs nothing; one that an entry has is a hit; else its arguments are got, and it is run
abbrev pub obtain : (known entry : Bool) → Frame → Module → ValueTerms → State → Got → Got
obtain true entry k m ts s arguments = Went s
obtain false true k m ts s arguments = Went (hit k (CallOf m ts) s)
obtain false false k m ts s arguments = and_then arguments (run_call k m ts (all_denote k.around ts))

abbrev pub unless_link : Bool → State → Got → Got
unless_link true s got = Went s
unless_link false s got = got

abbrev mutual
  -- a constant, a held value, a file and a link's term need nothing
  pub get : Frame → ValueTerm → State → Got
  get k (ConstantTerm c) s = Went s
  get k (HeldTerm n) s = Went s
  get k (FileTerm bytes) s = Went s
  get k (ResultTerm result c) s = unless_link (has_value k.links (ResultTerm result c)) s (get_call k c s)

  pub get_call : Frame → CallTerm → State → Got
  get_call k (CallOf m ts) s = obtain (has_call s.known (CallOf m ts)) (has_entry s.entries (CallOf m ts)) k m ts s (get_all k ts s)

  pub get_all : Frame → ValueTerms → State → Got
  get_all k NoTerm s = Went s
  get_all k (AndTerm t ts) s = and_then (get k t s) (get_all k ts)

-- ---- what was done

abbrev pub tasks_of : List Event → List Task
tasks_of [] = []
tasks_of (RanAt site task ∷ es) = task ∷ tasks_of es
tasks_of (HitAt site ∷ es) = tasks_of es
tasks_of (KeptAt site size ∷ es) = tasks_of es
tasks_of (DroppedAt site ∷ es) = tasks_of es
tasks_of (Cleared ∷ es) = tasks_of es

abbrev pub runs_in : List Task → List Ran
runs_in ts = map (λ (t : Task). t.run) ts

-- the name that an Import's first input is, where it is a text
abbrev pub name_read : Module → Values → Option (List ℕ)
name_read Import (Some (text name attributes) ∷ rest) = Some name
name_read m inputs = None

abbrev pub as_list : Option (List ℕ) → List (List ℕ)
as_list None = []
as_list (Some name) = name ∷ []

-- the names of files that a run reads: a call that has a file of its own reads none
abbrev pub read_by : Option (List ℕ) → Ran → List (List ℕ)
read_by (Some bytes) run = []
read_by None run = as_list (name_read run.0 run.1)

abbrev pub reads_in : List Task → List (List ℕ)
reads_in [] = []
reads_in (t ∷ ts) = read_by t.own t.run ++ reads_in ts

abbrev pub runs_of : List Event → List Ran
runs_of es = runs_in (tasks_of es)

abbrev pub reads_of : List Event → List (List ℕ)
reads_of es = reads_in (tasks_of es)

-- ---- emptying

-- all entries are dropped; what was known goes with the execution
abbrev pub emptied : State → State
emptied s = record { entries = []; known = []; events = s.events ++ Cleared ∷ [] }
