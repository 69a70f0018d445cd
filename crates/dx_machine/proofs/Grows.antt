-- Getting only adds runs.
use Rattle.std.proofs.Common.{◌≡◌, ℕ, List, [], ◌∷◌, ◌++◌, map, Bool, true, false, refl, sym, ap, ◌∙◌, append_assoc, append-nil}
use Rattle.std.specs.Prelude.{if◌then◌else◌, Result, Ok, Err}
use Rattle.dx_base.specs.declared.function.Module.{Module}
use Rattle.dx_base.specs.declared.code.Code.{Code}
use Rattle.dx_objects.specs.Runs.{Values, Answer}
use Rattle.dx_tags.specs.Closed.{ValueTerm, ConstantTerm, HeldTerm, ResultTerm, FileTerm, CallTerm, CallOf, ValueTerms, NoTerm, AndTerm}
use Rattle.dx_links.specs.Denotes.{own_file, file_of, all_denote}
use Rattle.dx_links.specs.Getting.{has_value, has_call}
use Rattle.dx_cache.specs.Cached as kept
use Rattle.dx_machine.specs.Machine.{Cached, Event, RanAt, HitAt, KeptAt, DroppedAt, Cleared, Task, Frame, State, Got, Went, Stopped, and_then, state_at, tasks_of, task_of, has_entry, drops, dropped_for, store, entry_for, with_known, with_event, site_of, after_run, run_call, hit, obtain, unless_link, get, get_call, get_all}

-- the runs of s, and then more
pub record RunsGrow (s : State) (g : Got) : Type 0 where
  pub more : List Task
  pub runs : tasks_of (state_at g).events ≡ tasks_of s.events ++ more

pub tasks-append : (es fs : List Event) → tasks_of (es ++ fs) ≡ tasks_of es ++ tasks_of fs
tasks-append [] fs = refl
tasks-append (RanAt site r ∷ es) fs = ap (λ rs. r ∷ rs) (tasks-append es fs)
tasks-append (HitAt site ∷ es) fs = tasks-append es fs
tasks-append (KeptAt site size ∷ es) fs = tasks-append es fs
tasks-append (DroppedAt site ∷ es) fs = tasks-append es fs
tasks-append (Cleared ∷ es) fs = tasks-append es fs

pub grows_none : (s : State) → RunsGrow s (Went s)
grows_none s = record { more = []; runs = sym (append-nil (tasks_of s.events)) }

pub grows_then : (s : State) (g : Got) (go : State → Got) → RunsGrow s g → ((s1 : State) → RunsGrow s1 (go s1)) → RunsGrow s (and_then g go)
grows_then s (Went s1) go p q = let r = q s1 in record { more = p.more ++ r.more; runs = r.runs ∙ ap (λ rs. rs ++ r.more) p.runs ∙ append_assoc (tasks_of s.events) p.more r.more }
grows_then s (Stopped refused code s1) go p q = p

no_runs_dropped : (es : List Cached) → tasks_of (drops es) ≡ []
no_runs_dropped [] = refl
no_runs_dropped (e ∷ es) = no_runs_dropped es

pub store_tasks : (budget : ℕ) (e : Cached) (s : State) → tasks_of (store budget e s).events ≡ tasks_of s.events
store_tasks budget e s =
    let ds = drops (dropped_for e.site e.attribute e.size budget s.entries) in
    let ks = if kept.stays e.attribute e.size budget then KeptAt e.site e.size ∷ [] else [] in
    tasks-append (s.events ++ ds) ks ∙ ap (λ rs. rs ++ tasks_of ks) (tasks-append s.events ds) ∙ ap (λ rs. (tasks_of s.events ++ rs) ++ tasks_of ks) (no_runs_dropped (dropped_for e.site e.attribute e.size budget s.entries)) ∙ ap (λ rs. rs ++ tasks_of ks) (append-nil (tasks_of s.events)) ∙ ap (λ rs. tasks_of s.events ++ rs) (no_keep (kept.stays e.attribute e.size budget)) ∙ append-nil (tasks_of s.events)
  where
    no_keep : (b : Bool) → tasks_of (if b then KeptAt e.site e.size ∷ [] else []) ≡ []
    no_keep true = refl
    no_keep false = refl

-- a run is one run more
pub run_tasks : (k : Frame) (m : Module) (ts : ValueTerms) (values : Values) (s : State) → tasks_of (state_at (run_call k m ts (Ok values) s)).events ≡ tasks_of s.events ++ task_of m ts values ∷ []
run_tasks k m ts values s = after (k.around.answer m values (file_of k.around m values (own_file ts)))
  where
    after : (a : Answer) → tasks_of (state_at (after_run k (CallOf m ts) a (with_event (RanAt (site_of k.formed (CallOf m ts)) (task_of m ts values)) s))).events ≡ tasks_of s.events ++ task_of m ts values ∷ []
    after (Err code) = tasks-append s.events (RanAt (site_of k.formed (CallOf m ts)) (task_of m ts values) ∷ [])
    after (Ok results) = store_tasks k.budget (entry_for k (CallOf m ts) results) (with_known (CallOf m ts) (with_event (RanAt (site_of k.formed (CallOf m ts)) (task_of m ts values)) s)) ∙ tasks-append s.events (RanAt (site_of k.formed (CallOf m ts)) (task_of m ts values) ∷ [])

pub run_grows : (k : Frame) (m : Module) (ts : ValueTerms) (a : Answer) (s : State) → RunsGrow s (run_call k m ts a s)
run_grows k m ts (Err code) s = record { more = []; runs = sym (append-nil (tasks_of s.events)) }
run_grows k m ts (Ok values) s = record { more = task_of m ts values ∷ []; runs = run_tasks k m ts values s }

obtain_grows : (b0 b1 : Bool) (k : Frame) (m : Module) (ts : ValueTerms) (s : State) (g : Got) → RunsGrow s g → RunsGrow s (obtain b0 b1 k m ts s g)
obtain_grows true b1 k m ts s g p = grows_none s
obtain_grows false true k m ts s g p = record { more = []; runs = tasks-append s.events (HitAt (site_of k.formed (CallOf m ts)) ∷ []) }
obtain_grows false false k m ts s g p = grows_then s g (run_call k m ts (all_denote k.around ts)) p (run_grows k m ts (all_denote k.around ts))

link_grows : (b : Bool) (s : State) (g : Got) → RunsGrow s g → RunsGrow s (unless_link b s g)
link_grows true s g p = grows_none s
link_grows false s g p = p

mutual
  pub get_grows : (k : Frame) (t : ValueTerm) (s : State) → RunsGrow s (get k t s)
  get_grows k (ConstantTerm c) s = grows_none s
  get_grows k (HeldTerm i) s = grows_none s
  get_grows k (FileTerm b) s = grows_none s
  get_grows k (ResultTerm result c) s = link_grows (has_value k.links (ResultTerm result c)) s (get_call k c s) (call_grows k c s)

  pub call_grows : (k : Frame) (c : CallTerm) (s : State) → RunsGrow s (get_call k c s)
  call_grows k (CallOf m ts) s = obtain_grows (has_call s.known (CallOf m ts)) (has_entry s.entries (CallOf m ts)) k m ts s (get_all k ts s) (all_grow k ts s)

  pub all_grow : (k : Frame) (ts : ValueTerms) (s : State) → RunsGrow s (get_all k ts s)
  all_grow k NoTerm s = grows_none s
  all_grow k (AndTerm t ts) s = grows_then s (get k t s) (get_all k ts) (get_grows k t s) (all_grow k ts)
