-- Getting terms whose calls have what was put under the names that they read: each run has it.
use Rattle.std.proofs.Common.{◌≡◌, List, [], ◌∷◌, ◌++◌, Bool, true, false, refl, sym, ap, ◌∙◌, append_assoc, append-nil}
use Rattle.std.specs.Prelude.{Ok, Err}
use Rattle.dx_base.specs.declared.function.Module.{Module}
use Rattle.dx_objects.specs.Runs.{Values, Answer}
use Rattle.dx_tags.specs.Closed.{ValueTerm, ConstantTerm, HeldTerm, ResultTerm, FileTerm, CallTerm, CallOf, ValueTerms, NoTerm, AndTerm}
use Rattle.dx_tags.specs.Files.{FileMap}
use Rattle.dx_links.specs.Denotes.{Around, own_file, all_denote}
use Rattle.dx_links.specs.Getting.{has_value, has_call}
use Rattle.dx_machine.specs.Machine.{Task, HitAt, Frame, State, Got, Went, Stopped, and_then, state_at, tasks_of, task_of, site_of, has_entry, name_read, run_call, obtain, unless_link, get, get_call, get_all}
use Rattle.dx_machine.proofs.Grows.{tasks-append, run_tasks}
use Rattle.dx_demanded.specs.Reads.{put_under, HaveWhatWasPut}

-- ---- terms

-- the file that stands behind these arguments is what was put under the name that the module reads, whatever they denote
abbrev pub OwnsFile : Around → FileMap → Module → ValueTerms → Type 0
OwnsFile a written m ts = (values : Values) → all_denote a ts ≡ Ok values → own_file ts ≡ put_under written (name_read m values)

-- so it is of each call within a term, but for links' terms, which aren't got
abbrev mutual
  pub Owns : Around → (links : List ValueTerm) → FileMap → ValueTerm → Type 0
  Owns a links written (ConstantTerm c) = Unit {0}
  Owns a links written (HeldTerm n) = Unit {0}
  Owns a links written (FileTerm bytes) = Unit {0}
  Owns a links written (ResultTerm result c) = has_value links (ResultTerm result c) ≡ false → CallOwns a links written c

  pub CallOwns : Around → (links : List ValueTerm) → FileMap → CallTerm → Type 0
  CallOwns a links written (CallOf m ts) = OwnsFile a written m ts × AllOwn a links written ts

  pub AllOwn : Around → (links : List ValueTerm) → FileMap → ValueTerms → Type 0
  AllOwn a links written NoTerm = Unit {0}
  AllOwn a links written (AndTerm t ts) = Owns a links written t × AllOwn a links written ts

-- ---- what is run

-- each run from one state to another has what was put
pub record RanOwned (written : FileMap) (s s' : State) : Type 0 where
  pub more : List Task
  pub runs : tasks_of s'.events ≡ tasks_of s.events ++ more
  pub own : HaveWhatWasPut written more

owned_append : (written : FileMap) (ts us : List Task) → HaveWhatWasPut written ts → HaveWhatWasPut written us → HaveWhatWasPut written (ts ++ us)
owned_append written [] us p q = q
owned_append written (t ∷ ts) us p q = (p.0, owned_append written ts us p.1 q)

module _ (written : FileMap) where
  pub owned_none : (s : State) → RanOwned written s s
  owned_none s = record { more = []; runs = sym (append-nil (tasks_of s.events)); own = tt }

  pub owned_then : (s s1 s2 : State) → RanOwned written s s1 → RanOwned written s1 s2 → RanOwned written s s2
  owned_then s s1 s2 p q = record {
    more = p.more ++ q.more;
    runs = q.runs ∙ ap (λ rs. rs ++ q.more) p.runs ∙ append_assoc (tasks_of s.events) p.more q.more;
    own = owned_append written p.more q.more p.own q.own;
  }

  pub then_owned : (s : State) (g : Got) (next : State → Got) → RanOwned written s (state_at g) → ((s1 : State) → RanOwned written s1 (state_at (next s1))) → RanOwned written s (state_at (and_then g next))
  then_owned s (Went s1) next p q = owned_then s s1 (state_at (next s1)) p (q s1)
  then_owned s (Stopped c code s1) next p q = p

  run_owned : (k : Frame) (m : Module) (ts : ValueTerms) (s : State) → OwnsFile k.around written m ts → (all : Answer) → all_denote k.around ts ≡ all → RanOwned written s (state_at (run_call k m ts all s))
  run_owned k m ts s h (Ok values) e = record { more = task_of m ts values ∷ []; runs = run_tasks k m ts values s; own = (h values e, tt) }
  run_owned k m ts s h (Err code) e = owned_none s

  link_owned : (b : Bool) (s : State) (g : Got) → (b ≡ false → RanOwned written s (state_at g)) → RanOwned written s (state_at (unless_link b s g))
  link_owned true s g p = owned_none s
  link_owned false s g p = p refl

  obtain_owned : (known entry : Bool) (k : Frame) (m : Module) (ts : ValueTerms) (s : State) (g : Got) → OwnsFile k.around written m ts → RanOwned written s (state_at g) → RanOwned written s (state_at (obtain known entry k m ts s g))
  obtain_owned true entry k m ts s g h p = owned_none s
  obtain_owned false true k m ts s g h p = record { more = []; runs = tasks-append s.events (HitAt (site_of k.formed (CallOf m ts)) ∷ []); own = tt }
  obtain_owned false false k m ts s g h p = then_owned s g (run_call k m ts (all_denote k.around ts)) p (λ s1. run_owned k m ts s1 h (all_denote k.around ts) refl)

  mutual
    pub got_owned : (k : Frame) (t : ValueTerm) (s : State) → Owns k.around k.links written t → RanOwned written s (state_at (get k t s))
    got_owned k (ConstantTerm c) s h = owned_none s
    got_owned k (HeldTerm n) s h = owned_none s
    got_owned k (FileTerm bytes) s h = owned_none s
    got_owned k (ResultTerm result c) s h = link_owned (has_value k.links (ResultTerm result c)) s (get_call k c s) (λ e. call_owned k c s (h e))

    call_owned : (k : Frame) (c : CallTerm) (s : State) → CallOwns k.around k.links written c → RanOwned written s (state_at (get_call k c s))
    call_owned k (CallOf m ts) s h = obtain_owned (has_call s.known (CallOf m ts)) (has_entry s.entries (CallOf m ts)) k m ts s (get_all k ts s) h.0 (all_owned k ts s h.1)

    pub all_owned : (k : Frame) (ts : ValueTerms) (s : State) → AllOwn k.around k.links written ts → RanOwned written s (state_at (get_all k ts s))
    all_owned k NoTerm s h = owned_none s
    all_owned k (AndTerm t ts) s h = then_owned s (get k t s) (get_all k ts) (got_owned k t s h.0) (λ s1. all_owned k ts s1 h.1)
