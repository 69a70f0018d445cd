-- A getting asks links alone whether they have a term.
use Rattle.std.proofs.Common.{◌≡◌, List, Bool, true, false, refl, sym, ap, ◌∙◌}
use Rattle.std.specs.Prelude.{Ok, Err, ◌||◌}
use Rattle.dx_base.specs.declared.function.Module.{Module}
use Rattle.dx_objects.specs.Runs.{Answer}
use Rattle.dx_tags.specs.Closed.{ValueTerm, ConstantTerm, HeldTerm, ResultTerm, FileTerm, CallTerm, CallOf, ValueTerms, NoTerm, AndTerm}
use Rattle.dx_links.specs.Denotes.{own_file, file_of, all_denote}
use Rattle.dx_links.specs.Getting.{has_call}
use Rattle.dx_machine.specs.Machine.{FormedCall, Frame, State, Got, RanAt, and_then, with_event, task_of, site_of, after_run, run_call, has_entry, obtain, unless_link, get, get_call, get_all}
use Rattle.dx_machine.specs.Covered.{IsCovered, IsCoveredCall, AreCovered}
use Rattle.dx_performing.specs.Resuming.{is_ready}
use Rattle.dx_resuming.specs.Links.{SameResults, SameLinks, LinksAlike, AllLinksAlike, ReadyAlike, CoveredAlike, AllCoveredAlike}

abbrev with_links : Frame → List ValueTerm → Frame
with_links k ls = record { around = k.around; links = ls; formed = k.formed; budget = k.budget }

module _ (k : Frame) (ls : List ValueTerm) (h : SameResults k.links ls) where
  after_same : (c : CallTerm) (a : Answer) (s : State) → after_run (with_links k ls) c a s ≡ after_run k c a s
  after_same c (Ok results) s = refl
  after_same c (Err code) s = refl

  run_same : (m : Module) (ts : ValueTerms) (a : Answer) (s : State) → run_call (with_links k ls) m ts a s ≡ run_call k m ts a s
  run_same m ts (Ok values) s =
      after_same (CallOf m ts) (k.around.answer m values (file_of k.around m values (own_file ts))) (with_event (RanAt (site_of k.formed (CallOf m ts)) (task_of m ts values)) s)
  run_same m ts (Err code) s = refl

  then_same : (g g' : Got) (go go' : State → Got) → g' ≡ g → ((s : State) → go' s ≡ go s) → and_then g' go' ≡ and_then g go
  then_same g g' go go' p q = λ i. and_then (p i) (λ s. q s i)

  obtain_same : (b0 b1 : Bool) (m : Module) (ts : ValueTerms) (s : State) (g g' : Got) → g' ≡ g → obtain b0 b1 (with_links k ls) m ts s g' ≡ obtain b0 b1 k m ts s g
  obtain_same true b1 m ts s g g' p = refl
  obtain_same false true m ts s g g' p = refl
  obtain_same false false m ts s g g' p = then_same g g' (run_call k m ts (all_denote k.around ts)) (run_call (with_links k ls) m ts (all_denote k.around ts)) p (run_same m ts (all_denote k.around ts))

  mutual
    value_alike : (t : ValueTerm) (s : State) → get (with_links k ls) t s ≡ get k t s
    value_alike (ConstantTerm c) s = refl
    value_alike (HeldTerm n) s = refl
    value_alike (FileTerm b) s = refl
    value_alike (ResultTerm result c) s = λ i. unless_link (h result c i) s (call_alike c s i)

    call_alike : (c : CallTerm) (s : State) → get_call (with_links k ls) c s ≡ get_call k c s
    call_alike (CallOf m ts) s =
        obtain_same (has_call s.known (CallOf m ts)) (has_entry s.entries (CallOf m ts)) m ts s (get_all k ts s) (get_all (with_links k ls) ts s) (values_alike ts s)

    values_alike : (ts : ValueTerms) (s : State) → get_all (with_links k ls) ts s ≡ get_all k ts s
    values_alike NoTerm s = refl
    values_alike (AndTerm t ts) s = then_same (get k t s) (get (with_links k ls) t s) (get_all k ts) (get_all (with_links k ls) ts) (value_alike t s) (values_alike ts)

  ready_same : (t : ValueTerm) (s : State) → is_ready (with_links k ls) s t ≡ is_ready k s t
  ready_same (ConstantTerm c) s = refl
  ready_same (HeldTerm n) s = refl
  ready_same (FileTerm b) s = refl
  ready_same (ResultTerm result c) s = ap (λ b. b || has_call s.known c) (h result c)

-- but for its links the one frame is the other
by_links : (k k' : Frame) → SameLinks k k' → k' ≡ with_links k k'.links
by_links k k' h = λ i. record { around = h.around i; links = k'.links; formed = h.formed i; budget = h.budget i }

pub gets_alike : LinksAlike
gets_alike k k' h t s = ap (λ x. get x t s) (by_links k k' h) ∙ value_alike k k'.links h.links t s

pub get_all_alike : AllLinksAlike
get_all_alike k k' h ts s = ap (λ x. get_all x ts s) (by_links k k' h) ∙ values_alike k k'.links h.links ts s

pub ready_alike : ReadyAlike
ready_alike k k' h t s = ap (λ x. is_ready x s t) (by_links k k' h) ∙ ready_same k k'.links h.links t s

-- ---- what getting can reach

module _ (fs : List FormedCall) (ls ls' : List ValueTerm) (h : SameResults ls ls') where
  mutual
    value_covered : (t : ValueTerm) → IsCovered fs ls t → IsCovered fs ls' t
    value_covered (ConstantTerm c) v = tt
    value_covered (HeldTerm n) v = tt
    value_covered (FileTerm b) v = tt
    value_covered (ResultTerm result c) v = λ e. call_covered c (v (sym (h result c) ∙ e))

    call_covered : (c : CallTerm) → IsCoveredCall fs ls c → IsCoveredCall fs ls' c
    call_covered (CallOf m ts) v = (v.0, values_covered ts v.1)

    values_covered : (ts : ValueTerms) → AreCovered fs ls ts → AreCovered fs ls' ts
    values_covered NoTerm v = tt
    values_covered (AndTerm t ts) v = (value_covered t v.0, values_covered ts v.1)

pub covered_alike : CoveredAlike
covered_alike fs ls ls' h t v = value_covered fs ls ls' h t v

pub all_covered_alike : AllCoveredAlike
all_covered_alike fs ls ls' h ts v = values_covered fs ls ls' h ts v
