-- A getting whose calls were formed is the same, whatever is formed behind them.
use Rattle.std.proofs.Common.{◌≡◌, List, Bool, true, false, refl, ap, ap₂, ◌∙◌}
use Rattle.std.specs.Prelude.{Ok, Err}
use Rattle.dx_base.specs.declared.function.Module.{Module}
use Rattle.dx_base.specs.Object.{results_size}
use Rattle.dx_objects.specs.Runs.{Values, Answer}
use Rattle.dx_tags.specs.Closed.{ValueTerm, ConstantTerm, HeldTerm, ResultTerm, FileTerm, CallTerm, CallOf, ValueTerms, NoTerm, AndTerm}
use Rattle.dx_links.specs.Denotes.{own_file, file_of, all_denote}
use Rattle.dx_links.specs.Getting.{has_value, has_call}
use Rattle.dx_machine.specs.Machine.{Frame, State, Got, Went, FormedCall, RanAt, and_then, store, entry_for, with_known, with_event, task_of, site_of, after_run, run_call, has_entry, hit, obtain, unless_link, get, get_call, get_all}
use Rattle.dx_machine.specs.Covered.{is_formed, IsCovered, IsCoveredCall, AreCovered}
use Rattle.dx_performing.specs.Alike.{SameCalls, with_formed, GetsAlike, GetAllAlike}

module _ (k : Frame) (gs : List FormedCall) (h : SameCalls k.formed gs) where
  entry_same : (c : CallTerm) → is_formed k.formed c ≡ true → (results : Values) → entry_for (with_formed k gs) c results ≡ entry_for k c results
  entry_same c f results = ap₂ (λ site attribute. record { call = c; site = site; attribute = attribute; size = results_size results; results = results }) (h.sites c f) (h.attributes c f)

  after_same : (c : CallTerm) → is_formed k.formed c ≡ true → (a : Answer) (s : State) → after_run (with_formed k gs) c a s ≡ after_run k c a s
  after_same c f (Ok results) s = ap (λ e. Went (store k.budget e (with_known c s))) (entry_same c f results)
  after_same c f (Err code) s = refl

  run_same : (m : Module) (ts : ValueTerms) → is_formed k.formed (CallOf m ts) ≡ true → (a : Answer) (s : State) → run_call (with_formed k gs) m ts a s ≡ run_call k m ts a s
  run_same m ts f (Ok values) s =
      let answer = k.around.answer m values (file_of k.around m values (own_file ts)) in
      after_same (CallOf m ts) f answer (with_event (RanAt (site_of gs (CallOf m ts)) (task_of m ts values)) s)
      ∙ ap (λ site. after_run k (CallOf m ts) answer (with_event (RanAt site (task_of m ts values)) s)) (h.sites (CallOf m ts) f)
  run_same m ts f (Err code) s = refl

  hit_same : (c : CallTerm) → is_formed k.formed c ≡ true → (s : State) → hit (with_formed k gs) c s ≡ hit k c s
  hit_same c f s = rw (h.sites c f) refl

  then_same : (g g' : Got) (go go' : State → Got) → g' ≡ g → ((s : State) → go' s ≡ go s) → and_then g' go' ≡ and_then g go
  then_same g g' go go' p q = λ i. and_then (p i) (λ s. q s i)

  obtain_same : (b0 b1 : Bool) (m : Module) (ts : ValueTerms) → is_formed k.formed (CallOf m ts) ≡ true → (s : State) (g g' : Got) → g' ≡ g → obtain b0 b1 (with_formed k gs) m ts s g' ≡ obtain b0 b1 k m ts s g
  obtain_same true b1 m ts f s g g' p = refl
  obtain_same false true m ts f s g g' p = ap Went (hit_same (CallOf m ts) f s)
  obtain_same false false m ts f s g g' p = then_same g g' (run_call k m ts (all_denote k.around ts)) (run_call (with_formed k gs) m ts (all_denote k.around ts)) p (run_same m ts f (all_denote k.around ts))

  link_same : (b : Bool) (s : State) (g g' : Got) → (b ≡ false → g' ≡ g) → unless_link b s g' ≡ unless_link b s g
  link_same true s g g' p = refl
  link_same false s g g' p = p refl

  mutual
    pub value_alike : (t : ValueTerm) → IsCovered k.formed k.links t → (s : State) → get (with_formed k gs) t s ≡ get k t s
    value_alike (ConstantTerm c) v s = refl
    value_alike (HeldTerm n) v s = refl
    value_alike (FileTerm b) v s = refl
    value_alike (ResultTerm result c) v s =
        link_same (has_value k.links (ResultTerm result c)) s (get_call k c s) (get_call (with_formed k gs) c s) (λ e. call_alike c (v e) s)

    call_alike : (c : CallTerm) → IsCoveredCall k.formed k.links c → (s : State) → get_call (with_formed k gs) c s ≡ get_call k c s
    call_alike (CallOf m ts) v s =
        obtain_same (has_call s.known (CallOf m ts)) (has_entry s.entries (CallOf m ts)) m ts v.0 s (get_all k ts s) (get_all (with_formed k gs) ts s) (values_alike ts v.1 s)

    pub values_alike : (ts : ValueTerms) → AreCovered k.formed k.links ts → (s : State) → get_all (with_formed k gs) ts s ≡ get_all k ts s
    values_alike NoTerm v s = refl
    values_alike (AndTerm t ts) v s = then_same (get k t s) (get (with_formed k gs) t s) (get_all k ts) (get_all (with_formed k gs) ts) (value_alike t v.0 s) (values_alike ts v.1)

pub gets_alike : GetsAlike
gets_alike k gs h t v s = value_alike k gs h t v s

pub get_all_alike : GetAllAlike
get_all_alike k gs h ts v s = values_alike k gs h ts v s
