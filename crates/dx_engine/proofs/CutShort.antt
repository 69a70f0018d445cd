-- What is kept behind an execution fits and is sound, and what was known and told counts for nothing.
use Rattle.std.proofs.Common.{◌≡◌, inl, inr, List, [], length, map, Option, refl, sym, ap, ap₂, ◌∙◌, subst, arith}
use Rattle.std.specs.Prelude.{Result, Ok, Err}
use Rattle.dx_macros.specs.Tree.{CallTree}
use Rattle.dx_objects.specs.Runs.{Values}
use Rattle.dx_tags.specs.Closed.{HeldBelow, heads_of, GoesOn}
use Rattle.dx_tags.proofs.Growth.{held_grows}
use Rattle.dx_io.proofs.Growing.{grows_by_nothing}
use Rattle.dx_ending.specs.Putting.{ArePut, ArePutBefore}
use Rattle.dx_performing.specs.Execution.{Export}
use Rattle.dx_links.specs.Denotes.{Around}
use Rattle.dx_links.specs.LinkMap.{LinkMap, Linked}
use Rattle.dx_getting.specs.Bound.{IsBound, AreLinks, BeginHeld}
use Rattle.dx_getting.specs.Terms.{Table}
use Rattle.dx_demand.specs.Terms.{AreExact}
use Rattle.dx_demand.specs.Forming.{named_terms}
use Rattle.dx_cache.specs.Cached.{Cached}
use Rattle.dx_machine.specs.Sound.{IsSound}
use Rattle.dx_getting.specs.Stands.{Setting, EntriesRight, named, world}
use Rattle.dx_getting.specs.Steps.{AreCalls}
use Rattle.dx_performing.specs.Kept.{Kept, current}
use Rattle.dx_performing.specs.Course.{Fixed, around_of, begins}
use Rattle.dx_performing.specs.Meant.{LinksRight}
use Rattle.dx_looking.specs.Looking.{AllFit}
use Rattle.dx_looking.specs.Setting.{links_of}
use Rattle.dx_looking.proofs.Growth.{all_fit_grows, links_same}
use Rattle.dx_looking.proofs.Growth.{begin_held_grows}
use Rattle.dx_engine.specs.Keeping.{StateFits, kept_of, setting_of, IsSoundState}
use Rattle.dx_engine.specs.Ending.{OnEnd, OnCut, CutsPuts, HasPut}
use Rattle.dx_engine.specs.Executing.{Devices, IsExecuted, NonePut, ExecutesSo}
use Rattle.dx_engine.specs.Cutting.{IsCutFrom, IsForgotten, IsGivenBack}
use Rattle.dx_engine.specs.declared.exec_error.ExecError.{ExecError}
use Rattle.dx_engine.specs.declared.exec_error.ExecError.TheVariants.{Module, ReadFault, WriteFault, ExportFault, Memory}
use Rattle.dx_engine.specs.declared.state.State.{State}
use Rattle.dx_engine.proofs.Finished.{bound_stays}
use Rattle.dx_engine.proofs.SoundBehind.{around_same}

module _ (st st1 st2 : State) (fits : StateFits st) (cut : IsCutFrom st st1) (gone : IsForgotten st1 st2) where
  links_are : st2.links.links ≡ st.links.links
  links_are = ap (λ (l : Linked). l.links) gone.links ∙ cut.links

  held_gone : st2.links.held ≡ st1.links.held
  held_gone = ap (λ (l : Linked). l.held) gone.links

  from_is : st2.bound.from ≡ st.bound.from
  from_is = ap (λ (t : Table). t.from) gone.bound ∙ cut.from

  pairs_are : st2.bound.pairs ≡ st.bound.pairs
  pairs_are = ap (λ (t : Table). t.pairs) gone.bound ∙ cut.bound

  fits_then : StateFits st2
  fits_then = record {
    exact = subst AreExact (sym gone.tags) cut.exact;
    held = subst (HeldBelow (length st2.links.held)) (sym gone.tags) (subst (λ (vs : Values). HeldBelow (length vs) st1.at.tags) (sym (held_gone ∙ cut.held)) (held_grows (length st.links.held) st.at.tags st1.at.tags cut.goes_on fits.held));
    links = subst (AllFit st2.at.tags) (sym links_are) (subst (λ terms. AllFit terms st.links.links) (sym gone.tags) (all_fit_grows st.at.tags st1.at.tags cut.goes_on st.links.links fits.links));
    bound = bound_stays st.links.links st2.links.links st.bound st2.bound links_are pairs_are (ap (λ (t : Table). t.counts) gone.bound ∙ cut.counts) from_is fits.bound;
    below = subst (BeginHeld st2.bound.from) (sym gone.tags) (begin_held_grows st2.bound.from st.at.tags st1.at.tags cut.goes_on (subst (λ n. BeginHeld n st.at.tags) (sym from_is) fits.below));
    entries = subst (AreCalls st2.at.tags) (sym gone.entries) tt;
  }

  terms_are : (kept_of st2).links ≡ (kept_of st).links
  terms_are =
      ap₂ links_of (ap heads_of gone.tags) links_are
      ∙ links_same st.at.tags st1.at.tags cut.goes_on st.links.links fits.links

  sound_then : (x : Fixed) → IsSoundState x st → IsSoundState x st2
  sound_then x s = record {
    budget = s.budget ∙ sym (gone.budget ∙ cut.budget);
    links = subst (λ (a : Around). LinksRight a (kept_of st2).links) (sym (around_same x (kept_of st) (kept_of st2) (held_gone ∙ cut.held))) (subst (LinksRight (around_of x (kept_of st))) (sym terms_are) s.links);
    values = subst (λ (y : LinkMap). AreLinks y st2.bound.pairs) (sym links_are) (subst (AreLinks st.links.links) (sym pairs_are) s.values);
    entries = subst (EntriesRight (setting_of st2) (world x.answer x.file)) (sym gone.entries) tt;
    sound = subst (λ es. IsSound (around_of x (kept_of st2)) x.budget (record { entries = map (named (heads_of st2.at.tags)) es; known = []; events = [] })) (sym gone.entries) (record { entries = tt; bounded = omega arith; known = tt });
  }

-- ---- what was known and told counts for nothing

module _ (st1 st2 : State) (back : IsGivenBack st1 st2) where
  budget_back : st2.at.work.cache.budget ≡ st1.at.work.cache.budget
  budget_back = ap (λ (c : Cached). c.budget) back.cache

  held_back : st2.links.held ≡ st1.links.held
  held_back = ap (λ (l : Linked). l.held) back.links

  fits_back : StateFits st1 → StateFits st2
  fits_back h = record {
    exact = subst AreExact (sym back.tags) h.exact;
    held = subst (λ (vs : Values). HeldBelow (length vs) st2.at.tags) (sym held_back) (subst (HeldBelow (length st1.links.held)) (sym back.tags) h.held);
    links = subst (λ (l : Linked). AllFit st2.at.tags l.links) (sym back.links) (subst (λ terms. AllFit terms st1.links.links) (sym back.tags) h.links);
    bound = subst (λ (t : Table). IsBound st2.links.links t) (sym back.bound) (subst (λ (l : Linked). IsBound l.links st1.bound) (sym back.links) h.bound);
    below = subst (λ (t : Table). BeginHeld t.from st2.at.tags) (sym back.bound) (subst (BeginHeld st1.bound.from) (sym back.tags) h.below);
    entries = subst (λ (c : Cached). AreCalls st2.at.tags c.entries) (sym back.cache) (subst (λ terms. AreCalls terms st1.at.work.cache.entries) (sym back.tags) h.entries);
  }

  kept_back : kept_of st2 ≡ kept_of st1
  kept_back = λ i. record {
    entries = map (named (heads_of (back.tags i))) (back.cache i).entries;
    terms = named_terms (back.tags i);
    links = links_of (heads_of (back.tags i)) (back.links i).links;
    held = (back.links i).held;
    written = (back.written i).files;
  }

  setting_back : setting_of st2 ≡ setting_of st1
  setting_back = λ i. record { terms = back.tags i; links = (back.bound i).pairs; held = (back.links i).held; formed = [] }

  sound_back : (x : Fixed) → IsSoundState x st1 → IsSoundState x st2
  sound_back x s = record {
    budget = s.budget ∙ sym budget_back;
    links = subst (λ (k : Kept). LinksRight (around_of x k) k.links) (sym kept_back) s.links;
    values = subst (λ (t : Table). AreLinks st2.links.links t.pairs) (sym back.bound) (subst (λ (l : Linked). AreLinks l.links st1.bound.pairs) (sym back.links) s.values);
    entries = subst (λ (c : Cached). EntriesRight (setting_of st2) (world x.answer x.file) c.entries) (sym back.cache) (subst (λ (e : Setting). EntriesRight e (world x.answer x.file) st1.at.work.cache.entries) (sym setting_back) s.entries);
    sound = subst (λ (k : Kept). IsSound (around_of x k) x.budget (begins k).state) (sym kept_back) s.sound;
  }

  executed_back : (x : Fixed) (st : State) (effects : List CallTree) (was : Devices) (r : Result (Unit {0}) ExecError) (now : Devices) → IsExecuted x st effects was r st1 now → IsExecuted x st effects was r st2 now
  executed_back x st effects was r now h = record {
    printed = h.printed;
    puts = h.puts;
    error = h.error;
    told = h.told;
    events = ap (λ (v : _). v.items) back.events ∙ h.events;
    kept = kept_back ∙ h.kept;
    current = ap current kept_back ∙ h.current;
    sound = sound_back x h.sound;
  }

-- ---- at a cut behind the last effect

abbrev SameBound : State → State → Type 0
SameBound st1 st2 = (st2.bound.pairs ≡ st1.bound.pairs) × (st2.bound.counts ≡ st1.bound.counts) × (st2.bound.from ≡ st1.bound.from)

abbrev AreKept : State → State → Type 0
AreKept st1 st2 = (st2.at.tags ≡ st1.at.tags) × (st2.links.held ≡ st1.links.held) × (st2.at.work.cache ≡ st1.at.work.cache)

then_kept : (st st1 st2 : State) → IsCutFrom st st1 → st2.links.links ≡ st1.links.links → SameBound st1 st2 → AreKept st1 st2 → IsCutFrom st st2
then_kept st st1 st2 cut links bound same = record {
  exact = subst AreExact (sym same.0) cut.exact;
  goes_on = subst (GoesOn st.at.tags) (sym same.0) cut.goes_on;
  links = links ∙ cut.links;
  bound = bound.0 ∙ cut.bound;
  counts = bound.1 ∙ cut.counts;
  from = bound.2 ∙ cut.from;
  held = same.1 ∙ cut.held;
  budget = ap (λ (c : _). c.budget) same.2 ∙ cut.budget;
}

pub cut_at_end : (r : Result (Unit {0}) ExecError) (st st1 st2 : State) → IsCutFrom st st1 → OnCut r (st2.links.links ≡ st1.links.links) → OnCut r (SameBound st1 st2) → OnCut r (AreKept st1 st2) → OnCut r (IsCutFrom st st2)
cut_at_end (Ok u) st st1 st2 cut links bound same = tt
cut_at_end (Err (Module site code)) st st1 st2 cut links bound same = tt
cut_at_end (Err ReadFault) st st1 st2 cut links bound same = then_kept st st1 st2 cut links bound same
cut_at_end (Err WriteFault) st st1 st2 cut links bound same = then_kept st st1 st2 cut links bound same
cut_at_end (Err ExportFault) st st1 st2 cut links bound same = then_kept st st1 st2 cut links bound same
cut_at_end (Err Memory) st st1 st2 cut links bound same = then_kept st st1 st2 cut links bound same

-- ---- what was put

pub none_has_put : (was : Option (List Export)) (st st1 : State) → st1.written ≡ st.written → HasPut was was st.written.files st1.written.files
none_has_put was st st1 same = record { files = []; made = record { told = grows_by_nothing was; files = ap (λ (w : _). w.files) same } }

pub has_put : (r : Result (Unit {0}) ExecError) (all : List Export) (was now : Option (List Export)) (st st1 st2 : State) → st1.written ≡ st.written
    → OnEnd r (ArePut was now st1.written.files st2.written.files all) → CutsPuts r was now st1.written.files st2.written.files all → ¬ (r ≡ Err ReadFault) × ¬ (r ≡ Err WriteFault) → HasPut was now st.written.files st2.written.files
has_put r all was now st st1 st2 same put cut faults = subst (λ (w : _). HasPut was now w.files st2.written.files) same (by r put cut faults)
  where
    by : (r : Result (Unit {0}) ExecError) → OnEnd r (ArePut was now st1.written.files st2.written.files all) → CutsPuts r was now st1.written.files st2.written.files all → ¬ (r ≡ Err ReadFault) × ¬ (r ≡ Err WriteFault) → HasPut was now st1.written.files st2.written.files
    by (Ok u) put cut faults = record { files = all; made = put }
    by (Err (Module site code)) put cut faults = record { files = all; made = put }
    by (Err ReadFault) put cut faults = absurd (faults.0 refl)
    by (Err WriteFault) put cut faults = absurd (faults.1 refl)
    by (Err ExportFault) put cut faults = record { files = cut.front; made = cut.made }
    by (Err Memory) put (inl none) faults = record { files = []; made = none }
    by (Err Memory) put (inr before) faults = record { files = before.front; made = before.made }

pub put_behind : (was now : Option (List Export)) (st st1 st2 : State) (r : Result (Unit {0}) ExecError) → HasPut was now st.written.files st1.written.files → OnEnd r (IsGivenBack st1 st2) → OnCut r (IsForgotten st1 st2) → HasPut was now st.written.files st2.written.files
put_behind was now st st1 st2 r h same gone = subst (λ (w : _). HasPut was now st.written.files w.files) (sym (by r same gone)) h
  where
    by : (r : Result (Unit {0}) ExecError) → OnEnd r (IsGivenBack st1 st2) → OnCut r (IsForgotten st1 st2) → st2.written ≡ st1.written
    by (Ok u) same gone = same.written
    by (Err (Module site code)) same gone = same.written
    by (Err ReadFault) same gone = gone.written
    by (Err WriteFault) same gone = gone.written
    by (Err ExportFault) same gone = gone.written
    by (Err Memory) same gone = gone.written

-- ---- whatever is answered

pub fits_behind_cut : (st st1 st2 : State) (r : Result (Unit {0}) ExecError) → StateFits st → OnEnd r (StateFits st1) → OnCut r (IsCutFrom st st1) → OnEnd r (IsGivenBack st1 st2) → OnCut r (IsForgotten st1 st2) → StateFits st2
fits_behind_cut st st1 st2 (Ok u) fits end cut same gone = fits_back st1 st2 same end
fits_behind_cut st st1 st2 (Err (Module site code)) fits end cut same gone = fits_back st1 st2 same end
fits_behind_cut st st1 st2 (Err ReadFault) fits end cut same gone = fits_then st st1 st2 fits cut gone
fits_behind_cut st st1 st2 (Err WriteFault) fits end cut same gone = fits_then st st1 st2 fits cut gone
fits_behind_cut st st1 st2 (Err ExportFault) fits end cut same gone = fits_then st st1 st2 fits cut gone
fits_behind_cut st st1 st2 (Err Memory) fits end cut same gone = fits_then st st1 st2 fits cut gone

pub budget_behind : (st st1 st2 : State) (r : Result (Unit {0}) ExecError) → OnEnd r (st1.at.work.cache.budget ≡ st.at.work.cache.budget) → OnCut r (IsCutFrom st st1) → OnEnd r (IsGivenBack st1 st2) → OnCut r (IsForgotten st1 st2) → st2.at.work.cache.budget ≡ st.at.work.cache.budget
budget_behind st st1 st2 (Ok u) end cut same gone = budget_back st1 st2 same ∙ end
budget_behind st st1 st2 (Err (Module site code)) end cut same gone = budget_back st1 st2 same ∙ end
budget_behind st st1 st2 (Err ReadFault) end cut same gone = gone.budget ∙ cut.budget
budget_behind st st1 st2 (Err WriteFault) end cut same gone = gone.budget ∙ cut.budget
budget_behind st st1 st2 (Err ExportFault) end cut same gone = gone.budget ∙ cut.budget
budget_behind st st1 st2 (Err Memory) end cut same gone = gone.budget ∙ cut.budget

pub links_behind_cut : (st st1 st2 : State) (r : Result (Unit {0}) ExecError) → OnCut r (IsCutFrom st st1) → OnCut r (IsForgotten st1 st2) → OnCut r (st2.links.links ≡ st.links.links)
links_behind_cut st st1 st2 (Ok u) cut gone = tt
links_behind_cut st st1 st2 (Err (Module site code)) cut gone = tt
links_behind_cut st st1 st2 (Err ReadFault) cut gone = ap (λ (l : Linked). l.links) gone.links ∙ cut.links
links_behind_cut st st1 st2 (Err WriteFault) cut gone = ap (λ (l : Linked). l.links) gone.links ∙ cut.links
links_behind_cut st st1 st2 (Err ExportFault) cut gone = ap (λ (l : Linked). l.links) gone.links ∙ cut.links
links_behind_cut st st1 st2 (Err Memory) cut gone = ap (λ (l : Linked). l.links) gone.links ∙ cut.links

pub none_cached : (st1 st2 : State) (r : Result (Unit {0}) ExecError) → OnCut r (IsForgotten st1 st2) → OnCut r (st2.at.work.cache.entries ≡ [])
none_cached st1 st2 (Ok u) gone = tt
none_cached st1 st2 (Err (Module site code)) gone = tt
none_cached st1 st2 (Err ReadFault) gone = gone.entries
none_cached st1 st2 (Err WriteFault) gone = gone.entries
none_cached st1 st2 (Err ExportFault) gone = gone.entries
none_cached st1 st2 (Err Memory) gone = gone.entries

module _ (x : Fixed) (st st1 st2 : State) (effects : List CallTree) (was now : Devices) where
  pub sound_behind_cut : (r : Result (Unit {0}) ExecError) → StateFits st → IsSoundState x st → ExecutesSo x st effects was r st1 now → OnCut r (IsCutFrom st st1) → OnEnd r (IsGivenBack st1 st2) → OnCut r (IsForgotten st1 st2) → IsSoundState x st2
  sound_behind_cut (Ok u) fits sound h cut same gone = sound_back st1 st2 same x h.sound
  sound_behind_cut (Err (Module site code)) fits sound h cut same gone = sound_back st1 st2 same x h.sound
  sound_behind_cut (Err ReadFault) fits sound h cut same gone = sound_then st st1 st2 fits cut gone x sound
  sound_behind_cut (Err WriteFault) fits sound h cut same gone = sound_then st st1 st2 fits cut gone x sound
  sound_behind_cut (Err ExportFault) fits sound h cut same gone = sound_then st st1 st2 fits cut gone x sound
  sound_behind_cut (Err Memory) fits sound h cut same gone = sound_then st st1 st2 fits cut gone x sound

  none_put : st2.written ≡ st1.written → NonePut st was st1 now → NonePut st was st2 now
  none_put e h = record { puts = h.puts; files = ap (λ (w : _). w.files) e ∙ h.files }

  put_before : st2.written ≡ st1.written → (all : List _) → ArePutBefore was.puts now.puts st.written.files st1.written.files all → ArePutBefore was.puts now.puts st.written.files st2.written.files all
  put_before e all h = subst (λ y. ArePutBefore was.puts now.puts st.written.files y.files all) (sym e) h

  pub executes_behind : (r : Result (Unit {0}) ExecError) → ExecutesSo x st effects was r st1 now → OnEnd r (IsGivenBack st1 st2) → OnCut r (IsForgotten st1 st2) → ExecutesSo x st effects was r st2 now
  executes_behind (Ok u) h same gone = executed_back st1 st2 same x st effects was (Ok u) now h
  executes_behind (Err (Module site code)) h same gone = executed_back st1 st2 same x st effects was (Err (Module site code)) now h
  executes_behind (Err ReadFault) h same gone = (h.0, none_put gone.written h.1)
  executes_behind (Err WriteFault) h same gone = (h.0, none_put gone.written h.1)
  executes_behind (Err ExportFault) h same gone = record { printed = h.printed; told = h.told; puts = put_before gone.written _ h.puts }
  executes_behind (Err Memory) (inl (early, none)) same gone = inl (early, none_put gone.written none)
  executes_behind (Err Memory) (inr late) same gone = inr (record { printed = late.printed; told = late.told; puts = put_before gone.written _ late.puts })
