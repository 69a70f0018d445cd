-- What is kept behind an execution is what the machine keeps, fits, and is sound.
use Rattle.std.proofs.Common.{◌≡◌, ℕ, zero, suc, ◌<◌, List, [], ◌∷◌, ◌++◌, map, length, append-nil, Bool, true, false, Option, Some, None, refl, sym, ap, ap₂, ◌∙◌, subst, arith, All}
use Rattle.std.specs.Prelude.{if◌then◌else◌, is_some}
use Rattle.std.proofs.lemmas.List.{map-append}
use Rattle.std.proofs.Math.Logic.{∥∥₁_elim}
use Rattle.std.proofs.Props.{props}
use Rattle.dx_base.specs.declared.code.Code.{Code}
use Rattle.dx_cache.proofs.Places.{cases}
use Rattle.dx_cache.specs.declared.entry.Entry.{Entry}
use Rattle.dx_objects.specs.Runs.{Values}
use Rattle.dx_objects.specs.Values.{value_at}
use Rattle.dx_graph.specs.Graph as plain
use Rattle.dx_graph.specs.Graph.{Node, node_at, MayTake, AreNodes, IsGraph}
use Rattle.dx_graph.specs.Unfolding.{call_at, tree_of, trees_of, calls_of, unfolded}
use Rattle.dx_graph.specs.declared.node.Input.{Input}
use Rattle.dx_graph.specs.declared.node.Input.TheVariants as input
use Rattle.dx_graph.proofs.Unfolding.{unfold_by_inputs}
use Rattle.dx_macros.specs.Tree.{CallTree}
use Rattle.dx_tags.specs.declared.term.Term.{Term}
use Rattle.dx_tags.specs.Closed.{HeldBelow, heads_of, GoesOn}
use Rattle.dx_tags.specs.Files.{FileMap}
use Rattle.dx_links.specs.Denotes.{Around}
use Rattle.dx_links.specs.LinkMap.{LinkMap, Linked}
use Rattle.dx_machine.specs.Machine.{Cleared, tasks_of}
use Rattle.dx_machine.specs.Sound.{IsSound}
use Rattle.dx_machine.proofs.Grows.{tasks-append}
use Rattle.dx_tags.specs.HeldTerms.{held_terms}
use Rattle.dx_links.specs.Emptied.{values_held, all_held}
use Rattle.dx_getting.specs.Bound.{IsBound, AreLinks, BeginHeld}
use Rattle.dx_getting.specs.Terms.{BoundValues}
use Rattle.dx_getting.specs.Told.{Told, Adds}
use Rattle.dx_getting.specs.declared.event.Event.{Event as ShownEvent}
use Rattle.dx_getting.specs.declared.event.Event.TheVariants as shown
use Rattle.dx_getting.specs.Steps.{AreCalls}
use Rattle.dx_getting.specs.Stands.{World, EntriesRight, named, shown_event, world}
use Rattle.dx_demand.specs.Terms.{AreExact}
use Rattle.dx_demand.specs.Forming.{named_terms}
use Rattle.dx_demand.proofs.PortSteps.{nodes_of}
use Rattle.dx_performing.specs.Execution.{execution, after_exports, behind}
use Rattle.dx_performing.specs.Kept.{Kept, after_set_terms, current, is_full, emptied}
use Rattle.dx_performing.specs.Course.{Fixed, At, world_of, around_of, begins, committed, clearing, unless_full, ended, executed}
use Rattle.dx_performing.specs.Meant.{LinksRight}
use Rattle.dx_performing.specs.SoundLinks.{SetsRight}
use Rattle.dx_performing.specs.SoundEntries.{IsLawfulTree, IsLawfulCall, AreLawfulTrees, AreLawfulCalls}
use Rattle.dx_performing.proofs.EntriesSound.{entries_stay_sound}
use Rattle.dx_performing.proofs.Executed.{leaves_what_is_meant}
use Rattle.dx_performing.proofs.LinksSound.{sets_are_right, links_stay_right}
use Rattle.dx_looking.specs.Looking.{AllFit}
use Rattle.dx_looking.specs.Setting.{links_of}
use Rattle.dx_looking.proofs.Growth.{links_same}
use Rattle.dx_ending.specs.Emptying.{kept_empty}
use Rattle.dx_ending.specs.InPlace.{ComeFrom}
use Rattle.dx_ending.proofs.SetLaws.{sets_alike}
use Rattle.dx_ending.proofs.EmptyLaws.{empties_alike}
use Rattle.dx_engine.specs.Gathering.{gathers, error_of}
use Rattle.dx_engine.specs.Running.{ChangesFit}
use Rattle.dx_engine.specs.Keeping.{StateFits, kept_of, setting_of, IsSoundState}
use Rattle.dx_engine.specs.Beginning.{EffectsAre, course_of}
use Rattle.dx_engine.specs.Leaving.{links_behind, ValuesLeft}
use Rattle.dx_engine.specs.declared.gathered.Gathered.{Gathered}
use Rattle.dx_engine.specs.declared.state.State.{State}
use Rattle.dx_engine.proofs.FitsBehind.{behind_fits, held_fits, held_are_exact, held_are_below, begin_held}
use Rattle.dx_engine.proofs.ValuesBehind.{values_behind}

-- ---- the calls of a graph have lawful attributes

input_lawful : (nodes : List Node) (n : ℕ) → ((m : ℕ) → m < n → IsLawfulCall (call_at (calls_of nodes) m)) → (i : Input) → MayTake nodes n i → IsLawfulTree (tree_of (calls_of nodes) i)
input_lawful nodes n f (input.Constant c) h = tt
input_lawful nodes n f (input.Result m result) h = f m h.0

inputs_lawful : (nodes : List Node) (n : ℕ) → ((m : ℕ) → m < n → IsLawfulCall (call_at (calls_of nodes) m)) → (is : List Input) → All (MayTake nodes n) is → AreLawfulTrees (trees_of (calls_of nodes) is)
inputs_lawful nodes n f [] h = tt
inputs_lawful nodes n f (i ∷ is) h = (input_lawful nodes n f i (h 0 i (omega arith)), inputs_lawful nodes n f is (λ k d lt. h (suc k) d (omega (arith, lt))))

call_lawful : (nodes : List Node) → AreNodes nodes → (bound n : ℕ) → n < bound → n < length nodes → IsLawfulCall (call_at (calls_of nodes) n)
call_lawful nodes all zero n lt h = absurd (omega (arith, lt))
call_lawful nodes all (suc bound) n lt h =
    subst IsLawfulCall (sym (unfold_by_inputs nodes all n h))
    ((all n h).cache, inputs_lawful nodes n (λ m below. call_lawful nodes all bound m (omega (arith, lt, below)) (omega (arith, h, below))) (node_at nodes n).inputs (all n h).inputs)

effects_lawful : (nodes : List Node) → AreNodes nodes → (es : List ℕ) → All (λ n. n < length nodes) es → AreLawfulCalls (map (call_at (calls_of nodes)) es)
effects_lawful nodes all [] h = tt
effects_lawful nodes all (n ∷ es) h = (call_lawful nodes all (suc n) n (omega arith) (h 0 n (omega arith)), effects_lawful nodes all es (λ k d lt. h (suc k) d (omega (arith, lt))))

pub lawful_calls : (g : plain.Graph) → ∥ IsGraph g ∥₁ → AreLawfulCalls (unfolded g)
lawful_calls g h = effects_lawful g.nodes (nodes_of g h) g.effects (λ k d lt. ∥∥₁_elim h (hlevel props) (λ is. (is.effects k d lt).0))

-- ---- what is put in place behind the effects of an execution

abbrev pub links_left : State → Gathered → LinkMap
links_left st g = links_behind st.links.links (is_some g.error) g.changes

abbrev pub files_left : State → Gathered → FileMap
files_left st g = after_exports st.written.files (gathers g).exports

-- without an emptying: from st on, whose effects left st'
pub record IsCarried (st st' : State) (g : Gathered) (st2 : State) : Type 0 where
  pub tags : st2.at.tags ≡ st'.at.tags
  pub links : st2.links.links ≡ links_left st g
  pub held : st2.links.held ≡ st.links.held
  pub entries : st2.at.work.cache.entries ≡ st'.at.work.cache.entries
  pub written : st2.written.files ≡ files_left st g

-- with an emptying
pub record IsEmptied (st : State) (g : Gathered) (st2 : State) : Type 0 where
  pub tags : st2.at.tags ≡ held_terms (length (links_left st g))
  pub links : st2.links.links ≡ all_held (links_left st g)
  pub held : st2.links.held ≡ values_held (links_left st g)
  pub entries : st2.at.work.cache.entries ≡ []
  pub written : st2.written.files ≡ files_left st g

-- ---- it fits

pub carried_fits : (st st' st2 : State) (g : Gathered) → StateFits st' → st'.links ≡ st.links → st'.links.held ≡ st.links.held → st2.bound.from ≡ st'.bound.from → ChangesFit st'.at.tags g.changes → IsCarried st st' g st2 → IsBound st2.links.links st2.bound → StateFits st2
carried_fits st st' st2 g f same held from c is bound =
    let links : AllFit st'.at.tags st.links.links = subst (λ (l : Linked). AllFit st'.at.tags l.links) same f.links in
    let calls : AreCalls st'.at.tags st2.at.work.cache.entries = subst (AreCalls st'.at.tags) (sym is.entries) f.entries in
    record {
      exact = subst AreExact (sym is.tags) f.exact;
      held = subst (HeldBelow (length st2.links.held)) (sym is.tags) (subst (λ (vs : Values). HeldBelow (length vs) st'.at.tags) (held ∙ sym is.held) f.held);
      links = subst (λ ts. AllFit ts st2.links.links) (sym is.tags) (subst (AllFit st'.at.tags) (sym is.links) (behind_fits st'.at.tags st.links.links (is_some g.error) g.changes links c));
      bound = bound;
      below = subst (λ n. BeginHeld n st2.at.tags) (sym from) (subst (BeginHeld st'.bound.from) (sym is.tags) f.below);
      entries = subst (λ ts. AreCalls ts st2.at.work.cache.entries) (sym is.tags) calls;
    }

pub emptied_fits : (st st2 : State) (g : Gathered) → IsEmptied st g st2 → st2.bound.from ≡ length (links_left st g) → IsBound st2.links.links st2.bound → StateFits st2
emptied_fits st st2 g is from bound =
    let links = links_left st g in
    record {
      exact = subst AreExact (sym is.tags) (held_are_exact (length links));
      held = subst (HeldBelow (length st2.links.held)) (sym is.tags) (subst (λ (vs : Values). HeldBelow (length vs) (held_terms (length links))) (sym is.held) (held_are_below links));
      links = subst (λ ts. AllFit ts st2.links.links) (sym is.tags) (subst (AllFit (held_terms (length links))) (sym is.links) (held_fits links));
      bound = bound;
      below = subst (λ n. BeginHeld n st2.at.tags) (sym from) (subst (BeginHeld (length links)) (sym is.tags) (begin_held (length links)));
      entries = subst (AreCalls st2.at.tags) (sym is.entries) tt;
    }

-- ---- it is what the machine keeps

some_error : (nodes : List Node) (e : Option (ℕ × Code)) → is_some (error_of nodes e) ≡ is_some e
some_error nodes None = refl
some_error nodes (Some e) = refl

-- what is kept with these links and files, and no emptying
abbrev kept_with : State → LinkMap → FileMap → Values → Kept
kept_with st links files held = record {
  entries = map (named (heads_of st.at.tags)) st.at.work.cache.entries;
  terms = named_terms st.at.tags;
  links = links_of (heads_of st.at.tags) links;
  held = held;
  written = files;
}

module _ (x : Fixed) (st st' st2 : State) (effects : List CallTree) (nodes : List Node) (base : Told) (before : Option (List ℕ)) (g : Gathered) (now : Told) (written : Option (List ℕ)) (are : EffectsAre x st effects nodes base before g st' now written) (fits : StateFits st) (on : GoesOn st.at.tags st'.at.tags) where
  abbrev done : Kept
  done = committed (kept_of st) (execution (world_of x (kept_of st)) effects) (course_of x st effects)

  links_grow : links_of (heads_of st'.at.tags) st.links.links ≡ (kept_of st).links
  links_grow = links_same st.at.tags st'.at.tags on st.links.links fits.links

  links_there : (b : Bool) → links_of (heads_of st'.at.tags) (links_behind st.links.links b g.changes) ≡ (if b then (kept_of st).links else after_set_terms (kept_of st).links (course_of x st effects).sets)
  links_there true = links_grow
  links_there false = sets_alike (heads_of st'.at.tags) st.links.links g.changes ∙ ap₂ after_set_terms links_grow are.sets

  error_there : is_some g.error ≡ is_some (execution (world_of x (kept_of st)) effects).error
  error_there = sym (some_error nodes g.error) ∙ ap is_some are.error

  links_are : links_of (heads_of st'.at.tags) (links_left st g) ≡ done.links
  links_are = links_there (is_some g.error) ∙ ap (λ (b : Bool). if b then (kept_of st).links else after_set_terms (kept_of st).links (course_of x st effects).sets) error_there

  files_are : files_left st g ≡ done.written
  files_are = ap (after_exports st.written.files) are.exports

  pub kept_behind : kept_with st' (links_left st g) (files_left st g) st.links.held ≡ done
  kept_behind = λ i. record {
    entries = are.entries i;
    terms = are.terms i;
    links = links_are i;
    held = st.links.held;
    written = files_are i;
  }

  full_there : (b : Bool) → is_full (named_terms st'.at.tags) ≡ b → is_full done.terms ≡ b
  full_there b full = ap is_full (sym are.terms) ∙ full

  carried_so : is_full (named_terms st'.at.tags) ≡ false → unless_full done ≡ done
  carried_so full = ap (λ (b : Bool). if b then emptied done else done) (full_there false full)

  emptied_so : is_full (named_terms st'.at.tags) ≡ true → unless_full done ≡ emptied done
  emptied_so full = ap (λ (b : Bool). if b then emptied done else done) (full_there true full)

  carried_is : IsCarried st st' g st2 → kept_of st2 ≡ kept_with st' (links_left st g) (files_left st g) st.links.held
  carried_is is = λ i. record {
    entries = map (named (heads_of (is.tags i))) (is.entries i);
    terms = named_terms (is.tags i);
    links = links_of (heads_of (is.tags i)) (is.links i);
    held = is.held i;
    written = is.written i;
  }

  emptied_is : IsEmptied st g st2 → kept_of st2 ≡ kept_empty done (links_left st g)
  emptied_is is = λ i. record {
    entries = map (named (heads_of (is.tags i))) (is.entries i);
    terms = named_terms (is.tags i);
    links = links_of (heads_of (is.tags i)) (is.links i);
    held = is.held i;
    written = (is.written ∙ files_are) i;
  }

  pub kept_carried : is_full (named_terms st'.at.tags) ≡ false → IsCarried st st' g st2 → kept_of st2 ≡ (executed x effects (kept_of st)).kept
  kept_carried full is = carried_is is ∙ kept_behind ∙ sym (carried_so full)

  pub kept_emptied : is_full (named_terms st'.at.tags) ≡ true → IsEmptied st g st2 → kept_of st2 ≡ (executed x effects (kept_of st)).kept
  kept_emptied full is = emptied_is is ∙ sym (empties_alike (heads_of st'.at.tags) (links_left st g) done (sym links_are)) ∙ sym (emptied_so full)

-- ---- it is sound

-- the links are nothing to the entries
right_with : (terms : List Term) (held : Values) (links links' : BoundValues) (files : World) (es : List Entry) →
    EntriesRight (record { terms = terms; links = links; held = held; formed = [] }) files es → EntriesRight (record { terms = terms; links = links'; held = held; formed = [] }) files es
right_with terms held links links' files [] h = tt
right_with terms held links links' files (x ∷ xs) h = (h.0, right_with terms held links links' files xs h.1)

pub right_carried : (st st' st2 : State) (g : Gathered) (files : World) → st'.links.held ≡ st.links.held → IsCarried st st' g st2 → EntriesRight (setting_of st') files st'.at.work.cache.entries → EntriesRight (setting_of st2) files st2.at.work.cache.entries
right_carried st st' st2 g files same is right =
    let held : st'.links.held ≡ st2.links.held = same ∙ sym is.held in
    subst (λ (es : List Entry). EntriesRight (setting_of st2) files es) (sym is.entries)
    (subst (λ (ts : List Term). EntriesRight (record { terms = ts; links = st2.bound.pairs; held = st2.links.held; formed = [] }) files st'.at.work.cache.entries) (sym is.tags)
    (subst (λ (vs : Values). EntriesRight (record { terms = st'.at.tags; links = st2.bound.pairs; held = vs; formed = [] }) files st'.at.work.cache.entries) held
    (right_with st'.at.tags st'.links.held st'.bound.pairs st2.bound.pairs files st'.at.work.cache.entries right)))

pub right_emptied : (st st2 : State) (g : Gathered) (files : World) → IsEmptied st g st2 → EntriesRight (setting_of st2) files st2.at.work.cache.entries
right_emptied st st2 g files is = subst (λ (es : List Entry). EntriesRight (setting_of st2) files es) (sym is.entries) tt

pub around_same : (x : Fixed) (k k' : Kept) → k'.held ≡ k.held → around_of x k' ≡ around_of x k
around_same x k k' e = λ i. record { answer = x.answer; file = x.file; held = value_at (e i) }

-- the links of what the machine keeps
right_behind : (x : Fixed) (st st2 : State) (effects : List CallTree) → IsSoundState x st → kept_of st2 ≡ (executed x effects (kept_of st)).kept → LinksRight (around_of x (kept_of st2)) (kept_of st2).links
right_behind x st st2 effects sound kept = subst (λ (k : Kept). LinksRight (around_of x k) k.links) (sym kept) (links_stay_right x (kept_of st) effects sound.links)

-- of what the machine keeps
pub sound_behind : (x : Fixed) (st st2 : State) (effects : List CallTree) → IsSoundState x st → AreLawfulCalls effects → st2.at.work.cache.budget ≡ st.at.work.cache.budget → kept_of st2 ≡ (executed x effects (kept_of st)).kept → AreLinks st2.links.links st2.bound.pairs → EntriesRight (setting_of st2) (world x.answer x.file) st2.at.work.cache.entries → IsSoundState x st2
sound_behind x st st2 effects sound lawful budget kept values right = record {
  budget = sound.budget ∙ sym budget;
  links = right_behind x st st2 effects sound kept;
  values = values;
  entries = right;
  sound = subst (λ (k : Kept). IsSound (around_of x k) x.budget (begins k).state) (sym kept) (entries_stay_sound x (kept_of st) effects lawful sound.sound);
}

-- ---- all of it

module _ (x : Fixed) (st st' st2 : State) (effects : List CallTree) (nodes : List Node) (base : Told) (before : Option (List ℕ)) (g : Gathered) (now : Told) (written : Option (List ℕ)) (are : EffectsAre x st effects nodes base before g st' now written) (fits : StateFits st) (on : GoesOn st.at.tags st'.at.tags) (sound : IsSoundState x st) (lawful : AreLawfulCalls effects) (budget : st2.at.work.cache.budget ≡ st.at.work.cache.budget) (bound : IsBound st2.links.links st2.bound) where
  -- without an emptying the values are of links before, or of what was set
  values_carried : is_full (named_terms st'.at.tags) ≡ false → IsCarried st st' g st2 → ComeFrom g.changes st.bound.pairs st2.bound.pairs → AreLinks st2.links.links st2.bound.pairs
  values_carried full is from =
      let k = kept_of st in
      let a = around_of x k in
      let right : LinksRight a (links_of (heads_of st2.at.tags) st2.links.links) =
      subst (λ (b : Around). LinksRight b (kept_of st2).links) (around_same x k (kept_of st2) is.held)
      (right_behind x st st2 effects sound (kept_carried x st st' st2 effects nodes base before g now written are fits on full is)) in
      values_behind a (heads_of st'.at.tags) st.links.links st2.links.links g.changes st.bound.pairs st2.bound sound.values
      (subst (LinksRight a) (sym (links_grow x st st' st2 effects nodes base before g now written are fits on)) sound.links)
      (subst (SetsRight a) (sym are.sets) (sets_are_right x k effects sound.links))
      bound from
      (subst (λ (ts : List Term). LinksRight a (links_of (heads_of ts) st2.links.links)) is.tags right)

  pub sound_carried : is_full (named_terms st'.at.tags) ≡ false → st'.links.held ≡ st.links.held → IsCarried st st' g st2 → ComeFrom g.changes st.bound.pairs st2.bound.pairs → IsSoundState x st2
  sound_carried full held is from =
      sound_behind x st st2 effects sound lawful budget (kept_carried x st st' st2 effects nodes base before g now written are fits on full is)
      (values_carried full is from) (right_carried st st' st2 g (world x.answer x.file) held is are.right)

  pub sound_emptied : is_full (named_terms st'.at.tags) ≡ true → IsEmptied st g st2 → AreLinks st2.links.links st2.bound.pairs → IsSoundState x st2
  sound_emptied full is values =
      sound_behind x st st2 effects sound lawful budget (kept_emptied x st st' st2 effects nodes base before g now written are fits on full is)
      values (right_emptied st st2 g (world x.answer x.file) is)

-- ---- its events and runs

-- an emptying runs nothing
pub tasks_stay : (k : Kept) (at : At) → tasks_of (ended k at).events ≡ tasks_of at.state.events
tasks_stay k at =
    tasks-append at.state.events (clearing k)
    ∙ ap (λ ts. tasks_of at.state.events ++ ts) (none (is_full k.terms))
    ∙ append-nil (tasks_of at.state.events)
  where
    none : (b : Bool) → tasks_of (if b then Cleared ∷ [] else []) ≡ []
    none true = refl
    none false = refl

module _ (x : Fixed) (st st' : State) (effects : List CallTree) (nodes : List Node) (base : Told) (before : Option (List ℕ)) (g : Gathered) (now : Told) (written : Option (List ℕ)) (are : EffectsAre x st effects nodes base before g st' now written) where
  abbrev made : Kept
  made = committed (kept_of st) (execution (world_of x (kept_of st)) effects) (course_of x st effects)

  clearing_shown : (b : Bool) → is_full made.terms ≡ b → map shown_event (clearing made) ≡ (if b then shown.Clear ∷ [] else [])
  clearing_shown b full = ap (λ (c : Bool). map shown_event (if c then Cleared ∷ [] else [])) full ∙ by b
    where
      by : (c : Bool) → map shown_event (if c then Cleared ∷ [] else []) ≡ (if c then shown.Clear ∷ [] else [])
      by true = refl
      by false = refl

  pub events_behind : (full : Bool) → is_full (named_terms st'.at.tags) ≡ full → (items : List ShownEvent) → items ≡ st'.at.work.events.items ++ (if full then shown.Clear ∷ [] else []) → items ≡ map shown_event (executed x effects (kept_of st)).events
  events_behind full full_is items is =
      is
      ∙ ap₂ (λ (a b : List ShownEvent). a ++ b) are.events (sym (clearing_shown full (ap is_full (sym are.terms) ∙ full_is)))
      ∙ sym (map-append shown_event (course_of x st effects).state.events (clearing made))

  pub told_behind : Adds base now (tasks_of (executed x effects (kept_of st)).events)
  told_behind = subst (Adds base now) (sym (tasks_stay made (course_of x st effects))) are.told

-- ---- the links and files are as meant

pub current_behind : (x : Fixed) (st st2 : State) (effects : List CallTree) → IsSoundState x st → kept_of st2 ≡ (executed x effects (kept_of st)).kept → current (kept_of st2) ≡ behind (execution (world_of x (kept_of st)) effects) (current (kept_of st))
current_behind x st st2 effects sound kept = ap current kept ∙ leaves_what_is_meant x (kept_of st) effects sound.links

-- ---- all of it, where it may end with an emptying: the links behind it, and what there is then

module _ (st st' st2 : State) (g : Gathered) (links : LinkMap) (full : Bool)
    (links_so : links ≡ links_left st g)
    (tags_are : st2.at.tags ≡ (if full then held_terms (length links) else st'.at.tags))
    (links_are : st2.links.links ≡ (if full then all_held links else links))
    (held_are : st2.links.held ≡ (if full then values_held links else st'.links.held))
    (entries_are : st2.at.work.cache.entries ≡ (if full then [] else st'.at.work.cache.entries))
    (written_is : st2.written.files ≡ files_left st g)
    (held_same : st'.links.held ≡ st.links.held) where
  is_carried : full ≡ false → IsCarried st st' g st2
  is_carried off = record {
    tags = subst (λ (b : Bool). st2.at.tags ≡ (if b then held_terms (length links) else st'.at.tags)) off tags_are;
    links = subst (λ (b : Bool). st2.links.links ≡ (if b then all_held links else links)) off links_are ∙ links_so;
    held = subst (λ (b : Bool). st2.links.held ≡ (if b then values_held links else st'.links.held)) off held_are ∙ held_same;
    entries = subst (λ (b : Bool). st2.at.work.cache.entries ≡ (if b then [] else st'.at.work.cache.entries)) off entries_are;
    written = written_is;
  }

  is_emptied : full ≡ true → IsEmptied st g st2
  is_emptied so = record {
    tags = subst (λ (b : Bool). st2.at.tags ≡ (if b then held_terms (length links) else st'.at.tags)) so tags_are ∙ ap (λ (ls : LinkMap). held_terms (length ls)) links_so;
    links = subst (λ (b : Bool). st2.links.links ≡ (if b then all_held links else links)) so links_are ∙ ap all_held links_so;
    held = subst (λ (b : Bool). st2.links.held ≡ (if b then values_held links else st'.links.held)) so held_are ∙ ap values_held links_so;
    entries = subst (λ (b : Bool). st2.at.work.cache.entries ≡ (if b then [] else st'.at.work.cache.entries)) so entries_are;
    written = written_is;
  }

  pub fits_behind : StateFits st' → st'.links ≡ st.links → st2.bound.from ≡ (if full then length links else st'.bound.from) → ChangesFit st'.at.tags g.changes → IsBound st2.links.links st2.bound → StateFits st2
  fits_behind f same from c bound = cases full
      (λ so. emptied_fits st st2 g (is_emptied so) (from_at true so ∙ ap length links_so) bound)
      (λ off. carried_fits st st' st2 g f same held_same (from_at false off) c (is_carried off) bound)
    where
      from_at : (b : Bool) → full ≡ b → st2.bound.from ≡ (if b then length links else st'.bound.from)
      from_at b e = from ∙ ap (λ (y : Bool). if y then length links else st'.bound.from) e

  module _ (x : Fixed) (effects : List CallTree) (nodes : List Node) (base : Told) (before : Option (List ℕ)) (now : Told) (written : Option (List ℕ)) (are : EffectsAre x st effects nodes base before g st' now written) (fits : StateFits st) (on : GoesOn st.at.tags st'.at.tags) (full_is : is_full (named_terms st'.at.tags) ≡ full) where
    pub kept_there : kept_of st2 ≡ (executed x effects (kept_of st)).kept
    kept_there = cases full
        (λ so. kept_emptied x st st' st2 effects nodes base before g now written are fits on (full_is ∙ so) (is_emptied so))
        (λ off. kept_carried x st st' st2 effects nodes base before g now written are fits on (full_is ∙ off) (is_carried off))

    pub sound_there : IsSoundState x st → AreLawfulCalls effects → st2.at.work.cache.budget ≡ st.at.work.cache.budget → IsBound st2.links.links st2.bound → ValuesLeft st.bound.pairs g.changes full st2 → IsSoundState x st2
    sound_there sound lawful budget bound values = cases full
        (λ so. sound_emptied x st st' st2 effects nodes base before g now written are fits on sound lawful budget bound (full_is ∙ so) (is_emptied so) (values_at true so))
        (λ off. sound_carried x st st' st2 effects nodes base before g now written are fits on sound lawful budget bound (full_is ∙ off) held_same (is_carried off) (values_at false off))
      where
        values_at : (b : Bool) → full ≡ b → ValuesLeft st.bound.pairs g.changes b st2
        values_at b e = subst (λ (b : Bool). ValuesLeft st.bound.pairs g.changes b st2) e values
