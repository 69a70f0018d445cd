-- From what is kept to where the effects begin, and from where they end to what is kept.
use Rattle.std.proofs.Common.{true≢false, ◌≡◌, inl, ℕ, List, [], ◌∷◌, length, map, Option, Some, None, refl, sym, ap, subst, arith}
use Rattle.std.specs.Prelude.{Result, Ok, Err, OnOk, IfOk}
use Rattle.dx_base.specs.declared.code.Code.{Code}
use Rattle.dx_io.specs.Devices.{FileMap as InputFiles}
use Rattle.dx_graph.specs.Graph.{Node}
use Rattle.dx_macros.specs.Tree.{CallTree}
use Rattle.dx_tags.specs.declared.term.Term.{Term}
use Rattle.dx_tags.specs.Closed.{heads_of, GoesOn}
use Rattle.dx_tags.proofs.Growth.{held_grows}
use Rattle.dx_links.specs.LinkMap.{Linked}
use Rattle.dx_machine.specs.Machine.{State as Machine}
use Rattle.dx_getting.specs.Told.{Told}
use Rattle.dx_getting.proofs.TellLaws.{adds_none, grows_nothing}
use Rattle.std.specs.Result.{IsErr}
use Rattle.dx_effects.proofs.NextInput.{by_budget}
use Rattle.dx_getting.specs.Stands.{Answers, EntriesRight, KnownRight, FormedCalls, World, known_calls, world}
use Rattle.dx_cache.specs.declared.entry.Entry.{Entry}
use Rattle.dx_demand.specs.Forming.{called_at, named_terms, SeenFormed}
use Rattle.dx_demand.specs.Calling.{SeenMet}
use Rattle.dx_demand.specs.Found.{IsClosed}
use Rattle.dx_demand.specs.Steps.{SeenFits, SeenRight}
use Rattle.dx_demand.specs.declared.seen.Seen.{Seen}
use Rattle.dx_meaning.specs.Forming.{Formings}
use Rattle.dx_performing.specs.Kept.{Kept}
use Rattle.dx_performing.specs.Course.{Fixed, begins, around_of, frame_with}
use Rattle.dx_looking.specs.Setting.{links_of, nodes_in, told_terms, sight_in, setting_in, fixed}
use Rattle.dx_looking.specs.Looking.{FromHere, AllFit, AreValues, AllDenote, AllReady, IsLooking, StandsAt}
use Rattle.dx_looking.specs.declared.setup.Setup.{Setup}
use Rattle.dx_looking.specs.declared.progress.Progress.{Progress}
use Rattle.dx_getting.specs.Bound.{IsBound, AreLinks, BeginHeld}
use Rattle.dx_getting.specs.Terms.{BoundValues, Table}
use Rattle.dx_objects.specs.Runs.{Values}
use Rattle.dx_engine.specs.Running.{RunsSo, ErrorFits, GatheredFits}
use Rattle.dx_engine.specs.Keeping.{StateFits, kept_of, IsSoundState}
use Rattle.dx_engine.specs.Beginning.{FromState, EffectsSo, NodeFits, GathersFit, IsFresh, standing_at}
use Rattle.dx_engine.specs.declared.gathered.Gathered.{Gathered}
use Rattle.dx_engine.specs.declared.short.Short.{Short}
use Rattle.dx_engine.specs.declared.state.State.{State}

-- links and the calls that were formed make no difference to entries
entries_by : (terms : List Term) (links links' : BoundValues) (held : Values) (formed formed' : FormedCalls) (files : World) (es : List Entry) → EntriesRight (record { terms = terms; links = links; held = held; formed = formed }) files es → EntriesRight (record { terms = terms; links = links'; held = held; formed = formed' }) files es
entries_by terms links links' held formed formed' files [] r = tt
entries_by terms links links' held formed formed' files (x ∷ xs) r = (r.0, entries_by terms links links' held formed formed' files xs r.1)

pub entries_alike : (terms : List Term) (links links' : BoundValues) (held held' : Values) → held ≡ held' → (formed formed' : FormedCalls) (files : World) (es : List Entry) → EntriesRight (record { terms = terms; links = links; held = held; formed = formed }) files es → EntriesRight (record { terms = terms; links = links'; held = held'; formed = formed' }) files es
entries_alike terms links links' held held' e formed formed' files es r = subst (λ h. EntriesRight (record { terms = terms; links = links'; held = h; formed = formed' }) files es) e (entries_by terms links links' held formed formed' files es r)

-- ---- at the beginning

-- the setup has what is kept
pub record IsSetup (setup : Setup) (st : State) : Type 0 where
  pub links : setup.links.now ≡ st.links
  pub bound : setup.bound.now ≡ st.bound
  pub written : setup.written.now ≡ st.written

held_is : (setup : Setup) (st : State) → IsSetup setup st → setup.links.now.held ≡ st.links.held
held_is setup st is = ap (λ (l : Linked). l.held) is.links

module _ (setup : Setup) (st : State) (is : IsSetup setup st) (seen : Seen) (at : Progress) (fresh : IsFresh seen st.at.tags st.at.work.cache at) where
  -- what begins, in the words of what is kept
  abbrev at_first : Progress
  at_first = record { tags = st.at.tags; seen = seen; told = at.told; work = record { cache = st.at.work.cache; known = at.work.known; events = at.work.events } }

  same : at ≡ at_first
  same = λ i. record { tags = fresh.tags i; seen = fresh.seen i; told = at.told; work = record { cache = fresh.cache i; known = at.work.known; events = at.work.events } }

  pub looking_begun : StateFits st → SeenFits (nodes_in setup) st.at.tags seen → IsClosed setup.links.now.links st.at.tags seen → SeenRight (sight_in setup at_first) (nodes_in setup) st.at.tags seen → SeenFormed (sight_in setup at_first) (nodes_in setup) st.at.tags seen → SeenMet (sight_in setup at_first) (nodes_in setup) seen → IsLooking setup at
  looking_begun f fits closed right formed met = subst (IsLooking setup) (sym same) (record {
    exact = f.exact;
    links = subst (λ l. AllFit st.at.tags l.links) (sym is.links) f.links;
    bound = subst (IsBound setup.links.now.links) (sym is.bound) (subst (λ l. IsBound l.links st.bound) (sym is.links) f.bound);
    below = subst (λ (t : Table). BeginHeld t.from st.at.tags) (sym is.bound) f.below;
    entries = f.entries;
    told = subst (AreValues st.at.tags) (sym fresh.told) tt;
    fits = fits;
    closed = closed;
    right = right;
    formed = formed;
    met = met;
  })

  -- the machine's state at the beginning
  pub stands_begun : (x : Fixed) → IsSoundState x st → seen.memo.formed.entries ≡ [] → (base : Told) → StandsAt setup x (kept_of st) base at base (begins (kept_of st)).state (begins (kept_of st)).formings
  stands_begun x sound uncalled base = subst (λ y. StandsAt setup x (kept_of st) base y base (begins (kept_of st)).state (begins (kept_of st)).formings) (sym same) (record {
    kept = record { links = ap (λ l. links_of (heads_of st.at.tags) l.links) (sym is.links); values = values_first x sound; held = sym (held_is setup st is); written = ap (λ w. w.files) (sym is.written) };
    work = record {
      sound = record { entries = entries_first x sound; known = subst (KnownRight (setting_in setup at_first) (world x.answer x.file)) (sym fresh.known) tt };
      entries = refl;
      known = ap (known_calls (heads_of st.at.tags)) (sym fresh.known);
      events = sym fresh.events;
      told = adds_none base;
    };
    formings = ap (λ es. record { terms = named_terms st.at.tags; calls = map (called_at (nodes_in setup) (heads_of st.at.tags)) es }) uncalled;
    sound = sound.sound;
    told = subst (λ ts. AllDenote (around_of x (kept_of st)) (told_terms (heads_of st.at.tags) ts)) (sym fresh.told) tt;
    ready = subst (λ ts. AllReady (frame_with x (kept_of st) []) (begins (kept_of st)).state (told_terms (heads_of st.at.tags) ts)) (sym fresh.told) tt;
  })
    where
      values_first : (x : Fixed) → IsSoundState x st → AreLinks setup.links.now.links setup.bound.now.pairs
      values_first x sound = subst (λ l. AreLinks l.links setup.bound.now.pairs) (sym is.links) (subst (λ b. AreLinks st.links.links b.pairs) (sym is.bound) sound.values)

      entries_first : (x : Fixed) → IsSoundState x st → EntriesRight (setting_in setup at_first) (world x.answer x.file) st.at.work.cache.entries
      entries_first x sound = entries_alike st.at.tags st.bound.pairs setup.bound.now.pairs st.links.held setup.links.now.held (sym (held_is setup st is)) [] (setting_in setup at_first).formed (world x.answer x.file) st.at.work.cache.entries sound.entries

-- ---- at the end

-- what the effects come to, in the words of what is kept
pub effects_so : (setup : Setup) (st : State) (is : IsSetup setup st) (x : Fixed) (base : Told) (all : List CallTree) (before : Option (List ℕ)) (r : Result Gathered Short) (at : Progress) (now : Told) (written : Option (List ℕ)) →
    RunsSo setup x (kept_of st) base all (begins (kept_of st)).state (begins (kept_of st)).formings before r at now written → EffectsSo x st all (nodes_in setup) base before r (standing_at st at) now written
effects_so setup st is x base all before (Ok g) at now written h = record {
  printed = h.printed;
  exports = h.exports;
  error = h.error;
  sets = h.sets;
  terms = ap (λ (f : Formings). f.terms) h.stands.formings;
  entries = sym h.stands.work.entries;
  events = sym h.stands.work.events;
  told = h.stands.work.told;
  right = entries_alike at.tags setup.bound.now.pairs st.bound.pairs setup.links.now.held st.links.held (held_is setup st is) (setting_in setup at).formed [] (world x.answer x.file) at.work.cache.entries h.stands.work.sound.entries;
  sound = h.stands.sound;
}
effects_so setup st is x base all before (Err short) at now written h = h

-- it was cut short before anything was done
pub nothing_done : (x : Fixed) (st : State) (all : List CallTree) (nodes : List Node) (base : Told) (before : Option (List ℕ)) (r : Result Gathered Short) → IsErr r → (st' : State) → EffectsSo x st all nodes base before r st' base before
nothing_done x st all nodes base before (Ok g) e st' = absurd (true≢false (sym e))
nothing_done x st all nodes base before (Err short) e st' = record {
  whole = [];
  next = [];
  rest = all;
  all = refl;
  few = omega arith;
  front = [];
  left = [];
  text = refl;
  printed = grows_nothing before;
  told = inl (adds_none base);
}

-- ---- what fits

pub state_fits : (setup : Setup) (st : State) (is : IsSetup setup st) → StateFits st → (r : Result Gathered Short) (at : Progress) → GoesOn st.at.tags at.tags → OnOk r (IsLooking setup at) → OnOk r (StateFits (standing_at st at))
state_fits setup st is f (Ok g) at on l = record {
  exact = l.exact;
  held = held_grows (length st.links.held) st.at.tags at.tags on f.held;
  links = subst (λ y. AllFit at.tags y.links) is.links l.links;
  bound = subst (IsBound st.links.links) is.bound (subst (λ y. IsBound y.links setup.bound.now) is.links l.bound);
  below = subst (λ (t : Table). BeginHeld t.from at.tags) is.bound l.below;
  entries = l.entries;
}
state_fits setup st is f (Err short) at on l = tt

error_fits : (setup : Setup) (e : Option (ℕ × Code)) → ErrorFits setup e → NodeFits (nodes_in setup) e
error_fits setup None h = tt
error_fits setup (Some e) h = h

pub gathers_fit : (setup : Setup) (st : State) (r : Result Gathered Short) (at : Progress) → IfOk r (λ g. GatheredFits setup at g) → IfOk r (λ g. GathersFit (nodes_in setup) (standing_at st at) g)
gathers_fit setup st (Ok g) at h = record { error = error_fits setup g.error h.error; changes = h.changes }
gathers_fit setup st (Err short) at h = tt

-- what the effects come to from here
abbrev pub RunsHere : Setup → List CallTree → Option (List ℕ) → Result Gathered Short → Progress → Told → Option (List ℕ) → Fixed → Kept → Told → Machine → Formings → Type 0
RunsHere setup all before r at now written x k base s f = RunsSo setup x k base all s f before r at now written

-- from what is kept to what the effects come to
pub effects_from : (setup : Setup) (st : State) (is : IsSetup setup st) (seen : Seen) (at : Progress) → IsFresh seen st.at.tags st.at.work.cache at → seen.memo.formed.entries ≡ [] → (answer : Answers) (content : Option InputFiles) (base : Told) (all : List CallTree) (before : Option (List ℕ)) (r : Result Gathered Short) (at' : Progress) (now : Told) (written : Option (List ℕ)) →
    FromHere setup answer content at base (RunsHere setup all before r at' now written) → (st' : State) → st' ≡ standing_at st at' → FromState answer content st (λ x. EffectsSo x st all (nodes_in setup) base before r st' now written)
effects_from setup st is seen at fresh uncalled answer content base all before r at' now written h st' e = λ map ec sound.
    let x = fixed answer map st.at.work.cache.budget in
    subst (λ y. EffectsSo x st all (nodes_in setup) base before r y now written) (sym e)
    (effects_so setup st is x base all before r at' now written
    (by_budget setup answer content at base (RunsHere setup all before r at' now written) h map ec st.at.work.cache.budget (ap (λ y. y.budget) fresh.cache) (kept_of st) sound.links base (begins (kept_of st)).state (begins (kept_of st)).formings
    (stands_begun setup st is seen at fresh x sound uncalled base)))
