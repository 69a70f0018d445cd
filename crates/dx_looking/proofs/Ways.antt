-- On the way of looking at an input: what was done, and what is left.
use Rattle.std.proofs.Common.{true≢false, ◌≡◌, ℕ, List, [], ◌∷◌, true, cond, Option, Some, None, refl, sym, ap, ◌∙◌, subst}
use Rattle.std.specs.Prelude.{option_map, Result, Ok, Err}
use Rattle.dx_tags.specs.Files.{content_of}
use Rattle.dx_resuming.specs.Halting.{HaltKept}
use Rattle.std.specs.Map.{lookup}
use Rattle.std.specs.Result.{IsErr}
use Rattle.dx_base.specs.declared.code.Code.{Code}
use Rattle.dx_cache.proofs.Places.{cases}
use Rattle.dx_macros.specs.Tree.{Tree}
use Rattle.dx_tags.specs.Closed.{ValueTerm, ConstantTerm, HeldTerm, ResultTerm, FileTerm, heads_of, value_term, GoesOn}
use Rattle.dx_tags.specs.declared.term.Term.{Term}
use Rattle.dx_tags.specs.declared.term.ValueTag.{ValueTag}
use Rattle.dx_links.specs.Denotes.{Around, denotes}
use Rattle.dx_links.specs.Getting.{same_value}
use Rattle.dx_machine.specs.Machine.{FormedCall, Frame, State, Got, Went, Stopped, and_then, state_at, tasks_of, get, get_all}
use Rattle.dx_machine.proofs.SameTerms.{value_is}
use Rattle.dx_machine.proofs.Grows.{RunsGrow, all_grow}
use Rattle.dx_getting.specs.Told.{Told}
use Rattle.dx_getting.proofs.TellLaws.{some_later}
use Rattle.dx_getting.specs.Stands.{Answers, world}
use Rattle.dx_io.specs.Devices.{FileMap as InputFiles}
use Rattle.dx_demand.specs.Terms.{IsValue}
use Rattle.dx_demand.specs.Memo.{formed_of, site_of}
use Rattle.dx_demand.specs.Found.{IsFound}
use Rattle.dx_demand.specs.Forming.{formings}
use Rattle.dx_demand.specs.declared.seen.Seen.{Seen}
use Rattle.dx_demand.proofs.PortSteps.{more_itself}
use Rattle.dx_meaning.specs.Outcome.{Value}
use Rattle.dx_meaning.specs.Scan.{Sight, IsOff, Stops, Needs, Forms, Ends, scan}
use Rattle.dx_meaning.specs.More.{More, Keeps}
use Rattle.dx_meaning.specs.Forming.{Formings, FormsKeep, forms, after}
use Rattle.dx_meaning.proofs.Keeping.{scan_keeps, forms_kept}
use Rattle.dx_meaning.proofs.FormsStaying.{forms_keep, forms_once}
use Rattle.dx_performing.specs.Alike.{SameCalls}
use Rattle.dx_performing.specs.Kept.{Kept, Link, link_in}
use Rattle.dx_performing.specs.Course.{Fixed, sight_of, around_of, frame_with, value_or_none, formed_calls, as_terms}
use Rattle.dx_performing.specs.Meant.{LinksRight}
use Rattle.dx_performing.specs.Resuming.{is_ready, ToldIsReady, Resumes}
use Rattle.dx_performing.specs.Selectors.{selectors}
use Rattle.dx_performing.proofs.Resumed.{looking_resumes}
use Rattle.dx_resuming.proofs.Halted.{halts_alike}
use Rattle.dx_looking.specs.Setting.{TermValues, nodes_in, told_terms, sight_in, setting_in, fixed}
use Rattle.dx_looking.specs.Looking.{IsLooking, AllDenote, AllReady, StandsAt, FromHere, HoweverFormed, GoesTo, StopsAt, IsCutIn, LooksSo, NeedsAlike, TellsSo}
use Rattle.dx_looking.specs.declared.cut.Cut.{Cut}
use Rattle.dx_looking.specs.declared.looked.Looked.{Looked}
use Rattle.dx_looking.specs.declared.looked.Looked.TheVariants as looked
use Rattle.dx_looking.specs.declared.looked.Refusal.{Refusal}
use Rattle.dx_looking.specs.declared.setup.Setup.{Setup}
use Rattle.dx_looking.specs.declared.progress.Progress.{Progress}
use Rattle.dx_looking.proofs.Bridge.{gets_same, same_from}
use Rattle.dx_looking.proofs.Cutting.{cut_now}
use Rattle.dx_looking.proofs.Growth.{links_same, told_same, stands_grow}
use Rattle.dx_looking.proofs.SelectorGot.{same_itself}

-- ---- what is told is told in full

found_denotes : (a : Around) (xs : TermValues) → AllDenote a xs → (u : ValueTerm) (v : Value) → lookup (same_value u) xs ≡ Some v → denotes a u ≡ Ok v
found_denotes a [] h u v e = cc
found_denotes a (x ∷ xs) h u v e = cases (same_value u x.0)
    (λ q. let same : x.1 ≡ v = (let o : Some x.1 ≡ Some v = subst (λ b. cond b (Some x.1) (lookup (same_value u) xs) ≡ Some v) q e in cc) in ap (denotes a) (value_is u x.0 q) ∙ h.0 ∙ ap Ok same)
    (λ q. found_denotes a xs h.1 u v (subst (λ b. cond b (Some x.1) (lookup (same_value u) xs) ≡ Some v) q e))

found_ready : (k : Frame) (s : State) (xs : TermValues) → AllReady k s xs → (u : ValueTerm) (v : Value) → lookup (same_value u) xs ≡ Some v → is_ready k s u ≡ true
found_ready k s [] h u v e = cc
found_ready k s (x ∷ xs) h u v e = cases (same_value u x.0)
    (λ q. subst (λ t. is_ready k s t ≡ true) (sym (value_is u x.0 q)) h.0)
    (λ q. found_ready k s xs h.1 u v (subst (λ b. cond b (Some x.1) (lookup (same_value u) xs) ≡ Some v) q e))

ready_formed : (x : Fixed) (k : Kept) (fs gs : List FormedCall) (s : State) (u : ValueTerm) → is_ready (frame_with x k fs) s u ≡ is_ready (frame_with x k gs) s u
ready_formed x k fs gs s (ConstantTerm c) = refl
ready_formed x k fs gs s (HeldTerm n) = refl
ready_formed x k fs gs s (FileTerm bytes) = refl
ready_formed x k fs gs s (ResultTerm result c) = refl

pub told_in_full : (setup : Setup) (x : Fixed) (k : Kept) (base : Told) (at : Progress) (now : Told) (s : State) (f : Formings) → StandsAt setup x k base at now s f → More (sight_in setup at) (sight_of x k)
told_in_full setup x k base at now s f st = record {
  linked = λ i key. option_map (λ (l : Link). l.term) (link_in (st.kept.links i) key);
  written = λ i name. content_of name (st.kept.written i);
  told = λ u v e. ap value_or_none (found_denotes (around_of x k) (told_terms (heads_of at.tags) at.told) st.told u v e);
}

told_ready : (setup : Setup) (x : Fixed) (k : Kept) (base : Told) (at : Progress) (now : Told) (s : State) (f : Formings) → StandsAt setup x k base at now s f → (later : List FormedCall) → ToldIsReady (frame_with x k later) s (sight_in setup at)
told_ready setup x k base at now s f st later = λ u v e. ready_formed x k later [] s u ∙ found_ready (frame_with x k []) s (told_terms (heads_of at.tags) at.told) st.ready u v e

-- ---- on the way

pub record OnTheWay (setup : Setup) (x : Fixed) (k : Kept) (base : Told) (t : Tree) (s : State) (f : Formings) (at : Progress) (now : Told) : Type 0 where
  pub state : State
  pub formed : Formings
  pub stands : StandsAt setup x k base at now state formed
  pub same : after (forms (sight_of x k) t) formed ≡ after (forms (sight_of x k) t) f
  pub gets : HoweverFormed x k (after (forms (sight_of x k) t) f) (λ frame. get_all frame (as_terms (selectors (sight_of x k) t)) s ≡ get_all frame (as_terms (selectors (sight_of x k) t)) state)

pub begun : (setup : Setup) (x : Fixed) (k : Kept) (base : Told) (t : Tree) (s : State) (f : Formings) (at : Progress) (now : Told) → StandsAt setup x k base at now s f → OnTheWay setup x k base t s f at now
begun setup x k base t s f at now st = record { state = s; formed = f; stands = st; same = refl; gets = λ later h. refl }

-- ---- behind a resolve

abbrev pub with_seen : Progress → List Term → Seen → Progress
with_seen at tags seen = record { tags = tags; seen = seen; told = at.told; work = at.work }

pub stands_on : (setup : Setup) (x : Fixed) (k : Kept) (base : Told) (at : Progress) (now : Told) (s : State) (f : Formings) (tags : List Term) (seen : Seen) → IsLooking setup at → GoesOn at.tags tags → StandsAt setup x k base at now s f →
    StandsAt setup x k base (with_seen at tags seen) now s (formings (nodes_in setup) tags seen.memo)
stands_on setup x k base at now s f tags seen l g st =
    let same_told = told_same at.tags tags g at.told l.told in
    record {
      kept = record { links = st.kept.links ∙ sym (links_same at.tags tags g setup.links.now.links l.links); values = st.kept.values; held = st.kept.held; written = st.kept.written };
      work = stands_grow (setting_in setup at) (world x.answer x.file) tags (setting_in setup (with_seen at tags seen)).formed g at.work base now s st.work;
      formings = refl;
      sound = st.sound;
      told = subst (AllDenote (around_of x k)) (sym same_told) st.told;
      ready = subst (AllReady (frame_with x k []) s) (sym same_told) st.ready;
    }

pub resolved_on : (setup : Setup) (x : Fixed) (k : Kept) (base : Told) (t : Tree) (s : State) (f : Formings) (at : Progress) (now : Told) (tags : List Term) (seen : Seen) → IsLooking setup at → GoesOn at.tags tags →
    formings (nodes_in setup) tags seen.memo ≡ after (forms (sight_in setup at) t) (formings (nodes_in setup) at.tags at.seen.memo) → OnTheWay setup x k base t s f at now → OnTheWay setup x k base t s f (with_seen at tags seen) now
resolved_on setup x k base t s f at now tags seen l g e w = record {
  state = w.state;
  formed = formings (nodes_in setup) tags seen.memo;
  stands = stands_on setup x k base at now w.state w.formed tags seen l g w.stands;
  same =
      ap (after (forms (sight_of x k) t)) (e ∙ ap (after (forms (sight_in setup at) t)) w.stands.formings)
      ∙ forms_once (sight_in setup at) (sight_of x k) (told_in_full setup x k base at now w.state w.formed w.stands) t w.formed ∙ w.same;
  gets = w.gets;
}

-- the same for what a resolve leaves
pub resolved_way : (setup : Setup) (x : Fixed) (k : Kept) (base : Told) (t : Tree) (s : State) (f : Formings) (at at1 : Progress) (now : Told) → IsLooking setup at → at1.told ≡ at.told → at1.work ≡ at.work → GoesOn at.tags at1.tags → sight_in setup at1 ≡ sight_in setup at →
    formings (nodes_in setup) at1.tags at1.seen.memo ≡ after (forms (sight_in setup at1) t) (formings (nodes_in setup) at.tags at.seen.memo) → OnTheWay setup x k base t s f at now → OnTheWay setup x k base t s f at1 now
resolved_way setup x k base t s f at at1 now l et ew g es e w =
    let same : at1 ≡ with_seen at at1.tags at1.seen = λ i. record { tags = at1.tags; seen = at1.seen; told = et i; work = ew i } in
    subst (λ y. OnTheWay setup x k base t s f y now) (sym same)
    (resolved_on setup x k base t s f at now at1.tags at1.seen l g (e ∙ ap (λ y. after (forms y t) (formings (nodes_in setup) at.tags at.seen.memo)) es) w)

-- what is true from here is so with the budget as it was
pub use_here : (setup : Setup) (answer : Answers) (content : Option InputFiles) (at : Progress) (now : Told) (P : Fixed → Kept → Told → State → Formings → Type 0) → FromHere setup answer content at now P → (n : ℕ) → at.work.cache.budget ≡ n → (map : InputFiles) → content ≡ Some map →
    (k : Kept) → LinksRight (around_of (fixed answer map n) k) k.links → (base : Told) (s : State) (f : Formings) → StandsAt setup (fixed answer map n) k base at now s f → P (fixed answer map n) k base s f
use_here setup answer content at now P h n e map ec =
    subst (λ m. (k : Kept) → LinksRight (around_of (fixed answer map m) k) k.links → (base : Told) (s : State) (f : Formings) → StandsAt setup (fixed answer map m) k base at now s f → P (fixed answer map m) k base s f) e (h map ec)

-- to form it again changes nothing
pub formed_once : (s : Sight) (t : Tree) (was now : Formings) → now ≡ after (forms s t) was → after (forms s t) now ≡ now
formed_once s t was now e = ap (after (forms s t)) e ∙ forms_once s s (more_itself s) t was ∙ sym e

-- what was cut short needs nothing
pub cut_alike : (setup : Setup) (x : Fixed) (k : Kept) (t : Tree) (r : Result Looked Cut) → IsErr r → (at : Progress) → NeedsAlike setup x k t r at
cut_alike setup x k t (Ok how) e at = absurd (true≢false (sym e))
cut_alike setup x k t (Err cut) e at = tt

-- ---- the ends

module _ (setup : Setup) (x : Fixed) (k : Kept) (base : Told) (t : Tree) (s : State) (f : Formings) (at : Progress) (now : Told) (w : OnTheWay setup x k base t s f at now) where
  abbrev sight : Sight
  sight = sight_in setup at

  abbrev full : Sight
  full = sight_of x k

  more : More sight full
  more = told_in_full setup x k base at now w.state w.formed w.stands

  -- by what is told nothing more is formed
  abbrev IsFormed : Type 0
  IsFormed = after (forms sight t) w.formed ≡ w.formed

  whole_formed : IsFormed → forms full t ≡ forms sight t → w.formed ≡ after (forms full t) f
  whole_formed d e = sym d ∙ ap (λ fs. after fs w.formed) (sym e) ∙ w.same

  stands_whole : w.formed ≡ after (forms full t) f → StandsAt setup x k base at now w.state (after (forms full t) f)
  stands_whole e = subst (StandsAt setup x k base at now w.state) e w.stands

  -- all selectors were got
  gets_all : w.formed ≡ after (forms full t) f → (later : List FormedCall) → SameCalls (formed_calls (after (forms full t) f)) later → get_all (frame_with x k later) (as_terms (selectors full t)) w.state ≡ Went w.state →
      GoesTo (λ s'. StandsAt setup x k base at now s' (after (forms full t) f)) (get_all (frame_with x k later) (as_terms (selectors full t)) s)
  gets_all e later same went = subst (GoesTo (λ s'. StandsAt setup x k base at now s' (after (forms full t) f))) (sym (w.gets later same ∙ went)) (stands_whole e)

  resumes : (later : List FormedCall) → Resumes (frame_with x k later) w.state (scan sight t) (selectors full t)
  resumes later = looking_resumes (frame_with x k later) w.state sight full more (told_ready setup x k base at now w.state w.formed w.stands later) t

  pub ends_with_value : IsFormed → (tag : ValueTag) → scan sight t ≡ Forms (value_term (heads_of at.tags) tag) → LooksSo setup x k base t s f (Ok (looked.Value tag)) at now
  ends_with_value d tag e =
      let formed = whole_formed d (subst (λ y. FormsKeep y (forms sight t) (forms full t)) e (forms_keep sight full more t)) in (
        forms_kept (scan sight t) (scan full t) (value_term (heads_of at.tags) tag) (scan_keeps sight full more t) e,
        λ later same. gets_all formed later same (subst (λ y. Resumes (frame_with x k later) w.state y (selectors full t)) e (resumes later)),
      )

  pub ends_off : IsFormed → scan sight t ≡ Ends IsOff → LooksSo setup x k base t s f (Ok looked.Off) at now
  ends_off d e =
      let formed = whole_formed d (subst (λ y. FormsKeep y (forms sight t) (forms full t)) e (forms_keep sight full more t)) in (
        subst (λ y. Keeps y (scan full t)) e (scan_keeps sight full more t),
        λ later same. gets_all formed later same (subst (λ y. Resumes (frame_with x k later) w.state y (selectors full t)) e (resumes later)),
      )

  pub ends_halted : IsFormed → (n : ℕ) (code : Code) → scan sight t ≡ Ends (Stops (site_of (nodes_in setup) n) code) → LooksSo setup x k base t s f (Ok (looked.Halt n code)) at now
  ends_halted d n code e =
      let formed = whole_formed d (subst (λ y. FormsKeep y (forms sight t) (forms full t)) e (forms_keep sight full more t)) in (
        subst (λ y. Keeps y (scan full t)) e (scan_keeps sight full more t),
        λ later same. gets_all formed later same (subst (λ y. Resumes (frame_with x k later) w.state y (selectors full t)) e (resumes later)),
      )

  -- cut short before the next selector
  pub ends_cut : (cut : Cut) (at' : Progress) → LooksSo setup x k base t s f (Err cut) at' now
  ends_cut cut at' = λ later same. subst (IsCutIn base now) (sym (w.gets later same)) (cut_now base now w.state (frame_with x k later) (as_terms (selectors full t)) w.stands.work.told)

  pub ends_cut_by : (r : Result Looked Cut) → IsErr r → (at' : Progress) → LooksSo setup x k base t s f r at' now
  ends_cut_by (Ok how) e at' = absurd (true≢false (sym e))
  ends_cut_by (Err cut) e at' = ends_cut cut at'

-- ---- behind a selector

-- what the getting of a selector is from here
abbrev pub TellsHere : Setup → ValueTag → Progress → Result (Option Refusal) Cut → Progress → Told → Fixed → Kept → Told → State → Formings → Type 0
TellsHere setup tag at r at' now' x k base s f = HoweverFormed x k f (λ frame. TellsSo setup x k base tag (get frame (value_term (heads_of at.tags) tag) s) f r at' now')

then_cut : (base now : Told) (g : Got) (go : State → Got) → IsCutIn base now g → ((s : State) → RunsGrow s (go s)) → IsCutIn base now (and_then g go)
then_cut base now (Went s) go h r = let m = r s in some_later base now (tasks_of s.events) m.more (tasks_of (state_at (go s)).events) h m.runs
then_cut base now (Stopped c code s) go h r = h

then_stops : (terms : List Term) (r : Refusal) (P : State → Type 0) (g : Got) (go : State → Got) → StopsAt terms r P g → StopsAt terms r P (and_then g go)
then_stops terms r P (Went s) go h = absurd h
then_stops terms r P (Stopped c code s) go h = h

no_value : (r : Result Value Code) (code : Code) → r ≡ Err code → value_or_none r ≡ None
no_value (Ok v) code e = cc
no_value (Err c) code e = refl

module _ (setup : Setup) (x : Fixed) (k : Kept) (base : Told) (t : Tree) (s : State) (f : Formings) (at : Progress) (now : Told) (l : IsLooking setup at) (w : OnTheWay setup x k base t s f at now) (tag : ValueTag) (i : IsValue at.tags tag) (found : IsFound setup.links.now.links at.tags (formed_of at.seen.memo) tag) (n : ℕ) (needs : scan (sight_in setup at) t ≡ Ends (Needs (site_of (nodes_in setup) n) (value_term (heads_of at.tags) tag))) where
  abbrev term : ValueTerm
  term = value_term (heads_of at.tags) tag

  abbrev told_now : Sight
  told_now = sight_in setup at

  abbrev in_full : Sight
  in_full = sight_of x k

  abbrev rests : List ValueTerm
  rests = selectors in_full t

  -- the course's frames get it alike
  alike : (later : List FormedCall) → SameCalls (formed_calls (after (forms in_full t) f)) later → get (frame_with x k later) term w.state ≡ get (frame_with x k (formed_calls w.formed)) term w.state
  alike later same =
      let from = same_from (forms in_full t) w.formed later (subst (λ y. SameCalls (formed_calls y) later) (sym w.same) same) in
      gets_same setup at l x k w.stands.kept w.formed w.stands.formings tag i.fits found later from w.state
      ∙ sym (gets_same setup at l x k w.stands.kept w.formed w.stands.formings tag i.fits found (formed_calls w.formed) (same_itself (formed_calls w.formed)) w.state)

  next : (later : List FormedCall) → Resumes {A = ValueTerm} (frame_with x k later) w.state (Ends (Needs (site_of (nodes_in setup) n) term)) rests
  next later = subst (λ y. Resumes (frame_with x k later) w.state y rests) needs (looking_resumes (frame_with x k later) w.state told_now in_full (told_in_full setup x k base at now w.state w.formed w.stands) (told_ready setup x k base at now w.state w.formed w.stands later) t)

  -- it was got
  went_by : (at' : Progress) (now' : Told) (g : Got) → get (frame_with x k (formed_calls w.formed)) term w.state ≡ g → GoesTo (λ s'. StandsAt setup x k base at' now' s' w.formed) g → OnTheWay setup x k base t s f at' now'
  went_by at' now' (Went s') e h = record {
    state = s';
    formed = w.formed;
    stands = h;
    same = w.same;
    gets = λ later same. w.gets later same ∙ (next later).1 s' (alike later same ∙ e);
  }
  went_by at' now' (Stopped c code s') e h = absurd h

  pub told_on : (at' : Progress) (now' : Told) → HoweverFormed x k w.formed (λ frame. TellsSo setup x k base tag (get frame term w.state) w.formed (Ok None) at' now') → OnTheWay setup x k base t s f at' now'
  told_on at' now' h = went_by at' now' (get (frame_with x k (formed_calls w.formed)) term w.state) refl (h (formed_calls w.formed) (same_itself (formed_calls w.formed)))

  -- what is refused isn't told by all values either
  still_needed : (r : Refusal) (at' : Progress) (now' : Told) → at'.tags ≡ at.tags → HoweverFormed x k w.formed (λ frame. TellsSo setup x k base tag (get frame term w.state) w.formed (Ok (Some r)) at' now') →
      (scan in_full t ≡ Ends (Needs (site_of (nodes_in setup) n) term)) × (forms in_full t ≡ forms told_now t)
  still_needed r at' now' et h =
      let own = h (formed_calls w.formed) (same_itself (formed_calls w.formed)) in
      subst (λ y. HaltKept in_full y (scan in_full t) (forms told_now t) (forms in_full t)) needs (halts_alike told_now in_full (told_in_full setup x k base at now w.state w.formed w.stands) t)
      (no_value (denotes (around_of x k) term) r.code (subst (λ ts. denotes (around_of x k) (value_term (heads_of ts) tag) ≡ Err r.code) et own.1))

  pub refused_alike : (r : Refusal) (at' : Progress) (now' : Told) → at'.tags ≡ at.tags → sight_in setup at' ≡ sight_in setup at → HoweverFormed x k w.formed (λ frame. TellsSo setup x k base tag (get frame term w.state) w.formed (Ok (Some r)) at' now') →
      NeedsAlike setup x k t (Ok (looked.Refused n r)) at'
  refused_alike r at' now' et es h = (still_needed r at' now' et h).0 ∙ sym needs ∙ ap (λ y. scan y t) (sym es)

  -- it was refused
  pub refused_at : after (forms told_now t) w.formed ≡ w.formed → (r : Refusal) (at' : Progress) (now' : Told) → at'.tags ≡ at.tags → HoweverFormed x k w.formed (λ frame. TellsSo setup x k base tag (get frame term w.state) w.formed (Ok (Some r)) at' now') →
      LooksSo setup x k base t s f (Ok (looked.Refused n r)) at' now'
  refused_at d r at' now' et h =
      let own = h (formed_calls w.formed) (same_itself (formed_calls w.formed)) in
      let halts = still_needed r at' now' et h in
      let formed : w.formed ≡ after (forms in_full t) f = sym d ∙ ap (λ fs. after fs w.formed) (sym halts.1) ∙ w.same in (
        (term, halts.0),
        λ later same.
            let stops = subst (StopsAt at'.tags r (λ s'. StandsAt setup x k base at' now' s' w.formed)) (sym (alike later same)) own.0 in
            subst (StopsAt at'.tags r (λ s'. StandsAt setup x k base at' now' s' (after (forms in_full t) f))) (sym (w.gets later same ∙ (next later).0.1))
            (then_stops at'.tags r (λ s'. StandsAt setup x k base at' now' s' (after (forms in_full t) f)) (get (frame_with x k later) term w.state) (get_all (frame_with x k later) (as_terms (next later).0.0))
            (subst (λ y. StopsAt at'.tags r (λ s'. StandsAt setup x k base at' now' s' y) (get (frame_with x k later) term w.state)) formed stops)),
      )

  -- it was cut short
  pub cut_at : (cut : Cut) (at' : Progress) (now' : Told) → HoweverFormed x k w.formed (λ frame. TellsSo setup x k base tag (get frame term w.state) w.formed (Err cut) at' now') → LooksSo setup x k base t s f (Err cut) at' now'
  cut_at cut at' now' h = λ later same.
      let here = subst (IsCutIn base now') (sym (alike later same)) (h (formed_calls w.formed) (same_itself (formed_calls w.formed))) in
      subst (IsCutIn base now') (sym (w.gets later same ∙ (next later).0.1)) (then_cut base now' (get (frame_with x k later) term w.state) (get_all (frame_with x k later) (as_terms (next later).0.0)) here (λ s1. all_grow (frame_with x k later) (as_terms (next later).0.0) s1))

  pub cut_at_by : (r : Result Looked Cut) → IsErr r → (q : Result (Option Refusal) Cut) → IsErr q → (at' : Progress) (now' : Told) → HoweverFormed x k w.formed (λ frame. TellsSo setup x k base tag (get frame term w.state) w.formed q at' now') → LooksSo setup x k base t s f r at' now'
  cut_at_by (Ok how) e q eq at' now' h = absurd (true≢false (sym e))
  cut_at_by (Err c) e (Ok o) eq at' now' h = absurd (true≢false (sym eq))
  cut_at_by (Err c) e (Err cut) eq at' now' h = cut_at c at' now' h
