-- Where looking stands behind the getting of a selector.
use Rattle.std.proofs.Common.{◌≡◌, ℕ, List, [], ◌∷◌, ◌++◌, Bool, true, false, cond, Some, refl, sym, ap, ◌∙◌, subst}
use Rattle.std.specs.Prelude.{◌||◌, Ok}
use Rattle.std.specs.Map.{lookup}
use Rattle.dx_base.specs.declared.code.Code.{Code}
use Rattle.dx_cache.proofs.Places.{cases}
use Rattle.dx_tags.specs.declared.term.Term.{Term}
use Rattle.dx_tags.specs.declared.term.ValueTag.{ValueTag}
use Rattle.dx_tags.specs.Files.{FileMap}
use Rattle.dx_tags.specs.Closed.{ValueTerm, ConstantTerm, HeldTerm, ResultTerm, FileTerm, CallTerm, Head, heads_of, value_term}
use Rattle.dx_links.specs.Denotes.{Around, denotes}
use Rattle.dx_links.specs.Getting.{same_value, has_value, has_call}
use Rattle.dx_machine.specs.Machine.{FormedCall, Frame, State, Got, Went, Stopped, state_at, get}
use Rattle.dx_machine.specs.Sound.{HaveAttributes, IsSound}
use Rattle.dx_machine.proofs.Keeping.{getting_keeps}
use Rattle.dx_getting.specs.Told.{Told}
use Rattle.dx_getting.specs.Stands.{WentTo, FailsAt, world}
use Rattle.dx_getting.specs.Steps.{AreCalls}
use Rattle.dx_getting.specs.declared.fail.GetFail.TheVariants.{Refused}
use Rattle.dx_getting.specs.declared.work.Work.{Work}
use Rattle.dx_demand.specs.Terms.{IsValue}
use Rattle.dx_demand.specs.Steps.{SeenRight}
use Rattle.dx_demand.specs.Forming.{SeenFormed}
use Rattle.dx_demand.specs.Calling.{SeenMet}
use Rattle.dx_demand.proofs.Staying.{seen_stays}
use Rattle.dx_demand.proofs.CallsStaying.{seen_met_stays}
use Rattle.dx_demand.proofs.FormedSteps.{seen_formed_stays}
use Rattle.dx_meaning.specs.Forming.{Formings}
use Rattle.dx_meaning.specs.Outcome.{Value}
use Rattle.dx_meaning.specs.More.{More}
use Rattle.dx_performing.specs.Kept.{Kept, LinkTerms}
use Rattle.dx_performing.specs.Course.{Fixed, frame_with}
use Rattle.dx_performing.specs.Course as course
use Rattle.dx_performing.specs.Resuming.{is_ready}
use Rattle.dx_performing.proofs.Ready.{get_stays, got_ready}
use Rattle.dx_looking.specs.ToldTags.{ToldTags}
use Rattle.dx_looking.specs.Setting.{TermValues, nodes_in, links_of, told_terms, told_sight, setting_in}
use Rattle.dx_looking.specs.Looking.{AreValues, IsLooking, AllDenote, AllReady, StandsAt, GoesTo, StopsAt}
use Rattle.dx_looking.specs.declared.setup.Setup.{Setup}
use Rattle.dx_looking.specs.declared.progress.Progress.{Progress}

-- ---- one value more

pub told_push : (hs : List Head) (told : ToldTags) (t : ValueTag) (v : Value) → told_terms hs (told ++ (t, v) ∷ []) ≡ told_terms hs told ++ (value_term hs t, v) ∷ []
told_push hs [] t v = refl
told_push hs (x ∷ xs) t v = ap (λ ys. (value_term hs x.0, x.1) ∷ ys) (told_push hs xs t v)

values_push : (terms : List Term) (told : ToldTags) (t : ValueTag) (v : Value) → AreValues terms told → IsValue terms t → AreValues terms (told ++ (t, v) ∷ [])
values_push terms [] t v h i = (i, tt)
values_push terms (x ∷ xs) t v h i = (h.0, values_push terms xs t v h.1 i)

denote_push : (a : Around) (xs : TermValues) (t : ValueTerm) (v : Value) → AllDenote a xs → denotes a t ≡ Ok v → AllDenote a (xs ++ (t, v) ∷ [])
denote_push a [] t v h e = (e, tt)
denote_push a (x ∷ xs) t v h e = (h.0, denote_push a xs t v h.1 e)

ready_push : (k : Frame) (s : State) (xs : TermValues) (t : ValueTerm) (v : Value) → AllReady k s xs → is_ready k s t ≡ true → AllReady k s (xs ++ (t, v) ∷ [])
ready_push k s [] t v h e = (e, tt)
ready_push k s (x ∷ xs) t v h e = (h.0, ready_push k s xs t v h.1 e)

found_front : (test : ValueTerm → Bool) (xs ys : TermValues) (v : Value) → lookup test xs ≡ Some v → lookup test (xs ++ ys) ≡ Some v
found_front test [] ys v e = cc
found_front test (x ∷ xs) ys v e = cases (test x.0) (λ q. rw q (subst (λ b. cond b (Some x.1) (lookup test xs) ≡ Some v) q e)) (λ q. rw q (found_front test xs ys v (subst (λ b. cond b (Some x.1) (lookup test xs) ≡ Some v) q e)))

pub more_told : (links : LinkTerms) (files : FileMap) (xs ys : TermValues) → More (told_sight links files xs) (told_sight links files (xs ++ ys))
more_told links files xs ys = record { linked = refl; written = refl; told = λ u v e. found_front (same_value u) xs ys v e }

-- looking goes on with one value more
abbrev pub with_told : Progress → ToldTags → Work → Progress
with_told at told work = record { tags = at.tags; seen = at.seen; told = told; work = work }

told_as : (at : Progress) (told : ToldTags) (t : ValueTag) (v : Value) → told ≡ at.told ++ (t, v) ∷ [] → told_terms (heads_of at.tags) told ≡ told_terms (heads_of at.tags) at.told ++ (value_term (heads_of at.tags) t, v) ∷ []
told_as at told t v e = ap (told_terms (heads_of at.tags)) e ∙ told_push (heads_of at.tags) at.told t v

pub looking_on : (setup : Setup) (at : Progress) (told : ToldTags) (work : Work) (t : ValueTag) (v : Value) → IsLooking setup at → IsValue at.tags t → told ≡ at.told ++ (t, v) ∷ [] → AreCalls at.tags work.cache.entries → IsLooking setup (with_told at told work)
looking_on setup at told work t v l i e calls =
    let hs = heads_of at.tags in
    let links = links_of hs setup.links.now.links in
    let files = setup.written.now.files in
    let old = told_terms hs at.told in
    let new = old ++ (value_term hs t, v) ∷ [] in
    let more = more_told links files old ((value_term hs t, v) ∷ []) in
    let same : told_terms hs told ≡ new = told_as at told t v e in
    record {
      exact = l.exact;
      links = l.links;
      bound = l.bound;
      below = l.below;
      entries = calls;
      told = subst (AreValues at.tags) (sym e) (values_push at.tags at.told t v l.told i);
      fits = l.fits;
      closed = l.closed;
      right = subst (λ vs. SeenRight (told_sight links files vs) (nodes_in setup) at.tags at.seen) (sym same) (seen_stays (told_sight links files old) (told_sight links files new) more (nodes_in setup) at.tags at.seen l.right);
      formed = subst (λ vs. SeenFormed (told_sight links files vs) (nodes_in setup) at.tags at.seen) (sym same) (seen_formed_stays (told_sight links files old) (told_sight links files new) more (nodes_in setup) at.tags at.seen l.right l.formed);
      met = subst (λ vs. SeenMet (told_sight links files vs) (nodes_in setup) at.seen) (sym same) (seen_met_stays (told_sight links files old) (told_sight links files new) more (nodes_in setup) at.tags at.seen l.right l.met);
    }

-- ---- what was ready

or_stays : (b n n1 : Bool) → (n ≡ true → n1 ≡ true) → (b || n) ≡ true → (b || n1) ≡ true
or_stays true n n1 f e = refl
or_stays false n n1 f e = f e

ready_kept : (k : Frame) (s s1 : State) → ((c : CallTerm) → has_call s.known c ≡ true → has_call s1.known c ≡ true) → (u : ValueTerm) → is_ready k s u ≡ true → is_ready k s1 u ≡ true
ready_kept k s s1 h (ConstantTerm c) e = refl
ready_kept k s s1 h (HeldTerm n) e = refl
ready_kept k s s1 h (FileTerm bytes) e = refl
ready_kept k s s1 h (ResultTerm result c) e = or_stays (has_value k.links (ResultTerm result c)) (has_call s.known c) (has_call s1.known c) (h c) e

pub all_ready_kept : (k : Frame) (s s1 : State) → ((c : CallTerm) → has_call s.known c ≡ true → has_call s1.known c ≡ true) → (xs : TermValues) → AllReady k s xs → AllReady k s1 xs
all_ready_kept k s s1 h [] r = tt
all_ready_kept k s s1 h (x ∷ xs) r = (ready_kept k s s1 h x.0 r.0, all_ready_kept k s s1 h xs r.1)

-- whatever was formed
ready_formed : (x : Fixed) (k : Kept) (fs gs : List FormedCall) (s : State) (u : ValueTerm) → is_ready (frame_with x k fs) s u ≡ is_ready (frame_with x k gs) s u
ready_formed x k fs gs s (ConstantTerm c) = refl
ready_formed x k fs gs s (HeldTerm n) = refl
ready_formed x k fs gs s (FileTerm bytes) = refl
ready_formed x k fs gs s (ResultTerm result c) = refl

-- ---- a getting of a selector

module _ (setup : Setup) (x : Fixed) (k : Kept) (base now now' : Told) (at : Progress) (s : State) (f : Formings) (st : StandsAt setup x k base at now s f) (att : HaveAttributes (course.formed_calls f)) (t : ValueTag) (work : Work) where
  abbrev term : ValueTerm
  term = value_term (heads_of at.tags) t

  abbrev own : Frame
  own = frame_with x k (course.formed_calls f)

  sound_behind : (g : Got) → get own term s ≡ g → IsSound (course.around_of x k) x.budget (state_at g)
  sound_behind g e = subst (λ (y : Got). IsSound (course.around_of x k) x.budget (state_at y)) e (getting_keeps own term s att st.sound)

  ready_behind : (g : Got) → get own term s ≡ g → AllReady (frame_with x k []) (state_at g) (told_terms (heads_of at.tags) at.told)
  ready_behind g e = all_ready_kept (frame_with x k []) s (state_at g) (λ c h. subst (λ (y : Got). has_call (state_at y).known c ≡ true) e (get_stays own term s c h)) (told_terms (heads_of at.tags) at.told) st.ready

  -- it went well
  pub went_so : (told : ToldTags) (v : Value) → told ≡ at.told ++ (t, v) ∷ [] → (g : Got) → get own term s ≡ g → WentTo (setting_in setup at) (world x.answer x.file) base g work now' → denotes (course.around_of x k) term ≡ Ok v →
      GoesTo (λ s'. StandsAt setup x k base (with_told at told work) now' s' f) g
  went_so told v e (Went s') eg w d =
      let hs = heads_of at.tags in
      let same : told_terms hs told ≡ told_terms hs at.told ++ (term, v) ∷ [] = told_as at told t v e in
      record {
        kept = st.kept;
        work = w;
        formings = st.formings;
        sound = sound_behind (Went s') eg;
        told = subst (AllDenote (course.around_of x k)) (sym same) (denote_push (course.around_of x k) (told_terms hs at.told) term v st.told d);
        ready = subst (AllReady (frame_with x k []) s') (sym same) (ready_push (frame_with x k []) s' (told_terms hs at.told) term v (ready_behind (Went s') eg) (ready_formed x k [] (course.formed_calls f) s' term ∙ got_ready own term s s' eg));
      }
  went_so told v e (Stopped c code s') eg w d = absurd w

  -- it was refused
  pub refused_so : (tag : ℕ) (code : Code) (g : Got) → get own term s ≡ g → FailsAt (setting_in setup at) (world x.answer x.file) base (Refused tag code) g work now' →
      StopsAt at.tags (record { tag = tag; code = code }) (λ s'. StandsAt setup x k base (with_told at at.told work) now' s' f) g
  refused_so tag code (Went s') eg h = absurd h
  refused_so tag code (Stopped c code' s') eg h = (
    h.0,
    h.1,
    h.2,
    record {
      kept = st.kept;
      work = h.3;
      formings = st.formings;
      sound = sound_behind (Stopped c code' s') eg;
      told = st.told;
      ready = ready_behind (Stopped c code' s') eg;
    },
  )
