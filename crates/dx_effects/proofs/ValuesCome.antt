-- What the getting of the values of terms comes to, in the frame of the course.
use Rattle.std.proofs.Common.{◌≡◌, ℕ, zero, suc, List, [], ◌∷◌, length, true, Some, refl, sym, ap, ◌∙◌, subst}
use Rattle.std.specs.Prelude.{slice_get, Result, Ok, Err, OnOk, IfOk}
use Rattle.dx_base.specs.declared.code.Code.{Code}
use Rattle.dx_objects.specs.Runs.{Values}
use Rattle.dx_tags.specs.declared.term.Term.{Term}
use Rattle.dx_tags.specs.declared.term.ValueTag.{ValueTag}
use Rattle.dx_tags.specs.Closed.{ValueTerms, heads_of, value_terms}
use Rattle.dx_links.specs.Denotes.{all_denote}
use Rattle.dx_links.specs.Getting.{has_call}
use Rattle.dx_links.specs.LinkMap.{LinkMap}
use Rattle.dx_machine.specs.Machine.{FormedCall, Frame, State, Got, Went, Stopped, state_at, get_all}
use Rattle.dx_machine.specs.Sound.{IsSound}
use Rattle.dx_machine.proofs.Keeping.{getting_all_keeps}
use Rattle.dx_getting.specs.All.{GetsAll}
use Rattle.dx_getting.specs.Told.{Told}
use Rattle.dx_getting.proofs.Getting.{earlier_at}
use Rattle.dx_getting.specs.Stands.{Stands, WentTo, FailsAt, MayGetValue, frame_of, world}
use Rattle.dx_getting.specs.Steps.{AreCalls}
use Rattle.dx_getting.specs.declared.fail.GetFail.{GetFail}
use Rattle.dx_getting.specs.declared.fail.GetFail.TheVariants.{Refused, ReadFault, Memory}
use Rattle.dx_getting.specs.declared.work.Work.{Work}
use Rattle.dx_demand.specs.Terms.{AreArguments}
use Rattle.dx_demand.specs.Memo.{FirstNodes, formed_of}
use Rattle.dx_demand.specs.Found.{IsFound, AllFound}
use Rattle.dx_meaning.specs.Forming.{Formings}
use Rattle.dx_performing.specs.Alike.{SameCalls}
use Rattle.dx_performing.specs.Kept.{Kept}
use Rattle.dx_performing.specs.Course.{Fixed, frame_with, with_values}
use Rattle.dx_performing.specs.Course as course
use Rattle.dx_performing.specs.Meant.{LinksRight}
use Rattle.dx_looking.specs.Setting.{setting_in, told_terms}
use Rattle.dx_looking.specs.Looking.{IsLooking, StandsAt, GoesTo, StopsAt, IsCutIn}
use Rattle.dx_looking.specs.declared.setup.Setup.{Setup}
use Rattle.dx_looking.specs.declared.progress.Progress.{Progress}
use Rattle.dx_looking.proofs.Bridge.{may_get, around_same, gets_all_same, attributes_of}
use Rattle.dx_looking.proofs.SelectorGot.{links_have}
use Rattle.dx_looking.proofs.Telling.{with_told, all_ready_kept}
use Rattle.dx_effects.specs.Coming.{ArgumentsFit, TermsSo, came_so}
use Rattle.dx_effects.proofs.AllGot.{all_known, refused_all}
use Rattle.dx_effects.proofs.SoFar.{same_itself}

-- the same with other work
abbrev pub with_work : Progress → Work → Progress
with_work at work = with_told at at.told work

pub looking_by : (setup : Setup) (at : Progress) (work : Work) → IsLooking setup at → AreCalls at.tags work.cache.entries → IsLooking setup (with_work at work)
looking_by setup at work l calls = record {
  exact = l.exact;
  links = l.links;
  bound = l.bound;
  below = l.below;
  entries = calls;
  told = l.told;
  fits = l.fits;
  closed = l.closed;
  right = l.right;
  formed = l.formed;
  met = l.met;
}

module _ (setup : Setup) (x : Fixed) (k : Kept) (right : LinksRight (course.around_of x k) k.links) (base now now' : Told) (at : Progress) (s : State) (f : Formings) (l : IsLooking setup at) (st : StandsAt setup x k base at now s f) (ts : List ValueTag) (args : AreArguments at.tags ts) (found : AllFound setup.links.now.links at.tags (formed_of at.seen.memo) ts) (work : Work) where
  abbrev terms : ValueTerms
  terms = value_terms (heads_of at.tags) ts

  abbrev got : Got
  got = get_all (frame_of (setting_in setup at) (world x.answer x.file) x.budget) terms s

  abbrev own : Frame
  own = frame_with x k (course.formed_calls f)

  in_course : (later : List FormedCall) → SameCalls (course.formed_calls f) later → get_all (frame_with x k later) terms s ≡ got
  in_course later same = gets_all_same setup at l x k st.kept f st.formings ts args.earlier found later same s

  in_own : get_all own terms s ≡ got
  in_own = in_course (course.formed_calls f) (same_itself (course.formed_calls f))

  stands_behind : (g : Got) → got ≡ g → Stands (setting_in setup at) (world x.answer x.file) work base now' (state_at g) → StandsAt setup x k base (with_work at work) now' (state_at g) f
  stands_behind g e w = record {
    kept = st.kept;
    work = w;
    formings = st.formings;
    sound = subst (λ (y : Got). IsSound (course.around_of x k) x.budget (state_at y)) (in_own ∙ e) (getting_all_keeps own terms s (attributes_of setup at l f st.formings) st.sound);
    told = st.told;
    ready = all_ready_kept (frame_with x k []) s (state_at g) (λ c h. subst (λ (y : Got). has_call (state_at y).known c ≡ true) (in_own ∙ e) (all_known own terms s c h)) (told_terms (heads_of at.tags) at.told) st.ready;
  }

  went_stands : (g : Got) → got ≡ g → WentTo (setting_in setup at) (world x.answer x.file) base g work now' → GoesTo (λ s'. StandsAt setup x k base (with_work at work) now' s' f) g
  went_stands (Went s') e w = stands_behind (Went s') e w
  went_stands (Stopped c code s') e w = absurd w

  refused_stands : (tag : ℕ) (code : Code) (g : Got) → got ≡ g → FailsAt (setting_in setup at) (world x.answer x.file) base (Refused tag code) g work now' → StopsAt at.tags (record { tag = tag; code = code }) (λ s'. StandsAt setup x k base (with_work at work) now' s' f) g
  refused_stands tag code (Went s') e h = absurd h
  refused_stands tag code (Stopped c code' s') e h = (h.0, h.1, h.2, stands_behind (Stopped c code' s') e h.3)

  refused_code : (tag : ℕ) (code : Code) (g : Got) → got ≡ g → FailsAt (setting_in setup at) (world x.answer x.file) base (Refused tag code) g work now' → all_denote (course.around_of x k) terms ≡ Err code
  refused_code tag code (Went s') e h = absurd h
  refused_code tag code (Stopped c code' s') e h =
      refused_all own (heads_of at.tags) (attributes_of setup at l f st.formings) (links_have (course.around_of x k) k.links right) ts args.values s st.sound c code' s' (in_own ∙ e) ∙ ap Err (sym h.2)

  pub values_come : (r : Result Values GetFail) → GetsAll (setting_in setup at) (world x.answer x.file) base ts r got work now' → TermsSo setup x k base terms s f (came_so ts r) (with_work at work) now'
  values_come (Ok values) h = (
    ap (with_values terms) (subst (λ a. all_denote a terms ≡ Ok values) (around_same setup at x k st.kept) h.1),
    λ later same. subst (GoesTo (λ s'. StandsAt setup x k base (with_work at work) now' s' f)) (sym (in_course later same)) (went_stands got refl h.0),
  )
  values_come (Err (Refused tag code)) h = (
    ((terms, refl), ap (with_values terms) (refused_code tag code got refl h)),
    λ later same. subst (StopsAt at.tags (record { tag = tag; code = code }) (λ s'. StandsAt setup x k base (with_work at work) now' s' f)) (sym (in_course later same)) (refused_stands tag code got refl h),
  )
  values_come (Err ReadFault) h = λ later same. subst (IsCutIn base now') (sym (in_course later same)) h.told
  values_come (Err Memory) h = λ later same. subst (IsCutIn base now') (sym (in_course later same)) h.told

-- ---- for the code

all_found_at : (links : LinkMap) (terms : List Term) (first : FirstNodes) (ts : List ValueTag) (i : ℕ) (t : ValueTag) → AllFound links terms first ts → slice_get ts i ≡ Some t → IsFound links terms first t
all_found_at links terms first [] i t f e = cc
all_found_at links terms first (u ∷ ts) zero t f e = let same : u ≡ t = cc in subst (IsFound links terms first) same f.0
all_found_at links terms first (u ∷ ts) (suc i) t f e = all_found_at links terms first ts i t f.1 e

pub may_get_at : (setup : Setup) (at : Progress) → IsLooking setup at → (ts : List ValueTag) → AreArguments at.tags ts → AllFound setup.links.now.links at.tags (formed_of at.seen.memo) ts → (i : ℕ) (t : ValueTag) → slice_get ts i ≡ Some t → MayGetValue (setting_in setup at) t
may_get_at setup at l ts args found i t e =
    let early = earlier_at (heads_of at.tags) (length at.tags) ts i t args.earlier e in
    may_get setup at l t (record { within = early.0; result = early.1 }) (all_found_at setup.links.now.links at.tags (formed_of at.seen.memo) ts i t found e)

pub fit_so : (setup : Setup) (at : Progress) (ts : List ValueTag) → AreArguments at.tags ts → AllFound setup.links.now.links at.tags (formed_of at.seen.memo) ts → (r : Result Values GetFail) → IfOk r (λ values. length values ≡ length ts) → IfOk (came_so ts r) (λ how. ArgumentsFit setup (length ts) at how)
fit_so setup at ts args found (Ok values) n = (n, args, found)
fit_so setup at ts args found (Err (Refused tag code)) n = tt
fit_so setup at ts args found (Err ReadFault) n = tt
fit_so setup at ts args found (Err Memory) n = tt

pub on_any : {T E : Type 0} {A : Type 0} (r : Result T E) → A → OnOk r A
on_any (Ok x) h = h
on_any (Err e) h = tt
