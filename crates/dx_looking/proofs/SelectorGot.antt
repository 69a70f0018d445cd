-- What the getting of a selector comes to, in the frame of the course.
use Rattle.std.proofs.Common.{true≢false, ◌≡◌, List, [], ◌∷◌, ◌++◌, map, true, Option, Some, None, refl, sym, ap, ◌∙◌, subst}
use Rattle.std.specs.Prelude.{◌||◌, Result, Ok, Err}
use Rattle.std.specs.Result.{IsErr}
use Rattle.dx_looking.specs.declared.looked.Refusal.{Refusal}
use Rattle.std.specs.declared.rc.Rc.{Rc}
use Rattle.std.specs.declared.alloc.Global.{Global}
use Rattle.dx_base.specs.Object.{Tree as Object}
use Rattle.dx_base.specs.declared.code.Code.{Code}
use Rattle.dx_cache.proofs.Places.{cases}
use Rattle.dx_objects.specs.Values.{value_of}
use Rattle.dx_tags.specs.declared.term.ValueTag.{ValueTag}
use Rattle.dx_tags.specs.Closed.{ValueTerm, heads_of, value_term}
use Rattle.dx_links.specs.declared.key.Key.{Key}
use Rattle.dx_links.specs.Denotes.{Around, denotes}
use Rattle.dx_links.specs.Getting.{same_value, has_value}
use Rattle.dx_machine.specs.Machine.{FormedCall, State, Got, Went, Stopped, get}
use Rattle.dx_machine.proofs.SameTerms.{value_is}
use Rattle.dx_machine.proofs.Grows.{grows_none}
use Rattle.dx_getting.specs.Told.{Told}
use Rattle.dx_getting.specs.Stands.{WentTo, FailsAt, GetsValue, frame_of, world}
use Rattle.dx_getting.specs.declared.fail.GetFail.TheVariants.{Refused, ReadFault, Memory}
use Rattle.dx_getting.specs.declared.fail.GetFail.{GetFail}
use Rattle.dx_getting.specs.declared.work.Work.{Work}
use Rattle.dx_demand.specs.Memo.{formed_of}
use Rattle.dx_demand.specs.Terms.{IsValue}
use Rattle.dx_demand.specs.Found.{IsFound}
use Rattle.dx_meaning.specs.Forming.{Formings}
use Rattle.dx_performing.specs.Alike.{SameCalls}
use Rattle.dx_performing.specs.Kept.{Kept, Link, LinkTerms}
use Rattle.dx_performing.specs.Course.{Fixed, frame_with}
use Rattle.dx_performing.specs.Course as course
use Rattle.dx_performing.specs.Meant.{LinksRight}
use Rattle.dx_looking.specs.ToldTags.{ToldTags}
use Rattle.dx_looking.specs.Setting.{setting_in}
use Rattle.dx_looking.specs.Failing.{failed_so}
use Rattle.dx_looking.specs.Looking.{IsLooking, StandsAt, GoesTo, StopsAt, IsCutIn, TellsSo}
use Rattle.dx_looking.specs.declared.cut.Cut.{Cut}
use Rattle.dx_looking.specs.declared.setup.Setup.{Setup}
use Rattle.dx_looking.specs.declared.progress.Progress.{Progress}
use Rattle.dx_looking.proofs.Bridge.{around_same, gets_same, attributes_of}
use Rattle.dx_looking.proofs.Cutting.{cut_by}
use Rattle.dx_looking.proofs.Refused.{LinksHave, refused_denotes}
use Rattle.dx_looking.proofs.Telling.{with_told, went_so, refused_so}

pub same_itself : (fs : List FormedCall) → SameCalls fs fs
same_itself fs = record { sites = λ c f. refl; attributes = λ c f. refl }

-- the terms of links denote values
pub links_have : (a : Around) (links : LinkTerms) → LinksRight a links → LinksHave a (map (λ (l : Key × Link). l.1.term) links)
links_have a [] r t e = cc
links_have a (l ∷ ls) r t e = cases (same_value l.1.term t)
    (λ q. (Some l.1.object, subst (λ u. denotes a u ≡ Ok (Some l.1.object)) (value_is l.1.term t q) r.0))
    (λ q. links_have a ls r.1 t (subst (λ b. (b || has_value (map (λ (x : Key × Link). x.1.term) ls) t) ≡ true) q e))

module _ (setup : Setup) (x : Fixed) (k : Kept) (right : LinksRight (course.around_of x k) k.links) (base now now' : Told) (at : Progress) (s : State) (f : Formings) (l : IsLooking setup at) (st : StandsAt setup x k base at now s f) (t : ValueTag) (value : IsValue at.tags t) (found : IsFound setup.links.now.links at.tags (formed_of at.seen.memo) t) (later : List FormedCall) (same : SameCalls (course.formed_calls f) later) (work : Work) where
  abbrev term : ValueTerm
  term = value_term (heads_of at.tags) t

  abbrev got : Got
  got = get (frame_of (setting_in setup at) (world x.answer x.file) x.budget) term s

  abbrev whole : Got
  whole = get (frame_with x k later) term s

  in_course : whole ≡ got
  in_course = gets_same setup at l x k st.kept f st.formings t value.fits found later same s

  in_own : get (frame_with x k (course.formed_calls f)) term s ≡ got
  in_own = gets_same setup at l x k st.kept f st.formings t value.fits found (course.formed_calls f) (same_itself (course.formed_calls f)) s

  pub tells_ok : (told : ToldTags) (v : Option (Rc Object Global)) → told ≡ at.told ++ (t, value_of v) ∷ [] → GetsValue (setting_in setup at) (world x.answer x.file) base t (Ok v) got work now' →
      TellsSo setup x k base t whole f (Ok None) (with_told at told work) now'
  tells_ok told v e h =
      subst (GoesTo (λ s'. StandsAt setup x k base (with_told at told work) now' s' f)) (sym in_course)
      (went_so setup x k base now now' at s f st (attributes_of setup at l f st.formings) t work told (value_of v) e got in_own h.0 (subst (λ a. denotes a term ≡ Ok (value_of v)) (around_same setup at x k st.kept) h.1))

  refusal_code : (tag : _) (code : Code) (g : Got) → get (frame_with x k (course.formed_calls f)) term s ≡ g → FailsAt (setting_in setup at) (world x.answer x.file) base (Refused tag code) g work now' → denotes (course.around_of x k) term ≡ Err code
  refusal_code tag code (Went s') e h = absurd h
  refusal_code tag code (Stopped c code' s') e h =
      refused_denotes (frame_with x k (course.formed_calls f)) term s (attributes_of setup at l f st.formings) st.sound (links_have (course.around_of x k) k.links right) c code' s' e ∙ ap Err (sym h.2)

  refused_is : (tag : _) (code : Code) → FailsAt (setting_in setup at) (world x.answer x.file) base (Refused tag code) got work now' →
      TellsSo setup x k base t whole f (Ok (Some (record { tag = tag; code = code }))) (with_told at at.told work) now'
  refused_is tag code h = (
    subst (StopsAt at.tags (record { tag = tag; code = code }) (λ s'. StandsAt setup x k base (with_told at at.told work) now' s' f)) (sym in_course)
        (refused_so setup x k base now now' at s f st (attributes_of setup at l f st.formings) t work tag code got in_own h),
    refusal_code tag code got in_own h,
  )

  fails_so : (fail : GetFail) → FailsAt (setting_in setup at) (world x.answer x.file) base fail got work now' → TellsSo setup x k base t whole f (failed_so fail) (with_told at at.told work) now'
  fails_so (Refused tag code) h = refused_is tag code h
  fails_so ReadFault h = subst (IsCutIn base now') (sym in_course) h.told
  fails_so Memory h = subst (IsCutIn base now') (sym in_course) h.told

  -- it failed
  pub tells_failed : (fail : GetFail) (r : Result (Option Refusal) Cut) → r ≡ failed_so fail → FailsAt (setting_in setup at) (world x.answer x.file) base fail got work now' → TellsSo setup x k base t whole f r (with_told at at.told work) now'
  tells_failed fail r e h = subst (λ y. TellsSo setup x k base t whole f y (with_told at at.told work) now') (sym e) (fails_so fail h)

  went_cut : (g : Got) → WentTo (setting_in setup at) (world x.answer x.file) base g work now' → IsCutIn base now' g
  went_cut (Went s') h = cut_by base now' s' (Went s') h.told (grows_none s')
  went_cut (Stopped c code s') h = absurd h

  -- there was no memory to tell it
  pub tells_nothing : (cut : Cut) (at' : Progress) (v : Option (Rc Object Global)) → GetsValue (setting_in setup at) (world x.answer x.file) base t (Ok v) got work now' → TellsSo setup x k base t whole f (Err cut) at' now'
  tells_nothing cut at' v h = subst (IsCutIn base now') (sym in_course) (went_cut got h.0)

  pub tells_nothing_by : (r : Result (Option Refusal) Cut) (at' : Progress) (v : Option (Rc Object Global)) → IsErr r → GetsValue (setting_in setup at) (world x.answer x.file) base t (Ok v) got work now' → TellsSo setup x k base t whole f r at' now'
  tells_nothing_by (Ok o) at' v e h = absurd (true≢false (sym e))
  tells_nothing_by (Err cut) at' v e h = tells_nothing cut at' v h
