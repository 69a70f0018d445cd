-- What the arguments of an effect come to, from what looking at them comes to.
use Rattle.std.proofs.Common.{◌≡◌, ℕ, List, sym, ap, ◌∙◌, subst}
use Rattle.std.specs.Prelude.{Result, Ok, Err}
use Rattle.dx_base.specs.declared.code.Code.{Code}
use Rattle.dx_tags.specs.declared.term.ValueTag.{ValueTag}
use Rattle.dx_tags.specs.Closed.{ValueTerms, heads_of, value_terms}
use Rattle.dx_machine.specs.Machine.{FormedCall, Frame, State, Got, Went, and_then, get_all}
use Rattle.dx_getting.specs.Told.{Told}
use Rattle.dx_getting.proofs.Getting.{then_went}
use Rattle.dx_meaning.specs.Scan.{Stop, Scanned, Forms, Ends}
use Rattle.dx_meaning.specs.Forming.{Formings, after}
use Rattle.dx_performing.specs.Alike.{SameCalls}
use Rattle.dx_performing.specs.Kept.{Kept}
use Rattle.dx_performing.specs.Course.{Fixed, Looked, around_of, frame_with, formed_calls, as_terms, get_scanned, effect_got}
use Rattle.dx_looking.specs.Setting.{nodes_in}
use Rattle.dx_looking.specs.Looking.{StandsAt, GoesTo, StopsAt, IsCutIn}
use Rattle.dx_looking.specs.declared.cut.Cut.{Cut}
use Rattle.dx_looking.specs.declared.looked.Refusal.{Refusal}
use Rattle.dx_looking.specs.declared.setup.Setup.{Setup}
use Rattle.dx_looking.specs.declared.progress.Progress.{Progress}
use Rattle.dx_effects.specs.AllLooking.{LookedSo}
use Rattle.dx_effects.specs.Coming.{MeanSo, EndSo, ComeSo, TermsSo}
use Rattle.dx_effects.specs.declared.looked.AllLooked.TheVariants as all
use Rattle.dx_effects.specs.declared.came.Arguments.{Arguments}
use Rattle.dx_effects.specs.declared.came.Arguments.TheVariants as arguments
use Rattle.dx_effects.proofs.SoFar.{same_itself, cut_on, went_so}

cut_scanned : (base now : Told) (g : Got) (k : Frame) (x : Scanned ValueTerms) → IsCutIn base now g → IsCutIn base now (and_then g (get_scanned k x))
cut_scanned base now g k (Forms ts) h = cut_on base now g k ts h
cut_scanned base now g k (Ends e) h = subst (IsCutIn base now) (sym (then_went g)) h

-- nothing is got where looking ended
none_got : (k : Frame) (looked : Looked) (e : Stop) (s : State) → looked.terms ≡ Ends e → effect_got k looked s ≡ get_all k (as_terms looked.selectors) s
none_got k looked e s q = ap (λ y. and_then (get_all k (as_terms looked.selectors) s) (get_scanned k y)) q ∙ then_went (get_all k (as_terms looked.selectors) s)

module _ (setup : Setup) (x : Fixed) (k : Kept) (base : Told) (looked : Looked) (s : State) (f : Formings) (at : Progress) (now : Told) where
  abbrev Comes : Result Arguments Cut → Progress → Told → Type 0
  Comes r at' now' = ComeSo setup x k base looked.terms (after looked.forms f) (λ frame. effect_got frame looked s) r at' now'

  pub cut_looking : (cut : Cut) → LookedSo setup x k base looked s f (Err cut) at now → Comes (Err cut) at now
  cut_looking cut h = λ later same. cut_scanned base now (get_all (frame_with x k later) (as_terms looked.selectors) s) (frame_with x k later) looked.terms (h later same)

  pub off : LookedSo setup x k base looked s f (Ok all.Off) at now → Comes (Ok arguments.Off) at now
  off h = (h.0, λ later same. subst (GoesTo (λ s'. StandsAt setup x k base at now s' (after looked.forms f))) (sym (none_got (frame_with x k later) looked _ s h.0)) (h.1 later same))

  pub halt : (n : ℕ) (code : Code) → LookedSo setup x k base looked s f (Ok (all.Halt n code)) at now → Comes (Ok (arguments.Halt n code)) at now
  halt n code h = (h.0, λ later same. subst (GoesTo (λ s'. StandsAt setup x k base at now s' (after looked.forms f))) (sym (none_got (frame_with x k later) looked _ s h.0)) (h.1 later same))

  pub refused : (n : ℕ) (r : Refusal) → LookedSo setup x k base looked s f (Ok (all.Refused n r)) at now → Comes (Ok (arguments.SelectorRefused n r)) at now
  refused n r h = (h.0, λ later same. subst (StopsAt at.tags r (λ s'. StandsAt setup x k base at now s' (after looked.forms f))) (sym (none_got (frame_with x k later) looked _ s h.0.1)) (h.1 later same))

  -- all have terms, whose values are got
  module _ (ts : List ValueTag) (h : LookedSo setup x k base looked s f (Ok (all.Terms ts)) at now) where
    abbrev terms : ValueTerms
    terms = value_terms (heads_of at.tags) ts

    reached : (later : List FormedCall) → SameCalls (formed_calls (after looked.forms f)) later → (s1 : State) × (get_all (frame_with x k later) (as_terms looked.selectors) s ≡ Went s1) × StandsAt setup x k base at now s1 (after looked.forms f)
    reached later same = went_so (λ s'. StandsAt setup x k base at now s' (after looked.forms f)) (get_all (frame_with x k later) (as_terms looked.selectors) s) (h.1 later same)

    goes : (later : List FormedCall) (s1 : State) → get_all (frame_with x k later) (as_terms looked.selectors) s ≡ Went s1 → effect_got (frame_with x k later) looked s ≡ get_all (frame_with x k later) terms s1
    goes later s1 e =
        ap (λ y. and_then (get_all (frame_with x k later) (as_terms looked.selectors) s) (get_scanned (frame_with x k later) y)) h.0
        ∙ ap (λ g. and_then g (get_all (frame_with x k later) terms)) e

    pub taken : (r : Result Arguments Cut) (at' : Progress) (now' : Told) → ((s1 : State) → StandsAt setup x k base at now s1 (after looked.forms f) → TermsSo setup x k base terms s1 (after looked.forms f) r at' now') → Comes r at' now'
    taken (Ok how) at' now' got =
        let formed = formed_calls (after looked.forms f) in
        let here = reached formed (same_itself formed) in (
          subst (MeanSo (around_of x k) (nodes_in setup) at'.tags how) (sym h.0) (got here.0 here.2).0,
          λ later same.
              let r = reached later same in
              subst (EndSo at'.tags how (λ s'. StandsAt setup x k base at' now' s' (after looked.forms f))) (sym (goes later r.0 r.1)) ((got r.0 r.2).1 later same),
        )
    taken (Err cut) at' now' got = λ later same.
        let r = reached later same in
        subst (IsCutIn base now') (sym (goes later r.0 r.1)) (got r.0 r.2 later same)
