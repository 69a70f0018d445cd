-- Looking at some arguments in order, as far as it has come.
use Rattle.std.proofs.Common.{◌≡◌, ℕ, List, [], ◌∷◌, ◌++◌, length, map, true, refl, sym, ap, ◌∙◌, subst, append-nil}
use Rattle.std.specs.Prelude.{Ok, Err, ◌||◌}
use Rattle.dx_base.specs.declared.code.Code.{Code}
use Rattle.dx_cache.proofs.Places.{cases}
use Rattle.dx_macros.specs.Tree.{Tree, Trees, NoTree, AndTree}
use Rattle.dx_tags.specs.declared.term.ValueTag.{ValueTag}
use Rattle.dx_tags.specs.Closed.{ValueTerm, ValueTerms, NoTerm, AndTerm, CallTerm, Head, heads_of, value_term, value_terms, GoesOn, AreEarlier}
use Rattle.dx_tags.proofs.Growth.{values_on}
use Rattle.dx_links.specs.Getting.{same_call}
use Rattle.dx_machine.specs.Machine.{FormedCall, Frame, State, Got, Went, Stopped, and_then, tasks_of, get, get_all}
use Rattle.dx_machine.specs.Covered.{is_formed}
use Rattle.dx_machine.proofs.Grows.{all_grow}
use Rattle.dx_getting.specs.Told.{Told}
use Rattle.dx_getting.proofs.Getting.{then_same, then_assoc}
use Rattle.dx_getting.proofs.TellLaws.{some_later}
use Rattle.dx_meaning.specs.Met.{Called}
use Rattle.dx_meaning.specs.Scan.{Stop, Scanned, Forms, Ends, scan, scanned_beside}
use Rattle.dx_meaning.specs.Forming.{Formed, Formings, forms, forms_beside, after}
use Rattle.dx_meaning.proofs.Formed.{after_append}
use Rattle.dx_performing.specs.Alike.{SameCalls}
use Rattle.dx_performing.specs.Course.{Fixed, Looked, sight_of, frame_with, formed_call, formed_calls, as_terms, look_at}
use Rattle.dx_performing.specs.Kept.{Kept}
use Rattle.dx_performing.specs.Selectors.{selectors, selectors_beside}
use Rattle.dx_resuming.proofs.Stayed.{after_goes_on, formed_stays}
use Rattle.dx_looking.specs.Looking.{StandsAt, HoweverFormed, GoesTo, StopsAt, IsCutIn, LooksSo}
use Rattle.dx_looking.specs.declared.cut.Cut.{Cut}
use Rattle.dx_looking.specs.declared.looked.Looked.TheVariants as one
use Rattle.dx_looking.specs.declared.looked.Refusal.{Refusal}
use Rattle.dx_looking.specs.declared.setup.Setup.{Setup}
use Rattle.dx_looking.specs.declared.progress.Progress.{Progress}
use Rattle.dx_looking.proofs.Cutting.{cut_now}
use Rattle.dx_effects.specs.AllLooking.{AllLookSo}
use Rattle.dx_effects.specs.declared.looked.AllLooked.TheVariants as all

-- ---- what was formed first stays, however more is formed behind it

formed_behind : (fs gs : List FormedCall) (c : CallTerm) → is_formed fs c ≡ true → is_formed (fs ++ gs) c ≡ true
formed_behind [] gs c h = cc
formed_behind (f ∷ fs) gs c h = cases (same_call f.call c) (λ e. rw e refl) (λ e. rw e (formed_behind fs gs c (subst (λ b. (b || is_formed fs c) ≡ true) e h)))

calls_behind : (xs ys : List Called) → map formed_call (xs ++ ys) ≡ map formed_call xs ++ map formed_call ys
calls_behind [] ys = refl
calls_behind (x ∷ xs) ys = ap (λ zs. formed_call x ∷ zs) (calls_behind xs ys)

formed_on : (fs : List Formed) (was : Formings) (c : CallTerm) → is_formed (formed_calls was) c ≡ true → is_formed (formed_calls (after fs was)) c ≡ true
formed_on fs was c h =
    let g = after_goes_on fs was in
    subst (λ (calls : List FormedCall). is_formed calls c ≡ true) (sym (ap (map formed_call) g.1 ∙ calls_behind was.calls g.0)) (formed_behind (formed_calls was) (map formed_call g.0) c h)

same_then : (fs gs hs : List FormedCall) → SameCalls fs gs → ((c : CallTerm) → is_formed fs c ≡ true → is_formed gs c ≡ true) → SameCalls gs hs → SameCalls fs hs
same_then fs gs hs p g q = record { sites = λ c h. q.sites c (g c h) ∙ p.sites c h; attributes = λ c h. q.attributes c (g c h) ∙ p.attributes c h }

pub same_itself : (fs : List FormedCall) → SameCalls fs fs
same_itself fs = record { sites = λ c h. refl; attributes = λ c h. refl }

-- what is the same for all that is formed is so for its first part
pub same_before : (fs more : List Formed) (was whole : Formings) (later : List FormedCall) → whole ≡ after (fs ++ more) was → SameCalls (formed_calls whole) later → SameCalls (formed_calls (after fs was)) later
same_before fs more was whole later e h =
    same_then (formed_calls (after fs was)) (formed_calls (after more (after fs was))) later (formed_stays more (after fs was)) (formed_on more (after fs was))
    (subst (λ (w : Formings). SameCalls (formed_calls w) later) (e ∙ after_append fs more was) h)

-- ---- gettings one behind the other

pub get_behind : (k : Frame) (xs ys : List ValueTerm) (s : State) → get_all k (as_terms (xs ++ ys)) s ≡ and_then (get_all k (as_terms xs) s) (get_all k (as_terms ys))
get_behind k [] ys s = refl
get_behind k (x ∷ xs) ys s =
    then_same (get k x s) (get_all k (as_terms (xs ++ ys))) (λ s1. and_then (get_all k (as_terms xs) s1) (get_all k (as_terms ys))) (λ s1. get_behind k xs ys s1)
    ∙ sym (then_assoc (get k x s) (get_all k (as_terms xs)) (get_all k (as_terms ys)))

pub cut_on : (base now : Told) (g : Got) (k : Frame) (ts : ValueTerms) → IsCutIn base now g → IsCutIn base now (and_then g (get_all k ts))
cut_on base now (Went s) k ts h = let r = all_grow k ts s in some_later base now (tasks_of s.events) r.more _ h r.runs
cut_on base now (Stopped c code s) k ts h = h

pub went_so : (P : State → Type 0) (g : Got) → GoesTo P g → (s : State) × (g ≡ Went s) × P s
went_so P (Went s) h = (s, refl, h)
went_so P (Stopped c code s) h = absurd h

-- ---- the first of some trees, and the others

abbrev pub ahead : ValueTerms → Scanned ValueTerms → Scanned ValueTerms
ahead NoTerm x = x
ahead (AndTerm t ts) x = scanned_beside (Forms t) (ahead ts x)

ahead_ends : (ts : ValueTerms) (e : Stop) → ahead ts (Ends e) ≡ Ends e
ahead_ends NoTerm e = refl
ahead_ends (AndTerm t ts) e = ap (scanned_beside (Forms t)) (ahead_ends ts e)

ahead_none : (ts : ValueTerms) → ahead ts (Forms NoTerm) ≡ Forms ts
ahead_none NoTerm = refl
ahead_none (AndTerm t ts) = ap (scanned_beside (Forms t)) (ahead_none ts)

ahead_push : (hs : List Head) (ts : List ValueTag) (t : ValueTag) (x : Scanned ValueTerms) → ahead (value_terms hs (ts ++ t ∷ [])) x ≡ ahead (value_terms hs ts) (scanned_beside (Forms (value_term hs t)) x)
ahead_push hs [] t x = refl
ahead_push hs (u ∷ ts) t x = ap (scanned_beside (Forms (value_term hs u))) (ahead_push hs ts t x)

forms_front : (x : Scanned ValueTerm) (own rest : List Formed) → (more : List Formed) × (forms_beside x own rest ≡ own ++ more)
forms_front (Forms t) own rest = (rest, refl)
forms_front (Ends e) own rest = ([], sym (append-nil own))

selectors_front : (x : Scanned ValueTerm) (own rest : List ValueTerm) → (more : List ValueTerm) × (selectors_beside x own rest ≡ own ++ more)
selectors_front (Forms t) own rest = (rest, refl)
selectors_front (Ends e) own rest = ([], sym (append-nil own))

module _ (setup : Setup) (x : Fixed) (k : Kept) (base : Told) where
  abbrev look : Trees → Looked
  look ts = look_at (sight_of x k) ts

  -- the machine got what comes before, and the work stands there
  pub record IsReached (at : Progress) (now : Told) (whole rest : List ValueTerm) (s : State) (f : Formings) (frame : Frame) : Type 0 where
    pub state : State
    pub stands : StandsAt setup x k base at now state f
    pub goes : get_all frame (as_terms whole) s ≡ get_all frame (as_terms rest) state

  -- what is done and what looking at the rest comes to is the whole
  pub record SoFar (whole rest : Trees) (s : State) (f : Formings) (ts : List ValueTag) (at : Progress) (now : Told) : Type 0 where
    pub formings : Formings
    pub scans : (look whole).terms ≡ ahead (value_terms (heads_of at.tags) ts) (look rest).terms
    pub forms : after (look whole).forms f ≡ after (look rest).forms formings
    pub gets : HoweverFormed x k (after (look whole).forms f) (λ frame. IsReached at now (look whole).selectors (look rest).selectors s formings frame)

  pub begins : (whole : Trees) (s : State) (f : Formings) (at : Progress) (now : Told) → StandsAt setup x k base at now s f → SoFar whole whole s f [] at now
  begins whole s f at now st = record { formings = f; scans = refl; forms = refl; gets = λ later same. record { state = s; stands = st; goes = refl } }

  pub done : (whole : Trees) (s : State) (f : Formings) (ts : List ValueTag) (at : Progress) (now : Told) → SoFar whole NoTree s f ts at now → AllLookSo setup x k base whole s f (Ok (all.Terms ts)) at now
  done whole s f ts at now so = (
    so.scans ∙ ahead_none (value_terms (heads_of at.tags) ts),
    λ later same.
        let r = so.gets later same in
        subst (GoesTo (λ s'. StandsAt setup x k base at now s' (after (look whole).forms f))) (sym r.goes)
        (subst (λ h. StandsAt setup x k base at now r.state h) (sym so.forms) r.stands),
  )

  pub cut_so_far : (whole rest : Trees) (s : State) (f : Formings) (ts : List ValueTag) (at : Progress) (now : Told) (cut : Cut) → SoFar whole rest s f ts at now → AllLookSo setup x k base whole s f (Err cut) at now
  cut_so_far whole rest s f ts at now cut so later same =
      let r = so.gets later same in
      subst (IsCutIn base now) (sym r.goes) (cut_now base now r.state (frame_with x k later) (as_terms (look rest).selectors) r.stands.work.told)

  -- looking at the next
  module _ (whole rest : Trees) (t : Tree) (s : State) (f : Formings) (ts : List ValueTag) (at : Progress) (now : Told) (so : SoFar whole (AndTree t rest) s f ts at now) (at' : Progress) (now' : Told) where
    next_same : (later : List FormedCall) → SameCalls (formed_calls (after (look whole).forms f)) later → SameCalls (formed_calls (after (forms (sight_of x k) t) so.formings)) later
    next_same later same =
        let front = forms_front (scan (sight_of x k) t) (forms (sight_of x k) t) (look rest).forms in
        same_before (forms (sight_of x k) t) front.0 so.formings (after (look whole).forms f) later (so.forms ∙ ap (λ fs. after fs so.formings) front.1) same

    pub cut_next : (cut : Cut) → ((s' : State) → StandsAt setup x k base at now s' so.formings → LooksSo setup x k base t s' so.formings (Err cut) at' now') → AllLookSo setup x k base whole s f (Err cut) at' now'
    cut_next cut looks later same =
        let r = so.gets later same in
        let front = selectors_front (scan (sight_of x k) t) (selectors (sight_of x k) t) (look rest).selectors in
        let frame = frame_with x k later in
        subst (IsCutIn base now') (sym (r.goes ∙ ap (λ ls. get_all frame (as_terms ls) r.state) front.1 ∙ get_behind frame (selectors (sight_of x k) t) front.0 r.state))
        (cut_on base now' (get_all frame (as_terms (selectors (sight_of x k) t)) r.state) frame (as_terms front.0) (looks r.state r.stands later (next_same later same)))

    -- somewhere it stands
    pub somewhere : (s' : State) × StandsAt setup x k base at now s' so.formings
    somewhere = let r = so.gets (formed_calls (after (look whole).forms f)) (same_itself (formed_calls (after (look whole).forms f))) in (r.state, r.stands)

    pub takes : (u : ValueTag) → GoesOn at.tags at'.tags → AreEarlier (heads_of at.tags) (length at.tags) ts → ((s' : State) → StandsAt setup x k base at now s' so.formings → LooksSo setup x k base t s' so.formings (Ok (one.Value u)) at' now') → SoFar whole rest s f (ts ++ u ∷ []) at' now'
    takes u on early looks =
        let here = somewhere in
        let scans = (looks here.0 here.1).0 in
        record {
          formings = after (forms (sight_of x k) t) so.formings;
          scans =
              so.scans
              ∙ ap (λ y. ahead (value_terms (heads_of at.tags) ts) (scanned_beside y (look rest).terms)) scans
              ∙ ap (λ vs. ahead vs (scanned_beside (Forms (value_term (heads_of at'.tags) u)) (look rest).terms)) (sym (values_on at.tags at'.tags on ts early))
              ∙ sym (ahead_push (heads_of at'.tags) ts u (look rest).terms);
          forms =
              so.forms
              ∙ ap (λ y. after (forms_beside y (forms (sight_of x k) t) (look rest).forms) so.formings) scans
              ∙ after_append (forms (sight_of x k) t) (look rest).forms so.formings;
          gets = λ later same.
              let r = so.gets later same in
              let frame = frame_with x k later in
              let w = went_so (λ s'. StandsAt setup x k base at' now' s' (after (forms (sight_of x k) t) so.formings)) (get_all frame (as_terms (selectors (sight_of x k) t)) r.state) ((looks r.state r.stands).1 later (next_same later same)) in
              record {
                state = w.0;
                stands = w.2;
                goes =
                    r.goes
                    ∙ ap (λ y. get_all frame (as_terms (selectors_beside y (selectors (sight_of x k) t) (look rest).selectors)) r.state) scans
                    ∙ get_behind frame (selectors (sight_of x k) t) (look rest).selectors r.state
                    ∙ ap (λ g. and_then g (get_all frame (as_terms (look rest).selectors))) w.1;
              };
        }

    -- the next ends it
    pub ended_scans : (e : Stop) → scan (sight_of x k) t ≡ Ends e → (look whole).terms ≡ Ends e
    ended_scans e scans =
        so.scans
        ∙ ap (λ y. ahead (value_terms (heads_of at.tags) ts) (scanned_beside y (look rest).terms)) scans
        ∙ ahead_ends (value_terms (heads_of at.tags) ts) e

    ended_gets : (e : Stop) → scan (sight_of x k) t ≡ Ends e → (Q : Formings → Got → Type 0) → ((s' : State) → StandsAt setup x k base at now s' so.formings → HoweverFormed x k (after (forms (sight_of x k) t) so.formings) (λ frame. Q (after (forms (sight_of x k) t) so.formings) (get_all frame (as_terms (selectors (sight_of x k) t)) s'))) →
        HoweverFormed x k (after (look whole).forms f) (λ frame. Q (after (look whole).forms f) (get_all frame (as_terms (look whole).selectors) s))
    ended_gets e scans Q looks later same =
        let r = so.gets later same in
        let frame = frame_with x k later in
        let formed : after (look whole).forms f ≡ after (forms (sight_of x k) t) so.formings = so.forms ∙ ap (λ y. after (forms_beside y (forms (sight_of x k) t) (look rest).forms) so.formings) scans in
        subst (Q (after (look whole).forms f)) (sym (r.goes ∙ ap (λ y. get_all frame (as_terms (selectors_beside y (selectors (sight_of x k) t) (look rest).selectors)) r.state) scans))
        (subst (λ h. Q h (get_all frame (as_terms (selectors (sight_of x k) t)) r.state)) (sym formed) (looks r.state r.stands later (next_same later same)))

    pub off : ((s' : State) → StandsAt setup x k base at now s' so.formings → LooksSo setup x k base t s' so.formings (Ok one.Off) at' now') → AllLookSo setup x k base whole s f (Ok all.Off) at' now'
    off looks =
        let here = somewhere in
        let scans = (looks here.0 here.1).0 in
        (ended_scans _ scans, ended_gets _ scans (λ h g. GoesTo (λ s'. StandsAt setup x k base at' now' s' h) g) (λ s' st. (looks s' st).1))

    pub halt : (n : ℕ) (code : Code) → ((s' : State) → StandsAt setup x k base at now s' so.formings → LooksSo setup x k base t s' so.formings (Ok (one.Halt n code)) at' now') → AllLookSo setup x k base whole s f (Ok (all.Halt n code)) at' now'
    halt n code looks =
        let here = somewhere in
        let scans = (looks here.0 here.1).0 in
        (ended_scans _ scans, ended_gets _ scans (λ h g. GoesTo (λ s'. StandsAt setup x k base at' now' s' h) g) (λ s' st. (looks s' st).1))

    pub refused : (n : ℕ) (r : Refusal) → ((s' : State) → StandsAt setup x k base at now s' so.formings → LooksSo setup x k base t s' so.formings (Ok (one.Refused n r)) at' now') → AllLookSo setup x k base whole s f (Ok (all.Refused n r)) at' now'
    refused n r looks =
        let here = somewhere in
        let scans = (looks here.0 here.1).0 in
        ((scans.0, ended_scans _ scans.1), ended_gets _ scans.1 (λ h g. StopsAt at'.tags r (λ s'. StandsAt setup x k base at' now' s' h) g) (λ s' st. (looks s' st).1))
