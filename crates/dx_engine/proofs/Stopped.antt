-- Where the getting of an effect's arguments is stopped.
use Rattle.std.proofs.Common.{◌≡◌, List, [], ◌∷◌, ◌++◌, Some, refl, sym, ap, ◌∙◌, subst}
use Rattle.std.specs.Prelude.{Result, Ok, Err}
use Rattle.dx_base.specs.declared.code.Code.{Code}
use Rattle.dx_macros.specs.Site.{Step}
use Rattle.dx_tags.specs.declared.term.Term.{Term}
use Rattle.dx_tags.specs.Closed.{ValueTerm, CallTerm, ValueTerms, heads_of}
use Rattle.dx_links.specs.Denotes.{denotes}
use Rattle.dx_machine.specs.Machine.{FormedCall, Frame, State, Got, Went, Stopped, and_then, state_at, get, get_all}
use Rattle.dx_machine.specs.Sound.{HaveAttributes, IsSound}
use Rattle.dx_machine.proofs.Keeping.{getting_keeps}
use Rattle.dx_getting.specs.Stands.{IsCall, call_at}
use Rattle.dx_getting.proofs.Getting.{then_went}
use Rattle.dx_meaning.specs.Outcome.{Value}
use Rattle.dx_meaning.specs.Scan.{Stop, Needs, Forms, Ends}
use Rattle.dx_performing.specs.Kept.{Kept}
use Rattle.dx_performing.specs.Course.{Fixed, Looked, around_of, sight_of, frame_with, as_terms, get_scanned, effect_got, value_or_none}
use Rattle.dx_performing.specs.Meant.{LinksRight}
use Rattle.dx_performing.specs.Resuming.{AreTold, IsBegun}
use Rattle.dx_looking.specs.Looking.{GoesTo, StopsAt}
use Rattle.dx_looking.specs.declared.looked.Refusal.{Refusal}
use Rattle.dx_looking.proofs.Refused.{refused_denotes}
use Rattle.dx_looking.proofs.SelectorGot.{links_have}

-- ---- how a getting ended

pub goes_on : (P : State → Type 0) (g : Got) → GoesTo P g → P (state_at g)
goes_on P (Went s) h = h
goes_on P (Stopped c code s) h = absurd h

pub record IsStopped (terms : List Term) (r : Refusal) (P : State → Type 0) (g : Got) : Type 0 where
  pub refused : CallTerm
  pub state : State
  pub is : g ≡ Stopped refused r.code state
  pub call : IsCall terms r.tag
  pub named : call_at (heads_of terms) r.tag ≡ refused
  pub there : P state

pub is_stopped : (terms : List Term) (r : Refusal) (P : State → Type 0) (g : Got) → StopsAt terms r P g → IsStopped terms r P g
is_stopped terms r P (Went s) h = absurd h
is_stopped terms r P (Stopped c code s) h = record { refused = c; state = s; is = ap (λ y. Stopped c y s) (sym h.2); call = h.0; named = h.1; there = h.3 }

pub stopped_there : (terms : List Term) (r : Refusal) (P : State → Type 0) (g : Got) → StopsAt terms r P g → P (state_at g)
stopped_there terms r P (Went s) h = absurd h
stopped_there terms r P (Stopped c code s) h = h.3

-- ---- terms with values

value_is : (r : Result Value Code) (v : Value) → value_or_none r ≡ Some v → r ≡ Ok v
value_is (Ok w) v e = (let same : w ≡ v = cc in ap Ok same)
value_is (Err code) v e = cc

module _ (x : Fixed) (k : Kept) (right : LinksRight (around_of x k) k.links) (formed : List FormedCall) (att : HaveAttributes formed) where
  abbrev frame : Frame
  frame = frame_with x k formed

  abbrev Sound : State → Type 0
  Sound s = IsSound (around_of x k) x.budget s

  not_refused : (t : ValueTerm) (v : Value) → denotes (around_of x k) t ≡ Ok v → (s : State) → Sound s → (g : Got) → get frame t s ≡ g → (s1 : State) × (get frame t s ≡ Went s1) × Sound s1
  not_refused t v e s i (Went s1) q = (s1, q, subst (λ g. Sound (state_at g)) q (getting_keeps frame t s att i))
  not_refused t v e s i (Stopped c code s1) q = let refused = refused_denotes frame t s att i (links_have (around_of x k) k.links right) c code s1 q in cc

  -- a term whose value is told isn't refused
  told_goes : (t : ValueTerm) (v : Value) → (sight_of x k).told t ≡ Some v → (s : State) → Sound s → (s1 : State) × (get frame t s ≡ Went s1) × Sound s1
  told_goes t v e s i = not_refused t v (value_is (denotes (around_of x k) t) v e) s i (get frame t s) refl

  pub all_told_go : (ts : List ValueTerm) → AreTold (sight_of x k) ts → (s : State) → Sound s → (s1 : State) × (get_all frame (as_terms ts) s ≡ Went s1) × Sound s1
  all_told_go [] h s i = (s, refl, i)
  all_told_go (t ∷ ts) h s i =
      let one = told_goes t h.0.0 h.0.1 s i in
      let rest = all_told_go ts h.1 one.0 one.2 in
      (rest.0, ap (λ g. and_then g (get_all frame (as_terms ts))) one.1 ∙ rest.1, rest.2)

  -- behind those the last is
  last_stops : (ts : List ValueTerm) (t : ValueTerm) → AreTold (sight_of x k) ts → (s : State) → Sound s → (c : CallTerm) (code : Code) (s' : State) → get_all frame (as_terms (ts ++ t ∷ [])) s ≡ Stopped c code s' → (s1 : State) × (get frame t s1 ≡ Stopped c code s') × Sound s1
  last_stops [] t h s i c code s' e = (s, sym (then_went (get frame t s)) ∙ e, i)
  last_stops (u ∷ ts) t h s i c code s' e =
      let one = told_goes u h.0.0 h.0.1 s i in
      last_stops ts t h.1 one.0 one.2 c code s' (sym (ap (λ g. and_then g (get_all frame (as_terms (ts ++ t ∷ [])))) one.1) ∙ e)

  -- ---- an effect

  -- nothing is got where looking ended
  pub none_got : (looked : Looked) (e : Stop) (s : State) → looked.terms ≡ Ends e → effect_got frame looked s ≡ get_all frame (as_terms looked.selectors) s
  none_got looked e s q = ap (λ y. and_then (get_all frame (as_terms looked.selectors) s) (get_scanned frame y)) q ∙ then_went (get_all frame (as_terms looked.selectors) s)

  -- it is stopped at the selector that looking ends at
  pub selector_stops : (looked : Looked) (place : List Step) (u : ValueTerm) → looked.terms ≡ Ends (Needs place u) → IsBegun (sight_of x k) u looked.selectors looked.selectors →
      (s : State) → Sound s → (c : CallTerm) (code : Code) (s' : State) → effect_got frame looked s ≡ Stopped c code s' → (s1 : State) × (get frame u s1 ≡ Stopped c code s') × Sound s1
  selector_stops looked place u q b s i c code s' e =
      last_stops b.before u b.told s i c code s' (subst (λ ts. get_all frame (as_terms ts) s ≡ Stopped c code s') b.ends (sym (none_got looked (Needs place u) s q) ∙ e))

  -- it is stopped at an argument
  pub argument_stops : (looked : Looked) (ts : ValueTerms) → looked.terms ≡ Forms ts → AreTold (sight_of x k) looked.selectors →
      (s : State) → Sound s → (c : CallTerm) (code : Code) (s' : State) → effect_got frame looked s ≡ Stopped c code s' → (s1 : State) × (get_all frame ts s1 ≡ Stopped c code s') × Sound s1
  argument_stops looked ts q told s i c code s' e =
      let went = all_told_go looked.selectors told s i in
      (went.0, sym (ap (λ g. and_then g (get_all frame ts)) went.1) ∙ sym (ap (λ y. and_then (get_all frame (as_terms looked.selectors) s) (get_scanned frame y)) q) ∙ e, went.2)
