-- What is kept as more is settled.
use Rattle.dx_demand.specs.Terms.{IsValue}
use Rattle.std.proofs.Common.{◌≡◌, ◌⊎◌, ⊎_elim, inl, inr, ℕ, zero, suc, ◌<◌, List, [], ◌∷◌, ◌++◌, length, get_or, Option, Some, None, Bool, true, false, refl, sym, ap, ◌∙◌, subst}
use Rattle.std.proofs.Common.{true≢false}
use Rattle.std.specs.Prelude.{◌==◌, slice_set, slice_index_or, is_some, cond}
use Rattle.std.specs.HashMap.{get_by}
use Rattle.std.specs.Cmp.{unsigned_Decides}
use Rattle.std.proofs.lemmas.List.{get_or-set_same, get_or-set_other}
use Rattle.dx_graph.specs.Graph.{Node}
use Rattle.dx_tags.specs.declared.term.Term.{Term}
use Rattle.dx_tags.specs.declared.term.ValueTag.{ValueTag}
use Rattle.dx_tags.specs.Closed.{heads_of, value_term}
use Rattle.dx_meaning.specs.Scan.{Sight, Forms}
use Rattle.dx_demand.specs.Memo.{Answers, answers_of, same_port, formed_of, with_formed, first_or, with_answer, EmptyMemo, selector_of, shown, SettledFits, port_scan, selector_scan, MemoFits, MemoRight}
use Rattle.dx_demand.specs.Steps.{KeepsSelectors}
use Rattle.dx_demand.specs.declared.settled.Port.{Port}
use Rattle.dx_demand.specs.declared.settled.Answer.{Answer}
use Rattle.dx_demand.specs.declared.seen.Memo.{Memo}
use Rattle.dx_demand.proofs.Stacks.{answer_put}

-- ---- a port that is settled

pub selectors_same : (old new : Memo) → new.selectors ≡ old.selectors → (n : ℕ) → selector_of new n ≡ selector_of old n
selectors_same old new e n = ap (λ xs. slice_index_or xs.items n None) e

pub formed_same : (old new : Memo) → new.formed ≡ old.formed → (t : ℕ) → formed_of new t ≡ formed_of old t
formed_same old new e t = ap (λ xs. get_by (λ u. t == u) xs) e

pub settle_fits : (nodes : List Node) (terms : List Term) (old new : Memo) (p : Port) (a : Answer) → answers_of new ≡ with_answer (answers_of old) p a → new.selectors ≡ old.selectors → new.formed ≡ old.formed →
    SettledFits nodes terms a.settled → MemoFits nodes terms old → MemoFits nodes terms new
settle_fits nodes terms old new p a e same first fits h = record {
  answers = λ q b at. ⊎_elim
      (λ k. subst (λ (x : Answer). SettledFits nodes terms x.settled) k.1 fits)
      (λ k. h.answers q b k)
      (answer_put (answers_of old) p a q b (sym (ap (λ (f : Answers). f q) e) ∙ at));
  selectors = λ n t at. h.selectors n t (sym (selectors_same old new same n) ∙ at);
  places = ap (λ xs. length xs.items) same ∙ h.places;
  formed = λ t n at. h.formed t n (sym (formed_same old new first t) ∙ at);
}

pub settle_right : (s : Sight) (nodes : List Node) (terms : List Term) (old new : Memo) (p : Port) (a : Answer) → answers_of new ≡ with_answer (answers_of old) p a → new.selectors ≡ old.selectors →
    port_scan s nodes p ≡ shown nodes terms a.settled → MemoRight s nodes terms old → MemoRight s nodes terms new
settle_right s nodes terms old new p a e same is h = record {
  answers = λ q b at. ⊎_elim
      (λ k. ap (port_scan s nodes) (sym k.0) ∙ is ∙ ap (λ (x : Answer). shown nodes terms x.settled) k.1)
      (λ k. h.answers q b k)
      (answer_put (answers_of old) p a q b (sym (ap (λ (f : Answers). f q) e) ∙ at));
  selectors = λ n t at. h.selectors n t (sym (selectors_same old new same n) ∙ at);
}

pub settle_keeps : (old new : Memo) → new.selectors ≡ old.selectors → KeepsSelectors old new
settle_keeps old new same n t at = selectors_same old new same n ∙ at

-- ---- a selector whose term is found

some_same : (t u : ValueTag) (o : Option ValueTag) → o ≡ Some t → o ≡ Some u → t ≡ u
some_same t u o e f = let both : Some t ≡ Some u = sym e ∙ f in cc

select_put : (xs : List (Option ValueTag)) (n m : ℕ) (t u : ValueTag) → n < length xs → slice_index_or (slice_set xs n (Some t)) m None ≡ Some u → ((m ≡ n) × (t ≡ u)) ⊎ (slice_index_or xs m None ≡ Some u)
select_put xs n m t u h e = go (m == n) refl
  where
    go : (b : Bool) → (m == n) ≡ b → ((m ≡ n) × (t ≡ u)) ⊎ (slice_index_or xs m None ≡ Some u)
    go true k =
        let same : m ≡ n = (unsigned_Decides m n).0 k in
        inl (same, some_same t u (get_or (slice_set xs n (Some t)) m None) (ap (λ (j : ℕ). get_or (slice_set xs n (Some t)) j None) same ∙ get_or-set_same xs n (Some t) None h) e)
    go false k =
        let other : ¬ (m ≡ n) = λ q. true≢false (sym ((unsigned_Decides m n).1 q) ∙ k) in
        inr (sym (get_or-set_other xs n m (Some t) None other) ∙ e)

pub answers_same : (old new : Memo) → new.answers ≡ old.answers → (q : Port) → answers_of new q ≡ answers_of old q
answers_same old new e q = ap (λ xs. get_by (same_port q) xs) e

abbrev pub Selects : Memo → Memo → ℕ → ValueTag → Type 0
Selects old new n t = (new.selectors.items ≡ slice_set old.selectors.items n (Some t)) × (new.answers ≡ old.answers) × (new.formed ≡ old.formed)

pub selected : (old new : Memo) (n m : ℕ) (t u : ValueTag) → Selects old new n t → n < length old.selectors.items → selector_of new m ≡ Some u → ((m ≡ n) × (t ≡ u)) ⊎ (selector_of old m ≡ Some u)
selected old new n m t u s h e = select_put old.selectors.items n m t u h (sym (ap (λ xs. slice_index_or xs m None) s.0) ∙ e)

pub select_fits : (nodes : List Node) (terms : List Term) (old new : Memo) (n : ℕ) (t : ValueTag) → Selects old new n t → n < length old.selectors.items → IsValue terms t → length new.selectors.items ≡ length old.selectors.items → MemoFits nodes terms old → MemoFits nodes terms new
select_fits nodes terms old new n t s lt fits len h = record {
  answers = λ q b at. h.answers q b (sym (answers_same old new s.1 q) ∙ at);
  selectors = λ m u at. ⊎_elim (λ k. subst (IsValue terms) k.1 fits) (λ k. h.selectors m u k) (selected old new n m t u s lt at);
  places = len ∙ h.places;
  formed = λ u m at. h.formed u m (sym (formed_same old new s.2 u) ∙ at);
}

pub select_right : (s : Sight) (nodes : List Node) (terms : List Term) (old new : Memo) (n : ℕ) (t : ValueTag) → Selects old new n t → n < length old.selectors.items → selector_scan s nodes n ≡ Forms (value_term (heads_of terms) t) → MemoRight s nodes terms old → MemoRight s nodes terms new
select_right s nodes terms old new n t x lt is h = record {
  answers = λ q b at. h.answers q b (sym (answers_same old new x.1 q) ∙ at);
  selectors = λ m u at. ⊎_elim (λ k. ap (selector_scan s nodes) k.0 ∙ is ∙ ap (λ v. Forms (value_term (heads_of terms) v)) k.1) (λ k. h.selectors m u k) (selected old new n m t u x lt at);
}

pub select_keeps : (old new : Memo) (n : ℕ) (t : ValueTag) → Selects old new n t → n < length old.selectors.items → selector_of old n ≡ None → KeepsSelectors old new
select_keeps old new n t s lt none m u at =
    let other : ¬ (m ≡ n) = λ e. (let both : None ≡ Some u = sym none ∙ ap (selector_of old) (sym e) ∙ at in cc) in
    ap (λ xs. slice_index_or xs m None) s.0 ∙ get_or-set_other old.selectors.items n m (Some t) None other ∙ at

-- ---- a call term that a node forms

pub formed_put : (first : ℕ → Option ℕ) (t n u m : ℕ) → with_formed first t n u ≡ Some m → ((u ≡ t) × (m ≡ n)) ⊎ (first u ≡ Some m)
formed_put first t n u m = go (first u) (t == u) refl
  where
    go : (o : Option ℕ) (b : Bool) → (t == u) ≡ b → first_or o n b ≡ Some m → ((u ≡ t) × (m ≡ n)) ⊎ (o ≡ Some m)
    go (Some k) b e h = inr h
    go None true e h = inl (sym ((unsigned_Decides t u).0 e), cc)
    go None false e h = cc

none_there : (o : Option ℕ) → is_some o ≡ false → o ≡ None
none_there (Some n) e = cc
none_there None e = refl

put_first : (o : Option ℕ) (n : ℕ) (b : Bool) → (b ≡ true → o ≡ None) → cond b (Some n) o ≡ first_or o n b
put_first (Some k) n true h = (let e : Some k ≡ None = h refl in cc)
put_first (Some k) n false h = refl
put_first None n true h = refl
put_first None n false h = refl

-- a tag that isn't there is put
pub formed_new : (first new : ℕ → Option ℕ) (t n : ℕ) → is_some (first t) ≡ false → ((u : ℕ) → new u ≡ cond (t == u) (Some n) (first u)) → new ≡ with_formed first t n
formed_new first new t n none put = λ i u. (put u ∙ put_first (first u) n (t == u) (λ e. ap first (sym ((unsigned_Decides t u).0 e)) ∙ none_there (first t) none)) i

-- one that is there stays
pub formed_stays : (first : ℕ → Option ℕ) (t n : ℕ) → is_some (first t) ≡ true → first ≡ with_formed first t n
formed_stays first t n there = λ i u. go u (first u) (t == u) refl refl i
  where
    go : (u : ℕ) (o : Option ℕ) (b : Bool) → first u ≡ o → (t == u) ≡ b → o ≡ first_or o n b
    go u (Some k) b f e = refl
    go u None false f e = refl
    go u None true f e = (let here : first t ≡ None = ap first ((unsigned_Decides t u).0 e) ∙ f in let no : is_some (first t) ≡ false = ap is_some here in absurd (true≢false (sym there ∙ no)))

abbrev pub FormsOne : Memo → Memo → ℕ → ℕ → Type 0
FormsOne old new t n = (formed_of new ≡ with_formed (formed_of old) t n) × (new.answers ≡ old.answers) × (new.selectors ≡ old.selectors)

pub form_fits : (nodes : List Node) (terms : List Term) (old new : Memo) (t n : ℕ) → FormsOne old new t n → t < length terms → n < length nodes → MemoFits nodes terms old → MemoFits nodes terms new
form_fits nodes terms old new t n f lt within h = record {
  answers = λ q b at. h.answers q b (sym (answers_same old new f.1 q) ∙ at);
  selectors = λ m u at. h.selectors m u (sym (selectors_same old new f.2 m) ∙ at);
  places = ap (λ xs. length xs.items) f.2 ∙ h.places;
  formed = λ u m at. ⊎_elim
      (λ k. (subst (λ x. x < length terms) (sym k.0) lt, subst (λ x. x < length nodes) (sym k.1) within))
      (λ k. h.formed u m k)
      (formed_put (formed_of old) t n u m (sym (ap (λ (x : ℕ → Option ℕ). x u) f.0) ∙ at));
}

pub form_right : (s : Sight) (nodes : List Node) (terms : List Term) (old new : Memo) → new.answers ≡ old.answers → new.selectors ≡ old.selectors → MemoRight s nodes terms old → MemoRight s nodes terms new
form_right s nodes terms old new e f h = record {
  answers = λ q b at. h.answers q b (sym (answers_same old new e q) ∙ at);
  selectors = λ m u at. h.selectors m u (sym (selectors_same old new f m) ∙ at);
}

pub same_selectors_keep : (old new : Memo) → new.selectors ≡ old.selectors → KeepsSelectors old new
same_selectors_keep old new same n t at = selectors_same old new same n ∙ at

-- ---- nothing settled

pub none_push : (xs : List (Option ValueTag)) (n : ℕ) → ((m : ℕ) → slice_index_or xs m None ≡ None) → slice_index_or (xs ++ None ∷ []) n None ≡ None
none_push [] zero h = refl
none_push [] (suc n) h = refl
none_push (x ∷ xs) zero h = h 0
none_push (x ∷ xs) (suc n) h = none_push xs n (λ m. h (suc m))

pub empty_fits : (nodes : List Node) (terms : List Term) (m : Memo) → EmptyMemo (length nodes) m → MemoFits nodes terms m
empty_fits nodes terms m h = record {
  answers = λ p a e. (let both : None ≡ Some a = sym (h.answers p) ∙ e in cc);
  selectors = λ n t e. (let both : None ≡ Some t = sym (h.selectors n) ∙ e in cc);
  places = h.places;
  formed = λ t n e. (let both : None ≡ Some n = sym (h.formed t) ∙ e in cc);
}

pub empty_right : (s : Sight) (nodes : List Node) (terms : List Term) (m : Memo) → EmptyMemo (length nodes) m → MemoRight s nodes terms m
empty_right s nodes terms m h = record {
  answers = λ p a e. (let both : None ≡ Some a = sym (h.answers p) ∙ e in cc);
  selectors = λ n t e. (let both : None ≡ Some t = sym (h.selectors n) ∙ e in cc);
}
