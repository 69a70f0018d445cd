-- How many nodes of a graph have a selector whose value isn't told.
use Rattle.std.proofs.Common.{◌≡◌, ℕ, zero, suc, ◌+◌, ◌<◌, ◌≤◌, [], ◌∷◌, ◌++◌, Bool, true, false, cond, Option, Some, None, refl, sym, ap, ◌∙◌, subst, arith, true≢false}
use Rattle.std.specs.Prelude.{is_some, ◌==◌}
use Rattle.std.specs.Map.{lookup}
use Rattle.std.specs.Cmp.{unsigned_Decides}
use Rattle.dx_cache.proofs.Places.{cases}
use Rattle.dx_tags.specs.declared.term.ValueTag.{ValueTag}
use Rattle.dx_tags.specs.contracts.term.ValueTagPartialEq.TheImpl as tags
use Rattle.dx_getting.proofs.Names.{tag_decides}
use Rattle.dx_demand.specs.Memo.{selector_of}
use Rattle.dx_demand.specs.Steps.{KeepsSelectors}
use Rattle.dx_demand.specs.declared.seen.Memo.{Memo}
use Rattle.dx_meaning.specs.Outcome.{Value}
use Rattle.dx_looking.specs.ToldTags.{ToldTags}

-- the selector's value is told
abbrev is_told : ToldTags → Option ValueTag → Bool
is_told told None = false
is_told told (Some t) = is_some (lookup (tags.ghosts.eq t) told)

abbrev one_open : Bool → ℕ
one_open true = 0
one_open false = 1

abbrev pub open_selectors : Memo → ToldTags → ℕ → ℕ
open_selectors m told zero = 0
open_selectors m told (suc n) = one_open (is_told told (selector_of m n)) + open_selectors m told n

-- what was told stays
found_front : (test : ValueTag → Bool) (xs ys : ToldTags) → is_some (lookup test xs) ≡ true → is_some (lookup test (xs ++ ys)) ≡ true
found_front test [] ys e = cc
found_front test (x ∷ xs) ys e = cases (test x.0) (λ q. rw q refl) (λ q. rw q (found_front test xs ys (subst (λ b. is_some (cond b (Some x.1) (lookup test xs)) ≡ true) q e)))

found_last : (t : ValueTag) (xs : ToldTags) (v : Value) → is_some (lookup (tags.ghosts.eq t) (xs ++ (t, v) ∷ [])) ≡ true
found_last t [] v = rw ((tag_decides t t).1 refl) refl
found_last t (x ∷ xs) v = cases (tags.ghosts.eq t x.0) (λ q. rw q refl) (λ q. rw q (found_last t xs v))

told_stays : (old new : Memo) (told : ToldTags) (t : ValueTag) (v : Value) → KeepsSelectors old new → (n : ℕ) (o : Option ValueTag) → selector_of old n ≡ o → is_told told o ≡ true → is_told (told ++ (t, v) ∷ []) (selector_of new n) ≡ true
told_stays old new told t v k n None e h = cc
told_stays old new told t v k n (Some u) e h = rw (k n u e) (found_front (tags.ghosts.eq u) told ((t, v) ∷ []) h)

one_less : (a b : Bool) → (a ≡ true → b ≡ true) → one_open b ≤ one_open a
one_less true b h = rw (h refl) (omega arith)
one_less false true h = omega arith
one_less false false h = omega arith

module _ (old new : Memo) (told : ToldTags) (t : ValueTag) (v : Value) (k : KeepsSelectors old new) where
  abbrev more : ToldTags
  more = told ++ (t, v) ∷ []

  no_more : (n : ℕ) → open_selectors new more n ≤ open_selectors old told n
  no_more zero = omega arith
  no_more (suc n) =
      let one = one_less (is_told told (selector_of old n)) (is_told more (selector_of new n)) (told_stays old new told t v k n (selector_of old n) refl) in
      let rest = no_more n in
      omega (arith, one, rest)

  -- the node whose selector was got
  was_open : (n : ℕ) → selector_of new n ≡ Some t → lookup (tags.ghosts.eq t) told ≡ None → (o : Option ValueTag) → selector_of old n ≡ o → is_told told o ≡ false
  was_open n s u None e = refl
  was_open n s u (Some w) e =
      let same : w ≡ t = (let both : Some w ≡ Some t = sym (k n w e) ∙ s in cc) in
      ap (λ y. is_some (lookup (tags.ghosts.eq y) told)) same ∙ ap is_some u

  pub fewer : (n : ℕ) → selector_of new n ≡ Some t → lookup (tags.ghosts.eq t) told ≡ None → (count : ℕ) → n < count → open_selectors new more count < open_selectors old told count
  fewer n s u zero lt = absurd (omega (arith, lt))
  fewer n s u (suc c) lt = cases (n == c)
      (λ q. let same : n ≡ c = (unsigned_Decides n c).0 q in
      let old_open : one_open (is_told told (selector_of old c)) ≡ 1 = ap one_open (was_open c (subst (λ y. selector_of new y ≡ Some t) same s) u (selector_of old c) refl) in
      let new_told : one_open (is_told more (selector_of new c)) ≡ 0 = ap one_open (ap (is_told more) (subst (λ y. selector_of new y ≡ Some t) same s) ∙ found_last t told v) in
      let rest = no_more c in
      omega (arith, old_open, new_told, rest))
      (λ q. let other : ¬ (n ≡ c) = λ e. true≢false (sym ((unsigned_Decides n c).1 e) ∙ q) in
      let one = one_less (is_told told (selector_of old c)) (is_told more (selector_of new c)) (told_stays old new told t v k c (selector_of old c) refl) in
      let rest = fewer n s u c (omega (arith, lt, other)) in
      omega (arith, one, rest))

pub smaller : (old new : Memo) (told told1 told2 : ToldTags) (t : ValueTag) (v : Value) → KeepsSelectors old new → told1 ≡ told → told2 ≡ told1 ++ (t, v) ∷ [] → (n : ℕ) → selector_of new n ≡ Some t → lookup (tags.ghosts.eq t) told1 ≡ None → (count : ℕ) → n < count →
    open_selectors new told2 count < open_selectors old told count
smaller old new told told1 told2 t v k e1 e2 n s u count lt =
    subst (λ y. open_selectors new y count < open_selectors old told count) (ap (λ y. y ++ (t, v) ∷ []) (sym e1) ∙ sym e2)
    (fewer old new told t v k n s (ap (lookup (tags.ghosts.eq t)) (sym e1) ∙ u) count lt)
