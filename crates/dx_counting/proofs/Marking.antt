-- What the marked definitions come to: more marks count more, and one further mark counts its own definition.
use Rattle.std.proofs.Common.{◌≡◌, ⊎_elim, ℕ, zero, suc, ◌+◌, ◌<◌, ◌≤◌, List, length, Bool, true, false, refl, sym, ap, ap₂, subst, ◌∙◌, le_of_eq, arith}
use Rattle.std.specs.Prelude.{slice_index_or, slice_set, replicate}
use Rattle.std.proofs.lemmas.List.{get_or-set_same, get_or-set_other}
use Rattle.std.proofs.Math.Nat.{eq-or-lt_of_le}
use Rattle.dx_definitions.specs.TopTexts.{TopText, definition}
use Rattle.dx_macros.specs.Dictionary.{Macros}
use Rattle.dx_counting.specs.Counting.{count_text, count_where, count_marked}

no_mark : (n k : ℕ) → slice_index_or (replicate n false) k false ≡ false
no_mark zero k = refl
no_mark (suc n) zero = refl
no_mark (suc n) (suc k) = no_mark n k

no_more : (m n : ℕ) → (m + 0) + n ≡ m + n
no_more m n = omega arith

turn : (a b c : ℕ) → (a + b) + c ≡ (a + c) + b
turn a b c = omega arith

module _ (macros : Macros) (defs : List TopText) where
  pub marked_further : (marks : List Bool) (i j : ℕ) → i ≤ j → count_marked macros defs marks i ≤ count_marked macros defs marks j
  marked_further marks i zero le = let none : i ≡ 0 = omega (arith, le) in le_of_eq (ap (count_marked macros defs marks) none)
  marked_further marks i (suc j) le =
      ⊎_elim (λ same. le_of_eq (ap (count_marked macros defs marks) same))
      (λ (less : i < suc j). (let before = marked_further marks i j (omega (arith, less)) in omega (arith, before)))
      (eq-or-lt_of_le le)

  pub marked_itself : (marks : List Bool) (i : ℕ) → slice_index_or marks i false ≡ true → count_marked macros defs marks (suc i) ≡ count_marked macros defs marks i + count_text macros (definition defs i)
  marked_itself marks i e = ap (λ b. count_marked macros defs marks i + count_where b (count_text macros (definition defs i))) e

  pub none_marked : (n k : ℕ) → count_marked macros defs (replicate n false) k ≡ 0
  none_marked n zero = refl
  none_marked n (suc k) = ap₂ (λ m b. m + count_where b (count_text macros (definition defs k))) (none_marked n k) (no_mark n k)

  -- ---- one further mark

  -- it changes nothing before it
  marked_below : (marks : List Bool) (i k : ℕ) → k ≤ i → count_marked macros defs (slice_set marks i true) k ≡ count_marked macros defs marks k
  marked_below marks i zero le = refl
  marked_below marks i (suc k) le =
      ap₂ (λ m b. m + count_where b (count_text macros (definition defs k))) (marked_below marks i k (omega (arith, le))) (get_or-set_other marks i k true false (λ e. omega (arith, le)))

  -- behind it, it counts the calls of its definition
  pub marked_above : (marks : List Bool) (i k : ℕ) → i < k → i < length marks → slice_index_or marks i false ≡ false →
      count_marked macros defs (slice_set marks i true) k ≡ count_marked macros defs marks k + count_text macros (definition defs i)
  marked_above marks i zero lt long e = absurd (omega (arith, lt))
  marked_above marks i (suc k) lt long e =
      ⊎_elim here
      (λ (less : i < k).
      ap₂ (λ m b. m + count_where b (size k)) (marked_above marks i k less long e) (get_or-set_other marks i k true false (λ q. omega (arith, less)))
      ∙ turn (count_marked macros defs marks k) (size i) (count_where (slice_index_or marks k false) (size k)))
      (eq-or-lt_of_le (omega (arith, lt)))
    where
      size : ℕ → ℕ
      size j = count_text macros (definition defs j)

      here : i ≡ k → count_marked macros defs (slice_set marks i true) (suc k) ≡ count_marked macros defs marks (suc k) + size i
      here same =
          subst (λ j. count_marked macros defs (slice_set marks i true) (suc j) ≡ count_marked macros defs marks (suc j) + size i) same
          (ap₂ (λ m b. m + count_where b (size i)) (marked_below marks i i (omega arith)) (get_or-set_same marks i true false long)
          ∙ sym (ap (λ b. (count_marked macros defs marks i + count_where b (size i)) + size i) e ∙ no_more (count_marked macros defs marks i) (size i)))
