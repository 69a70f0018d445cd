-- Looking for the last definition of a name before a position, among the positions of its definitions.
use Rattle.std.proofs.Common.{◌≡◌, ℕ, zero, suc, ◌+◌, ◌-◌, ◌<◌, ◌≤◌, List, [], length, get_or, Some, None, Bool, true, false, refl, sym, ap, ◌∙◌, arith, lt-ltb}
use Rattle.std.specs.Prelude.{if◌then◌else◌, nat_lt}
use Rattle.std.specs.List.Sorted.{IsNonDecreasing, IsPartitionPoint}
use Rattle.std.proofs.lemmas.List.{get_or_default}
use Rattle.dx_ast.specs.Classes.{Text}
use Rattle.dx_base.specs.NameLists.{has}
use Rattle.dx_definitions.specs.TopTexts.{TopText, definition, last_named}
use Rattle.dx_definitions.specs.Index.{ArePositions}

-- nothing is missed where no definition stands between
last_down : (defs : List TopText) (n : Text) (q k p : ℕ) → p ≡ k + q → ((j : ℕ) → q ≤ j → j < p → has (definition defs j).targets n ≡ false) → last_named defs p n ≡ last_named defs q n
last_down defs n q zero p e h = ap (λ (x : ℕ). last_named defs x n) (omega (arith, e))
last_down defs n q (suc k) zero e h = absurd (omega (arith, e))
last_down defs n q (suc k) (suc i) e h =
    let here : has (definition defs i).targets n ≡ false = h i (omega (arith, e)) (omega arith) in
    let below = last_down defs n q k i (omega (arith, e)) (λ j le lt. h j le (omega arith)) in
    ap (λ (b : Bool). if b then Some i else last_named defs i n) here ∙ below

true_isnt_false : {P : Type 0} → true ≡ false → P
true_isnt_false e = cc

-- the definition right before a position is the last one of each of its targets
pub last_here : (defs : List TopText) (position i : ℕ) (n : Text) → position ≡ suc i → has (definition defs i).targets n ≡ true → Some i ≡ last_named defs position n
last_here defs position i n e h = sym (ap (λ (p : ℕ). last_named defs p n) e ∙ ap (λ (b : Bool). if b then Some i else last_named defs i n) h)

-- where the last of ascending positions is before a position, all are
pub all_before : (xs : List ℕ) (position : ℕ) → IsNonDecreasing xs → 0 < length xs → get_or xs (length xs - 1) 0 < position → IsPartitionPoint (λ p. nat_lt p position ≡ true) (λ p. nat_lt p position ≡ false) xs (length xs)
all_before xs position up some lt = (
  (λ k d low high.
      let same = get_or_default xs (length xs - 1) 0 d (omega (arith, some)) in
      let below = up k (length xs - 1) d (omega (arith, high)) (omega (arith, some)) in
      lt-ltb (get_or xs k d) position (omega (arith, same, below, lt))),
  (λ k d low high. absurd (omega (arith, low, high))),
)

-- the positions that are left are before the position, and all definitions of the name before it are at one of them
pub record AreLeft (positions : List ℕ) (left : ℕ) (defs : List TopText) (position : ℕ) (name : Text) : Type 0 where
  pub few : left ≤ length positions
  pub before : (m : ℕ) → m < left → get_or positions m 0 < position
  pub all : (p : ℕ) → p < position → has (definition defs p).targets name ≡ true → (m : ℕ) × (m < left) × (get_or positions m 0 ≡ p)

module _ (positions : List ℕ) (defs : List TopText) (position : ℕ) (name : Text) where
  pub starts : (n : ℕ) → ArePositions positions defs name → n ≤ length positions → IsPartitionPoint (λ p. nat_lt p position ≡ true) (λ p. nat_lt p position ≡ false) positions n → AreLeft positions n defs position name
  starts n all few parts = record {
    few = few;
    before = λ m lt. let h : nat_lt (get_or positions m 0) position ≡ true = parts.0 m 0 (omega arith) lt in grind (arith, h);
    all = λ p lt h. at p lt (all.all p h);
  }
    where
      at : (p : ℕ) → p < position → (m : ℕ) × (m < length positions) × (get_or positions m p ≡ p) → (m : ℕ) × (m < n) × (get_or positions m 0 ≡ p)
      at p lt c =
          let here : get_or positions c.0 0 ≡ p = get_or_default positions c.0 0 p c.1 ∙ c.2 in
          (c.0, under c.0 (nat_lt c.0 n) refl c.1 here, here)
        where
          under : (m : ℕ) (b : Bool) → nat_lt m n ≡ b → m < length positions → get_or positions m 0 ≡ p → m < n
          under m true e within here = grind (arith, e)
          under m false e within here =
              let late : nat_lt (get_or positions m 0) position ≡ false = parts.1 m 0 (grind (arith, e)) within in
              absurd (grind (arith, late, here, lt))

  pub passed : (left k : ℕ) → left ≡ suc k → has (definition defs (get_or positions k 0)).targets name ≡ false → AreLeft positions left defs position name → AreLeft positions k defs position name
  passed left k e none old = record {
    few = let few = old.few in omega (arith, e, few);
    before = λ m lt. old.before m (omega (arith, e, lt));
    all = λ p lt h. less p h (old.all p lt h);
  }
    where
      less : (p : ℕ) → has (definition defs p).targets name ≡ true → (m : ℕ) × (m < left) × (get_or positions m 0 ≡ p) → (m : ℕ) × (m < k) × (get_or positions m 0 ≡ p)
      less p h c = (c.0, before_last (nat_lt c.0 k) refl, c.2)
        where
          before_last : (b : Bool) → nat_lt c.0 k ≡ b → c.0 < k
          before_last true b = grind (arith, b)
          before_last false b =
              let m : c.0 ≡ k = grind (arith, b, e, c.1) in
              let here : has (definition defs p).targets name ≡ false = ap (λ (q : ℕ). has (definition defs q).targets name) (sym (ap (λ (x : ℕ). get_or positions x 0) (sym m) ∙ c.2)) ∙ none in
              true_isnt_false (sym h ∙ here)

  pub found : (left k i : ℕ) → left ≡ suc k → i ≡ get_or positions k 0 → has (definition defs i).targets name ≡ true → ArePositions positions defs name → AreLeft positions left defs position name → Some i ≡ last_named defs position name
  found left k i e at h all old =
      let few = old.few in
      let below : get_or positions k 0 < position = old.before k (omega (arith, e)) in
      let none_between : (j : ℕ) → suc i ≤ j → j < position → has (definition defs j).targets name ≡ false = λ j le lt. between j le lt (has (definition defs j).targets name) refl in
      sym (last_down defs name (suc i) (position - suc i) position (omega (arith, at, below)) none_between ∙ ap (λ (b : Bool). if b then Some i else last_named defs i name) h)
    where
      between : (j : ℕ) → suc i ≤ j → j < position → (b : Bool) → has (definition defs j).targets name ≡ b → has (definition defs j).targets name ≡ false
      between j le lt false b = b
      between j le lt true b =
          let c = old.all j lt b in
          let few = old.few in
          let less = c.1 in
          let there = c.2 in
          let ascends : get_or positions c.0 0 ≤ get_or positions k 0 = all.ascending c.0 k 0 (omega (arith, e, less)) (omega (arith, e, few)) in
          absurd (omega (arith, le, at, there, ascends))

  pub none_left : AreLeft positions 0 defs position name → None ≡ last_named defs position name
  none_left old = sym (last_down defs name 0 position position (omega arith) (λ j le lt. absent j lt (has (definition defs j).targets name) refl))
    where
      absent : (j : ℕ) → j < position → (b : Bool) → has (definition defs j).targets name ≡ b → has (definition defs j).targets name ≡ false
      absent j lt false b = b
      absent j lt true b = let less = (old.all j lt b).1 in absurd (omega (arith, less))

pub none_before : (defs : List TopText) (position : ℕ) (name : Text) → ArePositions [] defs name → None ≡ last_named defs position name
none_before defs position name all = none_left [] defs position name (record {
  few = omega arith;
  before = λ m lt. absurd (omega (arith, lt));
  all = λ p lt h. let less = (all.all p h).1 in absurd (omega (arith, less));
})
