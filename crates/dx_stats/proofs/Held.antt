-- How large the sums get, and how they are made number by number.
use Rattle.std.proofs.Common.{◌≡◌, ℕ, suc, ◌+◌, ◌*◌, ◌<◌, ◌≤◌, ℤ, pos, negsuc, ◌+ℤ◌, ◌-ℤ◌, ◌*ℤ◌, ◌≤ℤ◌, List, [], ◌∷◌, ◌++◌, length, take, get_or, fold, refl, sym, ap, ◌∙◌, arith, length-append, cond, true, false, to_z, of_z}
use mir.Syntax.{w128}
use Rattle.std.specs.List.{All}
use Rattle.std.specs.Prelude.{int_lt}
use Rattle.std.specs.Int.{int_min, int_max}
use Rattle.std.proofs.lemmas.Int.{ints}
use Rattle.std.proofs.lemmas.List.{take_all, length-take-le}
use Rattle.std.proofs.lemmas.List.Sums.{fold_more, fold-append}
use Rattle.std.proofs.Math.Nat.{mul-le-mul_left}
use Rattle.dx_arrays.specs.Block.{IsSmall}
use Rattle.dx_arrays.specs.Reach.{IsWithin}
use Rattle.dx_stats.specs.declared.sums.Sums.{Sums}
use Rattle.dx_stats.specs.Statistics as spec
use Rattle.dx_stats.specs.Statistics.{add, add_square}
use Rattle.dx_stats.specs.Sums.{AreHeld, IsNext, Adds, AreSums, IsUpTo}

square_few : (n : ℕ) → n ≤ 4294967296 → n * n ≤ 18446744073709551616
square_few n h =
    let one = mul-le-mul_left n h in
    omega (arith, one)

-- the square of a number that some type of values holds
pub square_up_to : (v : ℤ) → IsSmall v → IsUpTo 18446744073709551616 (v *ℤ v)
square_up_to (pos n) s =
    let few : n ≤ 4294967296 = omega (arith, ints, s.high) in
    let most = square_few n few in
    record { some = omega (arith, ints); few = omega (arith, ints, most) }
square_up_to (negsuc n) s =
    let few : suc n ≤ 4294967296 = omega (arith, ints, s.low) in
    let most = square_few (suc n) few in
    record { some = omega (arith, ints); few = omega (arith, ints, most) }

-- one number more
pub held_next : (before after : Sums) (v : ℤ) → AreHeld before → IsSmall v → before.count < 16777216 → IsNext before v after → AreHeld after
held_next before after v h small few n =
    let q = square_up_to v small in
    record {
      few = omega (arith, n.count);
      total = record { low = omega (arith, ints, h.total.low, small.low, n.total, n.count); high = omega (arith, ints, h.total.high, small.high, n.total, n.count) };
      some = omega (arith, ints, h.some, q.some, n.squares);
      squares = omega (arith, ints, h.squares, q.few, n.squares, n.count);
    }

pub adds_none : (s : Sums) (vs : List ℤ) → Adds s (take 0 vs) s
adds_none s [] = record { count = omega arith; total = refl; squares = refl; least = refl; greatest = refl }
adds_none s (v ∷ vs) = record { count = omega arith; total = refl; squares = refl; least = refl; greatest = refl }

pub adds_more : (before mid after : Sums) (vs : List ℤ) (i : ℕ) → i < length vs → Adds before (take i vs) mid → IsNext mid (get_or vs i (pos 0)) after → Adds before (take (i + 1) vs) after
adds_more before mid after vs i h a n =
    let v : ℤ = get_or vs i (pos 0) in
    let one : length (take i vs) ≡ i = length-take-le i vs (omega arith) in
    let two : length (take (i + 1) vs) ≡ i + 1 = length-take-le (i + 1) vs (omega arith) in
    record {
      count = omega (arith, n.count, a.count, one, two);
      total = n.total ∙ ap (λ x. x +ℤ v) a.total ∙ sym (fold_more add before.total vs i (pos 0) h);
      squares = n.squares ∙ ap (λ x. x +ℤ v *ℤ v) a.squares ∙ sym (fold_more add_square before.squares vs i (pos 0) h);
      least = n.least ∙ ap (λ x. int_min x v) a.least ∙ sym (fold_more int_min before.least vs i (pos 0) h);
      greatest = n.greatest ∙ ap (λ x. int_max x v) a.greatest ∙ sym (fold_more int_max before.greatest vs i (pos 0) h);
    }

pub adds_all : (before after : Sums) (vs : List ℤ) (n : ℕ) → length vs ≤ n → Adds before (take n vs) after → Adds before vs after
adds_all before after vs n h a = rw (take_all n vs h) at a

-- the sums of these numbers, beginning with none
pub record FromNone (vs : List ℤ) (s : Sums) : Type 0 where
  pub count : s.count ≡ length vs
  pub total : s.total ≡ fold add (pos 0) vs
  pub squares : s.squares ≡ fold add_square (pos 0) vs
  pub least : s.least ≡ fold int_min (pos 9223372036854775807) vs
  pub greatest : s.greatest ≡ fold int_max (negsuc 9223372036854775807) vs

pub record IsNone (s : Sums) : Type 0 where
  pub count : s.count ≡ 0
  pub total : s.total ≡ pos 0
  pub squares : s.squares ≡ pos 0
  pub least : s.least ≡ pos 9223372036854775807
  pub greatest : s.greatest ≡ negsuc 9223372036854775807

pub begin_none : (s : Sums) → IsNone s → FromNone [] s
begin_none s n = record { count = n.count; total = n.total; squares = n.squares; least = n.least; greatest = n.greatest }

pub begin_with : (none s : Sums) (vs : List ℤ) → IsNone none → Adds none vs s → FromNone vs s
begin_with none s vs n a = record {
  count = omega (arith, n.count, a.count);
  total = a.total ∙ ap (λ x. fold add x vs) n.total;
  squares = a.squares ∙ ap (λ x. fold add_square x vs) n.squares;
  least = a.least ∙ ap (λ x. fold int_min x vs) n.least;
  greatest = a.greatest ∙ ap (λ x. fold int_max x vs) n.greatest;
}

pub more_numbers : (vs ws : List ℤ) (s t : Sums) → FromNone vs s → Adds s ws t → FromNone (vs ++ ws) t
more_numbers vs ws s t f a = record {
  count = a.count ∙ ap (λ x. x + length ws) f.count ∙ sym (length-append vs ws);
  total = a.total ∙ ap (λ x. fold add x ws) f.total ∙ sym (fold-append add (pos 0) vs ws);
  squares = a.squares ∙ ap (λ x. fold add_square x ws) f.squares ∙ sym (fold-append add_square (pos 0) vs ws);
  least = a.least ∙ ap (λ x. fold int_min x ws) f.least ∙ sym (fold-append int_min (pos 9223372036854775807) vs ws);
  greatest = a.greatest ∙ ap (λ x. fold int_max x ws) f.greatest ∙ sym (fold-append int_max (negsuc 9223372036854775807) vs ws);
}

below_top : (v : ℤ) → IsSmall v → int_lt v (pos 9223372036854775807) ≡ true
below_top v s = grind (arith, ints)

above_bottom : (v : ℤ) → IsSmall v → int_lt v (negsuc 9223372036854775807) ≡ false
above_bottom v s = grind (arith, ints)

first_min : (v : ℤ) → IsSmall v → int_min (pos 9223372036854775807) v ≡ v
first_min v s = rw (below_top v s) refl

first_max : (v : ℤ) → IsSmall v → int_max (negsuc 9223372036854775807) v ≡ v
first_max v s = rw (above_bottom v s) refl

-- the least and the greatest begin with the first number
pub least_is : (vs : List ℤ) → 0 < length vs → All IsSmall vs → fold int_min (pos 9223372036854775807) vs ≡ spec.least vs
least_is [] h small = absurd (omega arith)
least_is (v ∷ vs) h small = ap (λ x. fold int_min x vs) (first_min v (small 0 v (omega arith)))

pub greatest_is : (vs : List ℤ) → 0 < length vs → All IsSmall vs → fold int_max (negsuc 9223372036854775807) vs ≡ spec.greatest vs
greatest_is [] h small = absurd (omega arith)
greatest_is (v ∷ vs) h small = ap (λ x. fold int_max x vs) (first_max v (small 0 v (omega arith)))

pub are_sums : (vs : List ℤ) (s : Sums) → 0 < length vs → All IsSmall vs → FromNone vs s → AreSums vs s
are_sums vs s h small f = record {
  count = f.count;
  total = f.total;
  squares = f.squares;
  least = f.least ∙ least_is vs h small;
  greatest = f.greatest ∙ greatest_is vs h small;
}

-- a sum of the squares and one square more
pub plus_is : (a q s : ℤ) → s ≡ q → pos 0 ≤ℤ a → a ≤ℤ pos 309485009821345068724781056 → IsUpTo 18446744073709551616 q → to_z w128 (of_z w128 (to_z w128 (of_z w128 a) +ℤ to_z w128 (of_z w128 s))) ≡ a +ℤ q
plus_is a q s e low high u =
    let some = u.some in
    let few = u.few in
    rw e (omega (arith, ints))

square_wide : (n : ℕ) → n ≤ 72057594037927936 → n * n ≤ 5192296858534827628530496329220096
square_wide n h =
    let one = mul-le-mul_left n h in
    omega (arith, one)

square_within : (v : ℤ) → IsWithin 72057594037927936 v → IsUpTo 5192296858534827628530496329220096 (v *ℤ v)
square_within (pos n) w =
    let few : n ≤ 72057594037927936 = omega (arith, ints, w.high) in
    let most = square_wide n few in
    record { some = omega (arith, ints); few = omega (arith, ints, most) }
square_within (negsuc n) w =
    let few : suc n ≤ 72057594037927936 = omega (arith, ints, w.low) in
    let most = square_wide (suc n) few in
    record { some = omega (arith, ints); few = omega (arith, ints, most) }

-- the square of the sum
pub total_square : (s : Sums) → AreHeld s → IsUpTo 5192296858534827628530496329220096 (s.total *ℤ s.total)
total_square s h = square_within s.total (record { low = omega (arith, ints, h.total.low, h.few); high = omega (arith, ints, h.total.high, h.few) })

pub minus_is : (a b x y : ℤ) → x ≡ a → y ≡ b → IsUpTo 5192296858534827628530496329220096 a → IsUpTo 5192296858534827628530496329220096 b → to_z w128 (of_z w128 (to_z w128 (of_z w128 x) -ℤ to_z w128 (of_z w128 y))) ≡ a -ℤ b
minus_is a b x y e f u v =
    let a_low = u.some in
    let a_high = u.few in
    let b_low = v.some in
    let b_high = v.few in
    rw (e, f) (omega (arith, ints))

min_small : (a b : ℤ) → IsSmall a → IsSmall b → IsSmall (int_min a b)
min_small a b p q = elim (int_lt b a) as (λ t. IsSmall (cond t b a)) [ true ↦ q | false ↦ p ]

max_small : (a b : ℤ) → IsSmall a → IsSmall b → IsSmall (int_max a b)
max_small a b p q = elim (int_lt b a) as (λ t. IsSmall (cond t a b)) [ true ↦ p | false ↦ q ]

fold_min_small : (a : ℤ) (vs : List ℤ) → IsSmall a → All IsSmall vs → IsSmall (fold int_min a vs)
fold_min_small a [] p small = p
fold_min_small a (v ∷ vs) p small = fold_min_small (int_min a v) vs (min_small a v p (small 0 v (omega arith))) (λ k d h. small (suc k) d (omega arith))

fold_max_small : (a : ℤ) (vs : List ℤ) → IsSmall a → All IsSmall vs → IsSmall (fold int_max a vs)
fold_max_small a [] p small = p
fold_max_small a (v ∷ vs) p small = fold_max_small (int_max a v) vs (max_small a v p (small 0 v (omega arith))) (λ k d h. small (suc k) d (omega arith))

-- some type of values holds the least and the greatest too
pub least_small : (vs : List ℤ) → 0 < length vs → All IsSmall vs → IsSmall (spec.least vs)
least_small [] h small = absurd (omega arith)
least_small (v ∷ vs) h small = fold_min_small v vs (small 0 v (omega arith)) (λ k d h. small (suc k) d (omega arith))

pub greatest_small : (vs : List ℤ) → 0 < length vs → All IsSmall vs → IsSmall (spec.greatest vs)
greatest_small [] h small = absurd (omega arith)
greatest_small (v ∷ vs) h small = fold_max_small v vs (small 0 v (omega arith)) (λ k d h. small (suc k) d (omega arith))
