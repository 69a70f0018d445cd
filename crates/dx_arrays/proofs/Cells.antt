-- The corners of a cell: the number by division is the one in the list.
use Rattle.std.proofs.Common.{◌≡◌, ℕ, zero, suc, ◌+◌, ◌-◌, ◌*◌, ◌/◌, ◌%◌, ◌^◌, ◌<◌, ◌≤◌, List, [], ◌∷◌, ◌++◌, map, length, get_or, drop, refl, sym, ap, ◌∙◌, add-one, drop-cons, arith, inl, inr, length-append, add_comm}
use Rattle.std.specs.List.{All}
use Rattle.std.proofs.lemmas.Bool.{cases_lt}
use Rattle.std.proofs.lemmas.List.{length-map, get_or-map, get_or-append_right}
use Rattle.std.proofs.lemmas.List.Elements.{All-head, All-tail, All-drop, All-get_or}
use Rattle.std.proofs.Math.ListN.{get_or-append}
use Rattle.std.proofs.Math.Nat.{mul_assoc, mul_comm, pow-suc, mul-le-mul_left, mul-le-mul_right, mul-add-div_right, mul-add-mod_self_right, div-eq_of_lt, div-div-eq-div-mul, suc-mul, mul-zero, zero-mul}
use Rattle.dx_base.specs.Array.{product, cells, indices_of, corner_numbers}
use Rattle.dx_arrays.specs.Corner.{corner_at}

pub length-indices_of : (cs : List ℕ) (i : ℕ) → length (indices_of cs i) ≡ length cs
length-indices_of [] i = refl
length-indices_of (c ∷ cs) i = ap suc (length-indices_of cs i)

pub length-corner_numbers : (cs js : List ℕ) → length js ≡ length cs → length (corner_numbers cs js) ≡ 2 ^ length cs
length-corner_numbers [] js h = refl
length-corner_numbers (c ∷ cs) [] h = absurd (omega arith)
length-corner_numbers (c ∷ cs) (j ∷ js) h =
    let below : length (corner_numbers cs js) ≡ 2 ^ length cs = length-corner_numbers cs js (omega arith) in
    let two : 2 ^ suc (length cs) ≡ 2 ^ length cs * 2 = pow-suc 2 (length cs) in
    simp (length-append, length-map) (omega (arith, below, two))

pub length-cell : (cs : List ℕ) (i : ℕ) → length (corner_numbers cs (indices_of (cells cs) i)) ≡ 2 ^ length cs
length-cell cs i = length-corner_numbers cs (indices_of (cells cs) i) (length-indices_of (cells cs) i ∙ length-map cs (λ c. c - 1))

pub pow_pos : (n : ℕ) → 0 < 2 ^ n
pow_pos zero = omega arith
pow_pos (suc n) = let two : 2 ^ suc n ≡ 2 ^ n * 2 = pow-suc 2 n in omega (arith, two, pow_pos n)

-- a corner depends on the place within its own dimensions alone
pub corner_at-add : (cs : List ℕ) (i a p : ℕ) → corner_at cs i (a * 2 ^ length cs + p) ≡ corner_at cs i p
corner_at-add [] i a p = refl
corner_at-add (c ∷ cs) i a p =
    let q = 2 ^ length cs in
    let two : 2 ^ suc (length cs) ≡ 2 * q = pow-suc 2 (length cs) ∙ mul_comm q 2 in
    let flat : a * 2 ^ suc (length cs) + p ≡ a * 2 * q + p = ap (λ x. x + p) (ap (λ x. a * x) two ∙ sym (mul_assoc a 2 q)) in
    let div : (a * 2 * q + p) / q ≡ a * 2 + p / q = mul-add-div_right (pow_pos (length cs)) (a * 2) p in
    let digit : (a * 2 + p / q) % 2 ≡ p / q % 2 = mul-add-mod_self_right a 2 (p / q) in
    rw flat (rw (div, digit, corner_at-add cs i (a * 2) p) refl)

pub corner_at-lt : (cs : List ℕ) (i p : ℕ) → All (λ c. 1 < c) cs → corner_at cs i p < product cs
corner_at-lt [] i p h = omega arith
corner_at-lt (c ∷ cs) i p h =
    let some : 1 < c = All-head (λ c. 1 < c) c cs h in
    let s = i / product (cells cs) % (c - 1) + p / 2 ^ length cs % 2 in
    let side : s + 1 ≤ c = omega arith in
    let row : (s + 1) * product cs ≤ c * product cs = mul-le-mul_right (product cs) side in
    let next : suc s * product cs ≡ s * product cs + product cs = suc-mul s (product cs) in
    let one : s + 1 ≡ suc s = omega arith in
    let row' : suc s * product cs ≤ c * product cs = rw one at row in
    omega (arith, row', next, corner_at-lt cs i p (All-tail (λ c. 1 < c) c cs h))

-- the corner by division is the one in the list
pub corner_numbers_at : (cs : List ℕ) (i p : ℕ) → p < 2 ^ length cs → get_or (corner_numbers cs (indices_of (cells cs) i)) p 0 ≡ corner_at cs i p
corner_numbers_at [] i zero h = refl
corner_numbers_at [] i (suc p) h = absurd (omega arith)
corner_numbers_at (c ∷ cs) i p h =
    let q = 2 ^ length cs in
    let w = product cs in
    let j = i / product (cells cs) % (c - 1) in
    let all = corner_numbers cs (indices_of (cells cs) i) in
    let near : List ℕ = map (λ m. j * w + m) all in
    let far : List ℕ = map (λ m. (j + 1) * w + m) all in
    let two : 2 ^ suc (length cs) ≡ q * 2 = pow-suc 2 (length cs) in
    let half : length all ≡ q = length-cell cs i in
    let near_half : length near ≡ q = length-map all (λ m. j * w + m) ∙ half in
    elim (cases_lt p q) [
      | inl low ↦
          let at : get_or (near ++ far) p 0 ≡ get_or near p 0 = get_or-append near far 0 p (omega arith) in
          let one : get_or near p 0 ≡ j * w + get_or all p 0 = get_or-map (λ m. j * w + m) all p 0 0 (omega arith) in
          let none : p / q ≡ 0 = div-eq_of_lt low in
          let same : (j + 0 % 2) * w ≡ j * w = ap (λ x. x * w) (omega arith) in
          at ∙ one ∙ rw (none, same, corner_numbers_at cs i p low) refl
      | inr high ↦
          let at : get_or (near ++ far) p 0 ≡ get_or far (p - q) 0 = get_or-append_right near far q p 0 near_half high in
          let small : p - q < q = omega arith in
          let one : get_or far (p - q) 0 ≡ (j + 1) * w + get_or all (p - q) 0 = get_or-map (λ m. (j + 1) * w + m) all (p - q) 0 0 (omega arith) in
          let split : p ≡ 1 * q + (p - q) = omega arith in
          let div : (1 * q + (p - q)) / q ≡ 1 + (p - q) / q = mul-add-div_right (pow_pos (length cs)) 1 (p - q) in
          let none : (p - q) / q ≡ 0 = div-eq_of_lt small in
          let digit : p / q % 2 ≡ 1 = ap (λ x. x / q % 2) split ∙ ap (λ x. x % 2) (div ∙ ap (λ x. 1 + x) none) in
          let below : corner_at cs i p ≡ corner_at cs i (p - q) = ap (corner_at cs i) split ∙ corner_at-add cs i 1 (p - q) in
          at ∙ one ∙ rw (digit, below, corner_numbers_at cs i (p - q) small) refl
    ]

pub drop_product-le : (k : ℕ) (cs : List ℕ) → All (λ c. 1 < c) cs → product (drop k cs) ≤ product cs
drop_product-le zero cs h = omega arith
drop_product-le (suc k) [] h = omega arith
drop_product-le (suc k) (c ∷ cs) h =
    let below = drop_product-le k cs (All-tail (λ c. 1 < c) c cs h) in
    let some : 1 < c = All-head (λ c. 1 < c) c cs h in
    let row : 1 * product cs ≤ c * product cs = mul-le-mul_right (product cs) (omega arith) in
    omega (arith, below, row)

-- one step of the walk over the dimensions, the last first: from those behind j to those behind k
pub record CornerStep (cs : List ℕ) (i p k j : ℕ) : Type 0 where
  pub cell : i / product (cells (drop k cs)) ≡ i / product (cells (drop j cs)) / (get_or cs k 0 - 1)
  pub side : p / 2 ^ length (drop k cs) ≡ p / 2 ^ length (drop j cs) / 2
  pub stride : product (drop k cs) ≡ product (drop j cs) * get_or cs k 0
  pub number : corner_at (drop k cs) i p ≡ corner_at (drop j cs) i p + (i / product (cells (drop j cs)) % (get_or cs k 0 - 1) + p / 2 ^ length (drop j cs) % 2) * product (drop j cs)
  pub below : corner_at (drop k cs) i p < product (drop k cs)
  pub small : product (drop k cs) ≤ product cs
  pub some : 1 < get_or cs k 0

pub corner_step : (cs : List ℕ) (i p k j : ℕ) → j ≡ k + 1 → k < length cs → All (λ c. 1 < c) cs → CornerStep cs i p k j
corner_step cs i p k j next h all =
    let g = get_or cs k 0 in
    let rest : List ℕ = drop j cs in
    let e : drop k cs ≡ g ∷ rest = rw next (rw add-one (drop-cons cs k 0 h)) in
    let two : 2 ^ suc (length rest) ≡ 2 ^ length rest * 2 = pow-suc 2 (length rest) in
    record {
      cell = rw e (sym (div-div-eq-div-mul i (product (cells rest)) (g - 1) ∙ ap (λ x. i / x) (mul_comm (product (cells rest)) (g - 1))));
      side = rw e (ap (λ x. p / x) two ∙ sym (div-div-eq-div-mul p (2 ^ length rest) 2));
      stride = rw e (mul_comm g (product rest));
      number = rw e (add_comm ((i / product (cells rest) % (g - 1) + p / 2 ^ length rest % 2) * product rest) (corner_at rest i p));
      below = corner_at-lt (drop k cs) i p (All-drop (λ c. 1 < c) k cs all);
      small = drop_product-le k cs all;
      some = All-get_or (λ c. 1 < c) cs k 0 h all;
    }

-- what the loop has in hand before the step
pub record CornerSoFar (cs : List ℕ) (i p j own_cell own_side own_stride own_number : ℕ) : Type 0 where
  pub cell : own_cell ≡ i / product (cells (drop j cs))
  pub side : own_side ≡ p / 2 ^ length (drop j cs)
  pub stride : own_stride ≡ product (drop j cs)
  pub number : own_number ≡ corner_at (drop j cs) i p

pub corner_sum : (cs : List ℕ) (i p k j cell side stride number : ℕ) → CornerStep cs i p k j → CornerSoFar cs i p j cell side stride number →
    number + (cell % (get_or cs k 0 - 1) + side % 2) * stride ≡ corner_at (drop k cs) i p
corner_sum cs i p k j cell side stride number s f = rw (f.cell, f.side, f.stride, f.number) (sym s.number)

-- a grid that has a cell has more than one point along each dimension
pub more_than_one : (cs : List ℕ) → 0 < product (cells cs) → All (λ c. 1 < c) cs
more_than_one [] h k d l = absurd (omega arith)
more_than_one (c ∷ cs) h zero d l = elim (cases_lt 1 c) [
  | inl some ↦ some
  | inr few ↦ absurd (let none : c - 1 ≡ 0 = omega arith in let zero : (c - 1) * product (cells cs) ≡ 0 = rw none (zero-mul (product (cells cs))) in omega (arith, zero))
]
more_than_one (c ∷ cs) h (suc k) d l =
    let rest : 0 < product (cells cs) = elim (cases_lt 0 (product (cells cs))) [
      | inl some ↦ some
      | inr few ↦ absurd (let none : product (cells cs) ≡ 0 = omega arith in let zero : (c - 1) * product (cells cs) ≡ 0 = rw none (mul-zero (c - 1)) in omega (arith, zero))
    ] in
    more_than_one cs rest k d (omega arith)

crossed : (q k r : ℕ) → q * 2 * (k * r) ≡ 2 * k * (q * r)
crossed q k r =
    ap (λ x. x * (k * r)) (mul_comm q 2) ∙ mul_assoc 2 q (k * r) ∙ ap (λ x. 2 * x) (sym (mul_assoc q k r) ∙ ap (λ x. x * r) (mul_comm q k) ∙ mul_assoc k q r) ∙ sym (mul_assoc 2 k (q * r))

-- such a grid has at most 2 ^ n times as many points as cells
pub points-le : (cs : List ℕ) → All (λ c. 1 < c) cs → product cs ≤ 2 ^ length cs * product (cells cs)
points-le [] h = omega arith
points-le (c ∷ cs) h =
    let some : 1 < c = All-head (λ c. 1 < c) c cs h in
    let q = 2 ^ length cs in
    let r = product (cells cs) in
    let below = points-le cs (All-tail (λ c. 1 < c) c cs h) in
    let double : c ≤ 2 * (c - 1) = omega arith in
    let first : c * product cs ≤ 2 * (c - 1) * product cs = mul-le-mul_right (product cs) double in
    let second : 2 * (c - 1) * product cs ≤ 2 * (c - 1) * (q * r) = mul-le-mul_left (2 * (c - 1)) below in
    let two : 2 ^ suc (length cs) ≡ q * 2 = pow-suc 2 (length cs) in
    let order : 2 * (c - 1) * (q * r) ≡ 2 ^ suc (length cs) * ((c - 1) * r) = sym (ap (λ x. x * ((c - 1) * r)) two ∙ crossed q (c - 1) r) in
    omega (arith, first, second, order)

pub corners-le : (cs : List ℕ) → length cs ≤ 3 → 2 ^ length cs ≤ 8
corners-le [] h = omega arith
corners-le (a ∷ []) h = omega arith
corners-le (a ∷ b ∷ []) h = omega arith
corners-le (a ∷ b ∷ c ∷ []) h = omega arith
corners-le (a ∷ b ∷ c ∷ d ∷ cs) h = absurd (omega arith)

-- the points of a grid that has no more cells than an array has items
pub points_few : (cs : List ℕ) → length cs ≤ 3 → 0 < product (cells cs) → product (cells cs) ≤ 16777216 → product cs ≤ 134217728
points_few cs h some few =
    let a = points-le cs (more_than_one cs some) in
    let b : 2 ^ length cs * product (cells cs) ≤ 8 * product (cells cs) = mul-le-mul_right (product (cells cs)) (corners-le cs h) in
    omega (arith, a, b)
