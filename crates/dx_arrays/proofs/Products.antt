-- Products of extents and counts.
use Rattle.std.proofs.Common.{◌≡◌, ℕ, zero, suc, ◌+◌, ◌*◌, ◌/◌, ◌-◌, ◌<◌, ◌≤◌, min, List, [], ◌∷◌, length, get_or, drop, refl, ap, ◌∙◌, add-one, drop-cons, arith, inl, inr}
use Rattle.std.specs.List.{All}
use Rattle.std.proofs.lemmas.List.Elements.{All-head, All-tail}
use Rattle.std.proofs.lemmas.Bool.{cases_lt}
use Rattle.std.proofs.Math.ListN.{drop_of_length-le}
use Rattle.std.proofs.Math.Nat.{mul-pos, mul_assoc, mul-suc, mul-zero, mul-le-mul_right, div-mul-le_self, suc-mul}
use Rattle.dx_base.specs.Array.{product, cells}

pub product-pos : (cs : List ℕ) → All (λ c. 0 < c) cs → 0 < product cs
product-pos [] h = omega arith
product-pos (c ∷ cs) h = mul-pos (All-head (λ c. 0 < c) c cs h) (product-pos cs (All-tail (λ c. 0 < c) c cs h))

-- a product that stops at m may go on from where it stopped
pub stopped : (x q m : ℕ) → min (min x m * q) m ≡ min (x * q) m
stopped x zero m = simp mul-zero
stopped x (suc q) m =
    elim (cases_lt m x) [
      | inl h ↦ let cut : min x m ≡ m = omega arith in
          let a : m * suc q ≡ m * q + m = mul-suc m q in
          let b : x * suc q ≡ x * q + x = mul-suc x q in
          rw cut (omega (arith, a, b))
      | inr h ↦ let whole : min x m ≡ x = omega arith in rw whole refl
    ]

pub stopped_step : (cs : List ℕ) (p k m n : ℕ) → k < length cs → n ≡ min (p * get_or cs k 0) m → min (n * product (drop (k + 1) cs)) m ≡ min (p * product (drop k cs)) m
stopped_step cs p k m n h e =
    let d : drop k cs ≡ get_or cs k 0 ∷ drop (k + 1) cs = rw add-one (drop-cons cs k 0 h) in
    rw (d, e) (stopped (p * get_or cs k 0) (product (drop (k + 1) cs)) m ∙ ap (λ x. min x m) (mul_assoc p (get_or cs k 0) (product (drop (k + 1) cs))))

pub stopped_cells_step : (cs : List ℕ) (p k m n : ℕ) → k < length cs → n ≡ min (p * (get_or cs k 0 - 1)) m → min (n * product (cells (drop (k + 1) cs))) m ≡ min (p * product (cells (drop k cs))) m
stopped_cells_step cs p k m n h e =
    let d : drop k cs ≡ get_or cs k 0 ∷ drop (k + 1) cs = rw add-one (drop-cons cs k 0 h) in
    rw (d, e) (stopped (p * (get_or cs k 0 - 1)) (product (cells (drop (k + 1) cs))) m ∙ ap (λ x. min x m) (mul_assoc p (get_or cs k 0 - 1) (product (cells (drop (k + 1) cs)))))

-- the place of a value among the values of all items
pub place-lt : (i w place n : ℕ) → i < n / w → place < w → i * w + place < n
place-lt i w place n h k =
    let row : suc i * w ≤ n / w * w = mul-le-mul_right w h in
    let whole : n / w * w ≤ n = div-mul-le_self n w in
    let next : suc i * w ≡ i * w + w = suc-mul i w in
    omega (arith, row, whole, next)

-- where nothing is left, the product is whole
pub stopped_end : (cs : List ℕ) (p k m t : ℕ) → length cs ≤ k → p ≤ m → min (p * product (drop k cs)) m ≡ t → p ≡ t
stopped_end cs p k m t h le e =
    let past : drop k cs ≡ [] = drop_of_length-le cs {i = k} h in
    let all : min (p * 1) m ≡ t = rw past at e in
    omega (arith, all)

pub stopped_cells_end : (cs : List ℕ) (p k m t : ℕ) → length cs ≤ k → p ≤ m → min (p * product (cells (drop k cs))) m ≡ t → p ≡ t
stopped_cells_end cs p k m t h le e =
    let past : drop k cs ≡ [] = drop_of_length-le cs {i = k} h in
    let all : min (p * 1) m ≡ t = rw past at e in
    omega (arith, all)
