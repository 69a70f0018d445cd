-- The numbers of a cell's corners are those of its corner points, in ascending order.
use Rattle.std.proofs.Common.{◌≡◌, ◌⊎◌, ℕ, suc, ◌+◌, ◌-◌, ◌*◌, ◌/◌, ◌%◌, ◌^◌, ◌<◌, List, [], ◌∷◌, length, get_or, refl, sym, ap, ◌∙◌, arith, inl, inr}
use Rattle.std.specs.List.{All, Contains}
use Rattle.std.specs.List.Sorted.{IsStrictlyIncreasing}
use Rattle.std.proofs.lemmas.Bool.{cases_lt}
use Rattle.std.proofs.lemmas.List.{get_or_read, get_or_default}
use Rattle.std.proofs.lemmas.List.Elements.{All-head, All-tail}
use Rattle.std.proofs.Math.Nat.{suc-mul, pow-suc, mod-lt, div-eq_of_lt, mul-add-div_right}
use Rattle.dx_base.specs.Array.{product, cells, indices_of, point_number, corner_numbers}
use Rattle.dx_arrays.specs.Laws.{IsPoint, IsCorner}
use Rattle.dx_arrays.specs.Corner.{corner_at}
use Rattle.dx_arrays.proofs.Cells.{corner_at-add, corner_at-lt, corner_numbers_at, length-cell, more_than_one, pow_pos}

-- a place in the first half is on the near side, and one in the second on the far side
near_digit : (p q : ℕ) → p < q → p / q % 2 ≡ 0
near_digit p q h = ap (λ x. x % 2) (div-eq_of_lt h)

far_digit : (p q : ℕ) → 0 < q → p < q → (1 * q + p) / q % 2 ≡ 1
far_digit p q some h = ap (λ x. x % 2) (mul-add-div_right some 1 p ∙ ap (λ x. 1 + x) (div-eq_of_lt h))

-- the corner of the near side, and the one of the far side
near_corner : (c : ℕ) (cs : List ℕ) (i p : ℕ) → p < 2 ^ length cs → corner_at (c ∷ cs) i p ≡ i / product (cells cs) % (c - 1) * product cs + corner_at cs i p
near_corner c cs i p h =
    let j = i / product (cells cs) % (c - 1) in
    let same : j + 0 ≡ j = omega arith in
    rw (near_digit p (2 ^ length cs) h, same) refl

far_corner : (c : ℕ) (cs : List ℕ) (i p : ℕ) → p < 2 ^ length cs → corner_at (c ∷ cs) i (1 * 2 ^ length cs + p) ≡ (i / product (cells cs) % (c - 1) + 1) * product cs + corner_at cs i p
far_corner c cs i p h = rw (far_digit p (2 ^ length cs) (pow_pos (length cs)) h, corner_at-add cs i 1 p) refl

pub corner_at-step : (cs : List ℕ) (i p : ℕ) → All (λ c. 1 < c) cs → p + 1 < 2 ^ length cs → corner_at cs i p < corner_at cs i (p + 1)
corner_at-step [] i p all h = absurd (omega arith)
corner_at-step (c ∷ cs) i p all h =
    let q = 2 ^ length cs in
    let w = product cs in
    let j = i / product (cells cs) % (c - 1) in
    let rest = All-tail (λ c. 1 < c) c cs all in
    let two : 2 ^ suc (length cs) ≡ q * 2 = pow-suc 2 (length cs) in
    let some = pow_pos (length cs) in
    elim (cases_lt (p + 1) q) [
      | inl low ↦
          let a = near_corner c cs i p (omega arith) in
          let b = near_corner c cs i (p + 1) low in
          let below = corner_at-step cs i p rest low in
          omega (arith, a, b, below)
      | inr high ↦ elim (cases_lt p q) [
        | inl last ↦
            let split : p + 1 ≡ 1 * q + 0 = omega arith in
            let a = near_corner c cs i p last in
            let b : corner_at (c ∷ cs) i (p + 1) ≡ (j + 1) * w + corner_at cs i 0 = ap (corner_at (c ∷ cs) i) split ∙ far_corner c cs i 0 some in
            let one : j + 1 ≡ suc j = omega arith in
            let row : (j + 1) * w ≡ j * w + w = ap (λ x. x * w) one ∙ suc-mul j w in
            omega (arith, a, b, row, corner_at-lt cs i p rest)
        | inr far ↦
            let split : p ≡ 1 * q + (p - q) = omega arith in
            let next : p + 1 ≡ 1 * q + (p - q + 1) = omega arith in
            let a : corner_at (c ∷ cs) i p ≡ (j + 1) * w + corner_at cs i (p - q) = ap (corner_at (c ∷ cs) i) split ∙ far_corner c cs i (p - q) (omega arith) in
            let b : corner_at (c ∷ cs) i (p + 1) ≡ (j + 1) * w + corner_at cs i (p - q + 1) = ap (corner_at (c ∷ cs) i) next ∙ far_corner c cs i (p - q + 1) (omega arith) in
            let below = corner_at-step cs i (p - q) rest (omega arith) in
            omega (arith, a, b, below)
      ]
    ]

pub corners_ascend : (cs : List ℕ) (i : ℕ) → i < product (cells cs) → IsStrictlyIncreasing (corner_numbers cs (indices_of (cells cs) i))
corners_ascend cs i h p l =
    let many = length-cell cs i in
    let next : p + 1 < 2 ^ length cs = omega (arith, many) in
    let a = corner_numbers_at cs i p (omega arith) in
    let b = corner_numbers_at cs i (p + 1) next in
    omega (arith, a, b, corner_at-step cs i p (more_than_one cs (omega arith)) next)

-- the indices of the corner in a place
abbrev corner_point : List ℕ → ℕ → ℕ → List ℕ
corner_point [] i p = []
corner_point (c ∷ cs) i p = (i / product (cells cs) % (c - 1) + p / 2 ^ length cs % 2) ∷ corner_point cs i p

corner_point_number : (cs : List ℕ) (i p : ℕ) → point_number cs (corner_point cs i p) ≡ corner_at cs i p
corner_point_number [] i p = refl
corner_point_number (c ∷ cs) i p = ap (λ x. (i / product (cells cs) % (c - 1) + p / 2 ^ length cs % 2) * product cs + x) (corner_point_number cs i p)

side : (j d : ℕ) → d < 2 → (j + d ≡ j) ⊎ (j + d ≡ j + 1)
side j d h = elim (cases_lt d 1) [
  | inl low ↦ inl (omega arith)
  | inr high ↦ inr (omega arith)
]

corner_point_is : (cs : List ℕ) (i p : ℕ) → IsCorner (indices_of (cells cs) i) (corner_point cs i p)
corner_point_is [] i p = tt
corner_point_is (c ∷ cs) i p = (side (i / product (cells cs) % (c - 1)) (p / 2 ^ length cs % 2) (mod-lt (p / 2 ^ length cs) (omega arith)), corner_point_is cs i p)

-- each number in the list is that of a corner point
pub corners_are : (cs : List ℕ) (i n : ℕ) → i < product (cells cs) → Contains (corner_numbers cs (indices_of (cells cs) i)) n → (is : List ℕ) × IsCorner (indices_of (cells cs) i) is × (point_number cs is ≡ n)
corners_are cs i n h k =
    let many = length-cell cs i in
    let at : n ≡ get_or (corner_numbers cs (indices_of (cells cs) i)) k.0 0 = get_or_read (corner_numbers cs (indices_of (cells cs) i)) k.0 n k.1 (sym k.2) 0 in
    (corner_point cs i k.0, corner_point_is cs i k.0, corner_point_number cs i k.0 ∙ sym (at ∙ corner_numbers_at cs i k.0 (omega (arith, many, k.1))))

-- the place of a corner
corner_place : (cs : List ℕ) (i : ℕ) (is : List ℕ) → IsCorner (indices_of (cells cs) i) is → (p : ℕ) × (p < 2 ^ length cs) × (corner_at cs i p ≡ point_number cs is)
corner_place [] i [] h = (0, omega arith, refl)
corner_place [] i (x ∷ is) h = absurd h
corner_place (c ∷ cs) i [] h = absurd h
corner_place (c ∷ cs) i (x ∷ is) h =
    let below = corner_place cs i is h.1 in
    let two : 2 ^ suc (length cs) ≡ 2 ^ length cs * 2 = pow-suc 2 (length cs) in
    elim h.0 [
      | inl near ↦ (below.0, omega (arith, two, below.1), near_corner c cs i below.0 below.1 ∙ rw (near, below.2) refl)
      | inr far ↦ (1 * 2 ^ length cs + below.0, omega (arith, two, below.1), far_corner c cs i below.0 below.1 ∙ rw (far, below.2) refl)
    ]

-- each corner point has its number in the list
pub corners_all : (cs : List ℕ) (i : ℕ) (is : List ℕ) → i < product (cells cs) → IsCorner (indices_of (cells cs) i) is → Contains (corner_numbers cs (indices_of (cells cs) i)) (point_number cs is)
corners_all cs i is h k =
    let p = corner_place cs i is k in
    let many = length-cell cs i in
    let inside : p.0 < length (corner_numbers cs (indices_of (cells cs) i)) = omega (arith, many, p.1) in
    (p.0, inside, get_or_default (corner_numbers cs (indices_of (cells cs) i)) p.0 (point_number cs is) 0 inside ∙ corner_numbers_at cs i p.0 p.1 ∙ p.2)

corner_inside : (cs : List ℕ) (i : ℕ) (is : List ℕ) → All (λ c. 1 < c) cs → IsCorner (indices_of (cells cs) i) is → IsPoint cs is
corner_inside [] i [] h k = tt
corner_inside [] i (x ∷ is) h k = absurd k
corner_inside (c ∷ cs) i [] h k = absurd k
corner_inside (c ∷ cs) i (x ∷ is) h k =
    let some : 1 < c = All-head (λ c. 1 < c) c cs h in
    let index : i / product (cells cs) % (c - 1) < c - 1 = mod-lt (i / product (cells cs)) (omega arith) in
    let here : x < c = elim k.0 [ inl near ↦ omega arith | inr far ↦ omega arith ] in
    (here, corner_inside cs i is (All-tail (λ c. 1 < c) c cs h) k.1)

-- and each corner point is a point of the grid
pub corners_inside : (cs : List ℕ) (i : ℕ) (is : List ℕ) → i < product (cells cs) → IsCorner (indices_of (cells cs) i) is → IsPoint cs is
corners_inside cs i is h k = corner_inside cs i is (more_than_one cs (omega arith)) k
