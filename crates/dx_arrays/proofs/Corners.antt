-- The points of a grid by their indices, and the farthest of them: some point lies there, and none beyond.
use Rattle.std.proofs.Common.{◌≡◌, ℕ, zero, suc, ◌+◌, ◌-◌, ◌*◌, ◌/◌, ◌%◌, ◌<◌, ◌≤◌, ℤ, pos, negsuc, ◌+ℤ◌, ◌*ℤ◌, ◌≤ℤ◌, neg_ℤ, List, [], ◌∷◌, drop, refl, sym, ap, ◌∙◌, arith}
use Rattle.std.specs.List.{All}
use Rattle.std.proofs.lemmas.List.Elements.{All-head, All-tail}
use Rattle.std.proofs.lemmas.Int.{ints}
use Rattle.std.proofs.Math.Nat.{mul_assoc, mul_comm, mul-le-mul_right, mul-add-div_right, mul-add-mod_self_right, div-eq_of_lt, mod-eq_of_lt}
use Rattle.std.proofs.lemmas.Nat.{mul-add-lt}
use Rattle.dx_base.specs.Array.{product, indices_of, offset, number}
use Rattle.dx_arrays.specs.Reach.{below_zero, above_zero, lowest_offset, highest_offset}
use Rattle.dx_arrays.proofs.Products.{product-pos}

-- the indices depend on what is left of the number when whole grids are taken off
pub indices_of-add : (cs : List ℕ) (a j : ℕ) → All (λ c. 0 < c) cs → indices_of cs (a * product cs + j) ≡ indices_of cs j
indices_of-add [] a j h = refl
indices_of-add (c ∷ cs) a j h =
    let p = product cs in
    let rest = All-tail (λ c. 0 < c) c cs h in
    let flat : a * (c * p) + j ≡ a * c * p + j = ap (λ x. x + j) (sym (mul_assoc a c p)) in
    let div : (a * c * p + j) / p ≡ a * c + j / p = mul-add-div_right (product-pos cs rest) (a * c) j in
    let digit : (a * c + j / p) % c ≡ j / p % c = mul-add-mod_self_right a c (j / p) in
    rw flat (rw (div, digit, indices_of-add cs (a * c) j rest) refl)

-- the point at index t of the first dimension and point j of the others
pub indices_of_point : (c : ℕ) (cs : List ℕ) (t j : ℕ) → All (λ c. 0 < c) cs → t < c → j < product cs → indices_of (c ∷ cs) (t * product cs + j) ≡ t ∷ indices_of cs j
indices_of_point c cs t j h l k =
    let p = product cs in
    let div : (t * p + j) / p ≡ t + j / p = mul-add-div_right (product-pos cs h) t j in
    let none : j / p ≡ 0 = div-eq_of_lt k in
    let digit : (t + 0) % c ≡ t = ap (λ x. x % c) (omega arith) ∙ mod-eq_of_lt l in
    rw (div, none, digit, indices_of-add cs t j h) refl

pub point-lt : (c : ℕ) (cs : List ℕ) (t j : ℕ) → t < c → j < product cs → t * product cs + j < product (c ∷ cs)
point-lt c cs t j l k = rw (mul_comm c (product cs)) (mul-add-lt t (product cs) j c l k)

above_neg : (n : ℕ) → above_zero (neg_ℤ (pos n)) ≡ pos 0
above_neg zero = refl
above_neg (suc n) = refl

below_neg : (n : ℕ) → below_zero (neg_ℤ (pos n)) ≡ neg_ℤ (pos n)
below_neg zero = refl
below_neg (suc n) = refl

above_negative : (m e : ℕ) → above_zero (pos m *ℤ negsuc e) ≡ pos 0
above_negative m e = above_neg (m * suc e)

below_negative : (m e : ℕ) → below_zero (pos m *ℤ negsuc e) ≡ pos m *ℤ negsuc e
below_negative m e = below_neg (m * suc e)

up : (i c : ℕ) (d : ℤ) → i < c → (pos i *ℤ d) ≤ℤ above_zero (pos (c - 1) *ℤ d)
up i c (pos e) h = let le : i ≤ c - 1 = omega arith in let p = mul-le-mul_right e le in omega (arith, ints, p)
up i c (negsuc e) h = rw (above_negative (c - 1) e) (omega (arith, ints))

down : (i c : ℕ) (d : ℤ) → i < c → below_zero (pos (c - 1) *ℤ d) ≤ℤ (pos i *ℤ d)
down i c (pos e) h = omega (arith, ints)
down i c (negsuc e) h = let le : i ≤ c - 1 = omega arith in let p = mul-le-mul_right (suc e) le in rw (below_negative (c - 1) e) (omega (arith, ints, p))

pub offset-le_highest : (n : ℕ) (cs : List ℕ) (ds : List ℤ) (i place : ℕ) → All (λ c. 0 < c) cs → offset n (indices_of cs i) ds place ≤ℤ highest_offset n cs ds place
offset-le_highest n [] ds i place h = omega (arith, ints)
offset-le_highest n (c ∷ cs) ds i place h =
    let some : 0 < c = All-head (λ c. 0 < c) c cs h in
    let digit : i / product cs % c < c = omega arith in
    omega (arith, ints, up (i / product cs % c) c (number ds place) digit, offset-le_highest n cs (drop n ds) i place (All-tail (λ c. 0 < c) c cs h))

pub lowest-le_offset : (n : ℕ) (cs : List ℕ) (ds : List ℤ) (i place : ℕ) → All (λ c. 0 < c) cs → lowest_offset n cs ds place ≤ℤ offset n (indices_of cs i) ds place
lowest-le_offset n [] ds i place h = omega (arith, ints)
lowest-le_offset n (c ∷ cs) ds i place h =
    let some : 0 < c = All-head (λ c. 0 < c) c cs h in
    let digit : i / product cs % c < c = omega arith in
    omega (arith, ints, down (i / product cs % c) c (number ds place) digit, lowest-le_offset n cs (drop n ds) i place (All-tail (λ c. 0 < c) c cs h))

-- the index at which a dimension adds the most, and the one at which it adds the least
abbrev top : ℕ → ℤ → ℕ
top c (pos e) = c - 1
top c (negsuc e) = 0

abbrev bottom : ℕ → ℤ → ℕ
bottom c (pos e) = 0
bottom c (negsuc e) = c - 1

top-lt : (c : ℕ) (d : ℤ) → 0 < c → top c d < c
top-lt c (pos e) h = omega arith
top-lt c (negsuc e) h = omega arith

bottom-lt : (c : ℕ) (d : ℤ) → 0 < c → bottom c d < c
bottom-lt c (pos e) h = omega arith
bottom-lt c (negsuc e) h = omega arith

top_is : (c : ℕ) (d : ℤ) → pos (top c d) *ℤ d ≡ above_zero (pos (c - 1) *ℤ d)
top_is c (pos e) = refl
top_is c (negsuc e) = rw (above_negative (c - 1) e) (omega (arith, ints))

bottom_is : (c : ℕ) (d : ℤ) → pos (bottom c d) *ℤ d ≡ below_zero (pos (c - 1) *ℤ d)
bottom_is c (pos e) = omega (arith, ints)
bottom_is c (negsuc e) = sym (below_negative (c - 1) e)

pub highest_reached : (n : ℕ) (cs : List ℕ) (ds : List ℤ) (place : ℕ) → All (λ c. 0 < c) cs → (i : ℕ) × (i < product cs) × (offset n (indices_of cs i) ds place ≡ highest_offset n cs ds place)
highest_reached n [] ds place h = (0, omega arith, refl)
highest_reached n (c ∷ cs) ds place h =
    let rest = All-tail (λ c. 0 < c) c cs h in
    let some : 0 < c = All-head (λ c. 0 < c) c cs h in
    let below = highest_reached n cs (drop n ds) place rest in
    let d = number ds place in
    let small = top-lt c d some in
    (top c d * product cs + below.0, point-lt c cs (top c d) below.0 small below.1, ap (λ is. offset n is ds place) (indices_of_point c cs (top c d) below.0 rest small below.1) ∙ ap (λ z. z +ℤ offset n (indices_of cs below.0) (drop n ds) place) (top_is c d) ∙ ap (λ z. above_zero (pos (c - 1) *ℤ d) +ℤ z) below.2)

pub lowest_reached : (n : ℕ) (cs : List ℕ) (ds : List ℤ) (place : ℕ) → All (λ c. 0 < c) cs → (i : ℕ) × (i < product cs) × (offset n (indices_of cs i) ds place ≡ lowest_offset n cs ds place)
lowest_reached n [] ds place h = (0, omega arith, refl)
lowest_reached n (c ∷ cs) ds place h =
    let rest = All-tail (λ c. 0 < c) c cs h in
    let some : 0 < c = All-head (λ c. 0 < c) c cs h in
    let below = lowest_reached n cs (drop n ds) place rest in
    let d = number ds place in
    let small = bottom-lt c d some in
    (bottom c d * product cs + below.0, point-lt c cs (bottom c d) below.0 small below.1, ap (λ is. offset n is ds place) (indices_of_point c cs (bottom c d) below.0 rest small below.1) ∙ ap (λ z. z +ℤ offset n (indices_of cs below.0) (drop n ds) place) (bottom_is c d) ∙ ap (λ z. below_zero (pos (c - 1) *ℤ d) +ℤ z) below.2)
