-- Points and their numbers: each says the other.
use Rattle.std.proofs.Common.{◌≡◌, ℕ, ◌+◌, ◌*◌, ◌/◌, ◌%◌, ◌<◌, List, [], ◌∷◌, refl, sym, ap, ◌∙◌, arith, inl, inr}
use Rattle.std.specs.List.{All}
use Rattle.std.proofs.lemmas.Bool.{cases_lt}
use Rattle.std.proofs.lemmas.List.Elements.{All-head, All-tail, All-cons}
use Rattle.std.proofs.lemmas.Nat.{div-add-mod'}
use Rattle.std.proofs.Math.Nat.{mul-zero, zero-mul, mod-lt, mod-eq_of_lt, div-lt_iff_lt-mul}
use Rattle.dx_base.specs.Array.{product, indices_of, point_number}
use Rattle.dx_arrays.specs.Laws.{IsPoint}
use Rattle.dx_arrays.proofs.Products.{product-pos}
use Rattle.dx_arrays.proofs.Corners.{indices_of_point, indices_of-add, point-lt}

-- a grid that has a point has a point along each dimension
pub counts-pos : (cs : List ℕ) → 0 < product cs → All (λ c. 0 < c) cs
counts-pos [] h = λ k d l. absurd (omega arith)
counts-pos (c ∷ cs) h =
    let some : 0 < c = elim (cases_lt 0 c) [
      | inl p ↦ p
      | inr p ↦ absurd (let none : c ≡ 0 = omega arith in let nothing : c * product cs ≡ 0 = rw none (zero-mul (product cs)) in omega (arith, nothing))
    ] in
    let rest : 0 < product cs = elim (cases_lt 0 (product cs)) [
      | inl p ↦ p
      | inr p ↦ absurd (let none : product cs ≡ 0 = omega arith in let nothing : c * product cs ≡ 0 = rw none (mul-zero c) in omega (arith, nothing))
    ] in
    All-cons (λ c. 0 < c) c cs some (counts-pos cs rest)

pub point_number-lt : (cs is : List ℕ) → IsPoint cs is → point_number cs is < product cs
point_number-lt [] is h = omega arith
point_number-lt (c ∷ cs) [] h = absurd h
point_number-lt (c ∷ cs) (i ∷ is) h = point-lt c cs i (point_number cs is) h.0 (point_number-lt cs is h.1)

pub indices_of-point_number : (cs is : List ℕ) → IsPoint cs is → indices_of cs (point_number cs is) ≡ is
indices_of-point_number [] [] h = refl
indices_of-point_number [] (i ∷ is) h = absurd h
indices_of-point_number (c ∷ cs) [] h = absurd h
indices_of-point_number (c ∷ cs) (i ∷ is) h =
    let small = point_number-lt cs is h.1 in
    let some : 0 < product cs = omega (arith, small) in
    indices_of_point c cs i (point_number cs is) (counts-pos cs some) h.0 small ∙ ap (λ js. i ∷ js) (indices_of-point_number cs is h.1)

pub point_number-indices_of : (cs : List ℕ) (i : ℕ) → i < product cs → point_number cs (indices_of cs i) ≡ i
point_number-indices_of [] i h = omega arith
point_number-indices_of (c ∷ cs) i h =
    let p = product cs in
    let all = counts-pos (c ∷ cs) (omega arith) in
    let rest = All-tail (λ c. 0 < c) c cs all in
    let some = product-pos cs rest in
    let row : i / p < c = (div-lt_iff_lt-mul {x = i} {y = c} some).1 h in
    let split : i / p * p + i % p ≡ i = div-add-mod' i p in
    let same : indices_of cs i ≡ indices_of cs (i % p) = ap (indices_of cs) (sym split) ∙ indices_of-add cs (i / p) (i % p) rest in
    let below = point_number-indices_of cs (i % p) (mod-lt i some) in
    rw (mod-eq_of_lt row, same, below) split

pub IsPoint-indices_of : (cs : List ℕ) (i : ℕ) → All (λ c. 0 < c) cs → IsPoint cs (indices_of cs i)
IsPoint-indices_of [] i h = tt
IsPoint-indices_of (c ∷ cs) i h = (mod-lt (i / product cs) (All-head (λ c. 0 < c) c cs h), IsPoint-indices_of cs i (All-tail (λ c. 0 < c) c cs h))
