-- A step of the walk over the dimensions of a grid, the last first.
use Rattle.std.proofs.Common.{◌≡◌, ℕ, ◌+◌, ◌*◌, ◌/◌, ◌%◌, ◌<◌, ◌≤◌, ◌^◌, ℤ, pos, negsuc, ◌+ℤ◌, ◌*ℤ◌, nat_abs, List, ◌∷◌, length, get_or, drop, refl, sym, ap, ◌∙◌, add-one, drop-cons, arith, FitsSigned, w64, to_z, of_z}
use mir.Syntax.{w128}
use Rattle.std.proofs.lemmas.List.{drop-drop, get_or-drop}
use Rattle.std.proofs.lemmas.Int.{ints, unsigned_abs-mul}
use Rattle.std.proofs.Math.IntN.{+ℤ_comm}
use Rattle.std.specs.Int.Signed.{nat_abs-le}
use Rattle.std.proofs.Math.Nat.{div-div-eq-div-mul, mul_comm, mul-le-mul_left}
use Rattle.dx_base.specs.Array.{product, offset, number, indices_of}
use Rattle.dx_arrays.specs.Reach.{IsWithin}

pub rest_step : (cs : List ℕ) (i k : ℕ) → k < length cs → i / product (drop k cs) ≡ i / product (drop (k + 1) cs) / get_or cs k 0
rest_step cs i k h =
    let e : drop k cs ≡ get_or cs k 0 ∷ drop (k + 1) cs = rw add-one (drop-cons cs k 0 h) in
    rw e (sym (div-div-eq-div-mul i (product (drop (k + 1) cs)) (get_or cs k 0) ∙ ap (λ x. i / x) (mul_comm (product (drop (k + 1) cs)) (get_or cs k 0))))

pub offset_step : (n : ℕ) (cs : List ℕ) (ds : List ℤ) (i place k : ℕ) → k < length cs →
    offset n (indices_of (drop k cs) i) (drop (k * n) ds) place ≡ offset n (indices_of (drop (k + 1) cs) i) (drop ((k + 1) * n) ds) place +ℤ pos (i / product (drop (k + 1) cs) % get_or cs k 0) *ℤ number ds (k * n + place)
offset_step n cs ds i place k h =
    let e : drop k cs ≡ get_or cs k 0 ∷ drop (k + 1) cs = rw add-one (drop-cons cs k 0 h) in
    let far : drop n (drop (k * n) ds) ≡ drop ((k + 1) * n) ds = drop-drop n (k * n) ds ∙ ap (λ m. drop m ds) (omega arith) in
    let at : number (drop (k * n) ds) place ≡ number ds (k * n + place) = get_or-drop (k * n) ds place (pos 0) in
    rw e (rw (far, at) (+ℤ_comm (pos (i / product (drop (k + 1) cs) % get_or cs k 0) *ℤ number ds (k * n + place)) (offset n (indices_of (drop (k + 1) cs) i) (drop ((k + 1) * n) ds) place)))

within_of_abs : (z : ℤ) (m : ℕ) → nat_abs z ≤ m → IsWithin m z
within_of_abs (pos n) m h = record { low = omega (arith, ints); high = omega (arith, ints) }
within_of_abs (negsuc n) m h = record { low = omega (arith, ints); high = omega (arith, ints) }

-- a product of an index and a delta
pub bound_step : (i : ℕ) (d : ℤ) → i < 2 ^ 32 → FitsSigned w64 d → IsWithin (2 ^ 95) (pos i *ℤ d)
bound_step i d h f =
    let e = unsigned_abs-mul (pos i) d in
    let small : nat_abs d ≤ 2 ^ 63 = nat_abs-le d f.sfits in
    within_of_abs (pos i *ℤ d) (2 ^ 95) (rw e (omega (arith, mul-le-mul_left i small)))

pub sum_fits : (a b : ℤ) → IsWithin (2 ^ 100) a → IsWithin (2 ^ 100) b → FitsSigned w128 (a +ℤ to_z w128 (of_z w128 b))
sum_fits a b h k = omega (arith, ints, h.low, h.high, k.low, k.high)

-- what the code's sum is
pub sum_is : (a b : ℤ) → IsWithin (2 ^ 100) a → IsWithin (2 ^ 100) b → to_z w128 (of_z w128 (a +ℤ to_z w128 (of_z w128 b))) ≡ a +ℤ b
sum_is a b h k = omega (arith, ints, h.low, h.high, k.low, k.high)

pub wider : (m n : ℕ) (z : ℤ) → m ≤ n → IsWithin m z → IsWithin n z
wider m n z h w = record { low = omega (arith, ints, w.low); high = omega (arith, ints, w.high) }

pub within_sum : (l m n : ℕ) (a b : ℤ) → m + n ≤ l → IsWithin m a → IsWithin n b → IsWithin l (a +ℤ b)
within_sum l m n a b h v w = record { low = omega (arith, ints, v.low, w.low); high = omega (arith, ints, v.high, w.high) }

-- the origin and what the dimensions add
pub total_is : (o a : ℤ) (w : ℤ) → w ≡ o → FitsSigned w64 o → IsWithin (2 ^ 100) a → to_z w128 (of_z w128 (to_z w128 (of_z w128 w) +ℤ a)) ≡ o +ℤ a
total_is o a w e f h = rw e (omega (arith, ints, f, h.low, h.high))

pub rest_step_to : (cs : List ℕ) (i k j : ℕ) → j ≡ k + 1 → k < length cs → i / product (drop k cs) ≡ i / product (drop j cs) / get_or cs k 0
rest_step_to cs i k j e h = rw e (rest_step cs i k h)

pub offset_step_to : (n : ℕ) (cs : List ℕ) (ds : List ℤ) (i place k j : ℕ) → j ≡ k + 1 → k < length cs →
    offset n (indices_of (drop k cs) i) (drop (k * n) ds) place ≡ offset n (indices_of (drop j cs) i) (drop (j * n) ds) place +ℤ pos (i / product (drop j cs) % get_or cs k 0) *ℤ number ds (k * n + place)
offset_step_to n cs ds i place k j e h = rw e (offset_step n cs ds i place k h)

pub offset_all : (n : ℕ) (cs : List ℕ) (ds : List ℤ) (i place k : ℕ) → k ≡ 0 → offset n (indices_of (drop k cs) i) (drop (k * n) ds) place ≡ offset n (indices_of cs i) ds place
offset_all n cs ds i place k e = rw e (let none : 0 * n ≡ 0 = omega arith in rw none refl)
