-- A step of the sum over the dimensions of how far out a grid goes.
use Rattle.std.proofs.Common.{◌≡◌, ℕ, ◌+◌, ◌-◌, ◌*◌, ◌<◌, ℤ, pos, negsuc, ◌+ℤ◌, ◌*ℤ◌, List, ◌∷◌, length, get_or, drop, refl, sym, ap, ◌∙◌, add-one, drop-cons, arith}
use Rattle.std.proofs.lemmas.List.{drop-drop, get_or-drop}
use Rattle.std.proofs.lemmas.Int.{ints}
use Rattle.std.proofs.Math.IntN.{+ℤ_assoc}
use Rattle.dx_base.specs.Array.{number}
use Rattle.dx_arrays.specs.Reach.{IsWithin, below_zero, above_zero, lowest_offset, highest_offset}

pub within_below : (m : ℕ) (z : ℤ) → IsWithin m z → IsWithin m (below_zero z)
within_below m (pos n) h = record { low = omega (arith, ints); high = omega (arith, ints) }
within_below m (negsuc n) h = h

pub within_above : (m : ℕ) (z : ℤ) → IsWithin m z → IsWithin m (above_zero z)
within_above m (pos n) h = h
within_above m (negsuc n) h = record { low = omega (arith, ints); high = omega (arith, ints) }

pub lowest_step : (n : ℕ) (cs : List ℕ) (ds : List ℤ) (place k : ℕ) → k < length cs →
    lowest_offset n (drop k cs) (drop (k * n) ds) place ≡ below_zero (pos (get_or cs k 0 - 1) *ℤ number ds (k * n + place)) +ℤ lowest_offset n (drop (k + 1) cs) (drop ((k + 1) * n) ds) place
lowest_step n cs ds place k h =
    let e : drop k cs ≡ get_or cs k 0 ∷ drop (k + 1) cs = rw add-one (drop-cons cs k 0 h) in
    let far : drop n (drop (k * n) ds) ≡ drop ((k + 1) * n) ds = drop-drop n (k * n) ds ∙ ap (λ m. drop m ds) (omega arith) in
    let at : number (drop (k * n) ds) place ≡ number ds (k * n + place) = get_or-drop (k * n) ds place (pos 0) in
    rw e (rw (far, at) refl)

pub highest_step : (n : ℕ) (cs : List ℕ) (ds : List ℤ) (place k : ℕ) → k < length cs →
    highest_offset n (drop k cs) (drop (k * n) ds) place ≡ above_zero (pos (get_or cs k 0 - 1) *ℤ number ds (k * n + place)) +ℤ highest_offset n (drop (k + 1) cs) (drop ((k + 1) * n) ds) place
highest_step n cs ds place k h =
    let e : drop k cs ≡ get_or cs k 0 ∷ drop (k + 1) cs = rw add-one (drop-cons cs k 0 h) in
    let far : drop n (drop (k * n) ds) ≡ drop ((k + 1) * n) ds = drop-drop n (k * n) ds ∙ ap (λ m. drop m ds) (omega arith) in
    let at : number (drop (k * n) ds) place ≡ number ds (k * n + place) = get_or-drop (k * n) ds place (pos 0) in
    rw e (rw (far, at) refl)

pub low_moves : (n : ℕ) (cs : List ℕ) (ds : List ℤ) (place k : ℕ) (low next span total : ℤ) → k < length cs → span ≡ pos (get_or cs k 0 - 1) *ℤ number ds (k * n + place) → next ≡ low +ℤ below_zero span →
    low +ℤ lowest_offset n (drop k cs) (drop (k * n) ds) place ≡ total → next +ℤ lowest_offset n (drop (k + 1) cs) (drop ((k + 1) * n) ds) place ≡ total
low_moves n cs ds place k low next span total h s e t =
    let step = lowest_step n cs ds place k h in
    rw (e, s) (+ℤ_assoc low (below_zero (pos (get_or cs k 0 - 1) *ℤ number ds (k * n + place))) (lowest_offset n (drop (k + 1) cs) (drop ((k + 1) * n) ds) place) ∙ sym (ap (λ z. low +ℤ z) step) ∙ t)

pub high_moves : (n : ℕ) (cs : List ℕ) (ds : List ℤ) (place k : ℕ) (high next span total : ℤ) → k < length cs → span ≡ pos (get_or cs k 0 - 1) *ℤ number ds (k * n + place) → next ≡ high +ℤ above_zero span →
    high +ℤ highest_offset n (drop k cs) (drop (k * n) ds) place ≡ total → next +ℤ highest_offset n (drop (k + 1) cs) (drop ((k + 1) * n) ds) place ≡ total
high_moves n cs ds place k high next span total h s e t =
    let step = highest_step n cs ds place k h in
    rw (e, s) (+ℤ_assoc high (above_zero (pos (get_or cs k 0 - 1) *ℤ number ds (k * n + place))) (highest_offset n (drop (k + 1) cs) (drop ((k + 1) * n) ds) place) ∙ sym (ap (λ z. high +ℤ z) step) ∙ t)
