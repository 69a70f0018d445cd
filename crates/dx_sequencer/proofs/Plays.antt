-- How many steps a play makes, from the distance to the last frame inside and the delta.
use Rattle.std.proofs.Common.{◌≡◌, ℕ, suc, ◌+◌, ◌-◌, ◌*◌, ◌<◌, ◌≤◌, ◌≤ℤ◌, ◌<ℤ◌, ℤ, pos, ◌+ℤ◌, ◌-ℤ◌, ◌*ℤ◌, Bool, true, false, ◌&&◌, refl, ap, ◌∙◌, arith}
use Rattle.std.proofs.Math.IntN.{pos-*ℤ-pos, zero-*ℤ}
use Rattle.std.proofs.Math.Nat.{mul-le-mul_right}
use Rattle.std.proofs.lemmas.Int.{ints}
use Rattle.dx_sequencer.specs.Sequencer.{State, is_inside, frame_behind, IsPlay}

-- what is between the ends is inside, and what isn't isn't
inside : (s : State) (x : ℤ) → s.start ≤ℤ x → x ≤ℤ s.end → is_inside s x ≡ true
inside s x low high = grind (arith, ints)

beyond : (s : State) (x : ℤ) → s.end <ℤ x → is_inside s x ≡ false
beyond s x high = grind (arith, ints)

before : (s : State) (x : ℤ) → x <ℤ s.start → is_inside s x ≡ false
before s x low = grind (arith, ints)

plus_nothing : (x d : ℤ) → x +ℤ pos 0 *ℤ d ≡ x
plus_nothing x d = let none : pos 0 *ℤ d ≡ pos 0 = zero-*ℤ d in omega (arith, ints, none)

minus_nothing : (x d : ℤ) → x -ℤ pos 0 *ℤ d ≡ x
minus_nothing x d = let none : pos 0 *ℤ d ≡ pos 0 = zero-*ℤ d in omega (arith, ints, none)

-- so many whole deltas lie within the distance, and one more doesn't
few : (d left n k : ℕ) → (n - 1) * d ≤ left → k < n → k * d ≤ left
few d left n k within lt =
    let le : k ≤ n - 1 = omega arith in
    let more : k * d ≤ (n - 1) * d = mul-le-mul_right d le in
    omega (arith, more, within)

forward_frame : (s : State) (d k : ℕ) → s.forward ≡ true → s.delta ≡ pos d → frame_behind s k ≡ s.next +ℤ pos (k * d)
forward_frame s d k f e = rw (f, e) (ap (λ (x : ℤ). s.next +ℤ x) (pos-*ℤ-pos k d))

backward_frame : (s : State) (d k : ℕ) → s.forward ≡ false → s.delta ≡ pos d → frame_behind s k ≡ s.next -ℤ pos (k * d)
backward_frame s d k f e = rw (f, e) (ap (λ (x : ℤ). s.next -ℤ x) (pos-*ℤ-pos k d))

pub forward_play : (s : State) (d left n : ℕ) → s.forward ≡ true → s.delta ≡ pos d → s.start ≤ℤ s.next → s.end ≡ s.next +ℤ pos left → (n - 1) * d ≤ left → left < n * d → IsPlay s n
forward_play s d left n f e low high within past = record {
  inside = λ k lt.
      let few : k * d ≤ left = few d left n k within lt in
      rw (forward_frame s d k f e) (inside s (s.next +ℤ pos (k * d)) (omega (arith, ints, low)) (omega (arith, ints, high, few)));
  outside = rw (forward_frame s d n f e) (beyond s (s.next +ℤ pos (n * d)) (omega (arith, ints, high, past)));
}

pub backward_play : (s : State) (d left n : ℕ) → s.forward ≡ false → s.delta ≡ pos d → s.next ≤ℤ s.end → s.next ≡ s.start +ℤ pos left → (n - 1) * d ≤ left → left < n * d → IsPlay s n
backward_play s d left n f e high low within past = record {
  inside = λ k lt.
      let few : k * d ≤ left = few d left n k within lt in
      rw (backward_frame s d k f e) (inside s (s.next -ℤ pos (k * d)) (omega (arith, ints, low, few)) (omega (arith, ints, high)));
  outside = rw (backward_frame s d n f e) (before s (s.next -ℤ pos (n * d)) (omega (arith, ints, low, past)));
}

at_once : (s : State) (x : ℤ) → x ≡ s.next → is_inside s s.next ≡ false → is_inside s x ≡ false
at_once s x e out = ap (is_inside s) e ∙ out

behind_none : (s : State) (f : Bool) → s.forward ≡ f → frame_behind s 0 ≡ s.next
behind_none s true f = rw f (plus_nothing s.next s.delta)
behind_none s false f = rw f (minus_nothing s.next s.delta)

-- where next isn't inside there is no step
pub no_play : (s : State) → is_inside s s.next ≡ false → IsPlay s 0
no_play s out = record { inside = λ k lt. absurd (omega arith); outside = at_once s (frame_behind s 0) (behind_none s s.forward refl) out }

-- the play of a distance in either direction
pub play_of : (s : State) (d left n : ℕ) → s.delta ≡ pos d → s.start ≤ℤ s.next → s.next ≤ℤ s.end → (s.forward ≡ true → s.end ≡ s.next +ℤ pos left) → (s.forward ≡ false → s.next ≡ s.start +ℤ pos left)
    → (n - 1) * d ≤ left → left < n * d → IsPlay s n
play_of s d left n e low high ahead behind within past = by_direction s.forward refl
  where
    by_direction : (f : Bool) → s.forward ≡ f → IsPlay s n
    by_direction true f = forward_play s d left n f e low (ahead f) within past
    by_direction false f = backward_play s d left n f e high (behind f) within past
