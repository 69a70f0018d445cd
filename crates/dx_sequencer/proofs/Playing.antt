-- How many steps a play makes.
use Rattle.std.proofs.Common.{◌≡◌, Option, Some, None, ℕ, zero, suc, ◌+◌, ◌<◌, ◌≤◌, ℤ, pos, ◌+ℤ◌, ◌*ℤ◌, Bool, true, false, refl, sym, ap, ◌∙◌, arith}
use Rattle.std.specs.Prelude.{nat_lt, min, if◌then◌else◌}
use Rattle.std.proofs.Math.IntN.{suc_ℤ-*ℤ, zero-*ℤ}
use Rattle.std.proofs.lemmas.Bool.Decides.{nat_tests}
use Rattle.std.proofs.lemmas.Int.{ints}
use Rattle.dx_sequencer.specs.Sequencer as seq
use Rattle.dx_sequencer.specs.Sequencer.{is_inside, moved, frame_behind, frames_inside, play_steps, is_too_long, steps_of_play, IsPlay, IsLongPlay, max_steps}

no_frames : (s : seq.State) (x : ℤ) → frames_inside 0 s x ≡ 0
unfolding frames_inside
no_frames s x = refl

one_frame : (bound : ℕ) (s : seq.State) (x : ℤ) → is_inside s x ≡ true → frames_inside (suc bound) s x ≡ suc (frames_inside bound s (moved s x))
unfolding frames_inside
one_frame bound s x is = rw is refl

no_frame : (bound : ℕ) (s : seq.State) (x : ℤ) → is_inside s x ≡ false → frames_inside (suc bound) s x ≡ 0
unfolding frames_inside
no_frame bound s x is = rw is refl

-- ---- the frames of a play, one after the other

next_frame_by : (s : seq.State) (k : ℕ) (f : Bool) → s.forward ≡ f → frame_behind s (suc k) ≡ moved s (frame_behind s k)
next_frame_by s k true f =
    let more : pos (suc k) *ℤ s.delta ≡ pos k *ℤ s.delta +ℤ s.delta = suc_ℤ-*ℤ (pos k) s.delta in
    rw f (omega (arith, ints, more))
next_frame_by s k false f =
    let more : pos (suc k) *ℤ s.delta ≡ pos k *ℤ s.delta +ℤ s.delta = suc_ℤ-*ℤ (pos k) s.delta in
    rw f (omega (arith, ints, more))

next_frame : (s : seq.State) (k : ℕ) → frame_behind s (suc k) ≡ moved s (frame_behind s k)
next_frame s k = next_frame_by s k s.forward refl

first_frame_by : (s : seq.State) (f : Bool) → s.forward ≡ f → frame_behind s 0 ≡ s.next
first_frame_by s true f = let none : pos 0 *ℤ s.delta ≡ pos 0 = zero-*ℤ s.delta in rw f (omega (arith, ints, none))
first_frame_by s false f = let none : pos 0 *ℤ s.delta ≡ pos 0 = zero-*ℤ s.delta in rw f (omega (arith, ints, none))

-- the frames inside from one of them on, counted up to a bound
frames_from : (s : seq.State) (steps bound left k : ℕ) → IsPlay s steps → k + left ≡ steps → frames_inside bound s (frame_behind s k) ≡ min bound left
frames_from s steps zero left k play e = no_frames s (frame_behind s k) ∙ omega arith
frames_from s steps (suc bound) zero k play e =
    let here : k ≡ steps = omega arith in
    no_frame bound s (frame_behind s k) (ap (λ (n : ℕ). is_inside s (frame_behind s n)) here ∙ play.outside) ∙ omega arith
frames_from s steps (suc bound) (suc left) k play e =
    let before : k < steps = omega arith in
    let others : suc k + left ≡ steps = omega arith in
    let rest : frames_inside bound s (moved s (frame_behind s k)) ≡ min bound left = ap (frames_inside bound s) (sym (next_frame s k)) ∙ frames_from s steps bound left (suc k) play others in
    one_frame bound s (frame_behind s k) (play.inside k before) ∙ ap suc rest ∙ omega arith

counted : (s : seq.State) (steps : ℕ) → IsPlay s steps → play_steps s ≡ min 65537 steps
counted s steps play =
    let all : 0 + steps ≡ steps = omega arith in
    ap (frames_inside 65537 s) (sym (first_frame_by s s.forward refl)) ∙ frames_from s steps 65537 steps 0 play all

-- a play of few steps
pub steps_are : (s : seq.State) (steps : ℕ) → IsPlay s steps → steps ≤ max_steps → play_steps s ≡ steps
steps_are s steps play few = counted s steps play ∙ omega arith

not_past : (n : ℕ) → n ≤ max_steps → nat_lt max_steps n ≡ false
not_past n le = grind (arith, nat_tests)

past : (n : ℕ) → max_steps < n → nat_lt max_steps n ≡ true
past n lt = grind (arith, nat_tests)

pub is_short : (s : seq.State) (steps : ℕ) → IsPlay s steps → steps ≤ max_steps → is_too_long s ≡ false
is_short s steps play few = ap (nat_lt max_steps) (steps_are s steps play few) ∙ not_past steps few

-- a play of more steps than a play may have
pub is_long : (s : seq.State) → IsLongPlay s → is_too_long s ≡ true
is_long s long =
    let most : play_steps s ≡ 65537 = counted s long.steps long.play ∙ (let more : max_steps < long.steps = long.long in omega arith) in
    ap (nat_lt max_steps) most ∙ past 65537 (omega arith)

-- ---- what a play answers

pub some_steps : (s : seq.State) (steps : ℕ) → IsPlay s steps → steps ≤ max_steps → Some steps ≡ steps_of_play s
some_steps s steps play few =
    sym (ap (λ (long : Bool). let answer : Option ℕ = if long then None else Some (play_steps s) in answer) (is_short s steps play few)
    ∙ ap (λ (n : ℕ). Some n) (steps_are s steps play few))

pub no_steps : (s : seq.State) → IsLongPlay s → None ≡ steps_of_play s
no_steps s long = sym (ap (λ (long : Bool). let answer : Option ℕ = if long then None else Some (play_steps s) in answer) (is_long s long))
