-- Ranges: the next number of a range is as far on as the step says, as long as the end isn't passed.
use Rattle.std.proofs.Common.{◌≡◌, ℕ, zero, suc, ◌+◌, ◌<◌, ◌/◌, ◌==◌, ℤ, pos, negsuc, ◌+ℤ◌, ◌-ℤ◌, Bool, true, false, cond, [], ◌∷◌, refl, ap, ◌∙◌, arith}
use Rattle.std.proofs.lemmas.Int.{ints}
use Rattle.std.specs.Prelude.{int_lt, unsigned_abs}
use Rattle.std.proofs.Math.Nat.{div-eq_of_lt, add-div_right}
use Rattle.dx_ast.specs.Values.{is_zero, is_passed, range_count, stepping, range}

gap_down : (a b d : ℤ) → int_lt d (pos 0) ≡ true → int_lt a b ≡ false → int_lt (a +ℤ d) b ≡ false → unsigned_abs (a -ℤ b) ≡ unsigned_abs ((a +ℤ d) -ℤ b) + unsigned_abs d
gap_down a b d down here next = grind (arith, ints)

gap_up : (a b d : ℤ) → int_lt d (pos 0) ≡ false → int_lt b a ≡ false → int_lt b (a +ℤ d) ≡ false → unsigned_abs (a -ℤ b) ≡ unsigned_abs ((a +ℤ d) -ℤ b) + unsigned_abs d
gap_up a b d up here next = grind (arith, ints)

last_down : (a b d : ℤ) → int_lt d (pos 0) ≡ true → int_lt a b ≡ false → int_lt (a +ℤ d) b ≡ true → unsigned_abs (a -ℤ b) < unsigned_abs d
last_down a b d down here next = grind (arith, ints)

last_up : (a b d : ℤ) → int_lt d (pos 0) ≡ false → int_lt b a ≡ false → int_lt b (a +ℤ d) ≡ true → unsigned_abs (a -ℤ b) < unsigned_abs d
last_up a b d up here next = grind (arith, ints)

-- how far it is to the end, one step before the last number and before another
record IsAhead (gap rest step : ℕ) (passed : Bool) : Type 0 where
  more : passed ≡ false → gap ≡ rest + step
  last : passed ≡ true → gap < step

ahead_by : (down : Bool) (a b d : ℤ) → int_lt d (pos 0) ≡ down → cond down (int_lt a b) (int_lt b a) ≡ false
    → IsAhead (unsigned_abs (a -ℤ b)) (unsigned_abs ((a +ℤ d) -ℤ b)) (unsigned_abs d) (cond down (int_lt (a +ℤ d) b) (int_lt b (a +ℤ d)))
ahead_by true a b d e here = record { more = λ h. gap_down a b d e here h; last = λ h. last_down a b d e here h }
ahead_by false a b d e here = record { more = λ h. gap_up a b d e here h; last = λ h. last_up a b d e here h }

ahead : (a b d : ℤ) → is_passed a b d ≡ false → IsAhead (unsigned_abs (a -ℤ b)) (unsigned_abs ((a +ℤ d) -ℤ b)) (unsigned_abs d) (is_passed (a +ℤ d) b d)
ahead a b d here = ahead_by (int_lt d (pos 0)) a b d refl here

steps : (passed : Bool) (gap rest step : ℕ) → IsAhead gap rest step passed → 0 < step → gap / step + 1 ≡ suc (cond passed 0 (rest / step + 1))
steps true gap rest step h some = let none : gap / step ≡ 0 = div-eq_of_lt (h.last refl) in omega arith
steps false gap rest step h some = let e : gap / step ≡ rest / step + 1 = ap (λ n. n / step) (h.more refl) ∙ add-div_right rest some in omega arith

nonzero : (d : ℤ) → is_zero d ≡ false → 0 < unsigned_abs d
nonzero (pos zero) e = absurd cc
nonzero (pos (suc n)) e = omega arith
nonzero (negsuc n) e = omega arith

some_step : (n : ℕ) → 0 < n → (n == 0) ≡ false
some_step zero h = absurd (omega arith)
some_step (suc n) h = grind arith

-- while the end isn't passed, there is one more than from the next number on
pub range_count-next : (a b d : ℤ) → is_zero d ≡ false → is_passed a b d ≡ false → range_count a b d ≡ suc (range_count (a +ℤ d) b d)
unfolding range_count
range_count-next a b d some here =
    let e : (unsigned_abs d == 0) ≡ false = some_step (unsigned_abs d) (nonzero d some) in
    rw (here, e) (steps (is_passed (a +ℤ d) b d) (unsigned_abs (a -ℤ b)) (unsigned_abs ((a +ℤ d) -ℤ b)) (unsigned_abs d) (ahead a b d here) (nonzero d some))

pub range_count-passed : (a b d : ℤ) → is_passed a b d ≡ true → range_count a b d ≡ 0
unfolding range_count
range_count-passed a b d e = rw e refl

-- the range that begins with a is a and the range that begins one step on
pub range-next : (a b d : ℤ) → is_zero d ≡ false → is_passed a b d ≡ false → range a b d ≡ a ∷ range (a +ℤ d) b d
unfolding range
range-next a b d some here = ap (λ n. stepping n a d) (range_count-next a b d some here)

-- and past the end there is none
pub range-passed : (a b d : ℤ) → is_passed a b d ≡ true → range a b d ≡ []
unfolding range
range-passed a b d e = ap (λ n. stepping n a d) (range_count-passed a b d e)
