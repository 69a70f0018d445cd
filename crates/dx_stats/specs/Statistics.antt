-- What Statistics answers: the mean, the standard deviation, the variance, the least and the greatest of some numbers.
use Rattle.std.specs.Prelude.{ℕ, zero, suc, ◌*◌, ◌/◌, ℤ, pos, negsuc, ◌+ℤ◌, ◌-ℤ◌, ◌*ℤ◌, unsigned_abs, List, [], ◌∷◌, length, fold, nat_le, if◌then◌else◌, Result, Ok, Err}
use Rattle.std.specs.Int.{int_min, int_max}
use Rattle.dx_base.specs.declared.code.Code.{Code}
use Rattle.dx_base.specs.Array.{ArrayData}
use Rattle.dx_base.specs.ObjectNumbers.{number_value}
use Rattle.dx_objects.specs.Runs.{Values, Answer}
use Rattle.dx_objects.specs.Values.{value_at}
use Rattle.dx_stats.specs.Numbers.{numbers, numbers_in}

-- ---- whole numbers

-- the greatest whole number that is at most z divided by n
abbrev pub floor : ℤ → ℕ → ℤ
floor (pos a) n = pos (a / n)
floor (negsuc a) n = negsuc (a / n)

-- the greatest of the numbers up to m whose square is at most n
unfoldable pub greatest_root : ℕ → ℕ → ℕ
greatest_root n zero = 0
greatest_root n (suc m) = if nat_le (suc m * suc m) n then suc m else greatest_root n m

-- the greatest whole number whose square is at most n
unfoldable pub root : ℕ → ℕ
root n = greatest_root n n

-- ---- the statistics of some numbers

abbrev pub add : ℤ → ℤ → ℤ
add s v = s +ℤ v

abbrev pub add_square : ℤ → ℤ → ℤ
add_square s v = s +ℤ v *ℤ v

abbrev pub total : List ℤ → ℤ
total vs = fold add (pos 0) vs

abbrev pub total_of_squares : List ℤ → ℤ
total_of_squares vs = fold add_square (pos 0) vs

abbrev pub mean_by : ℕ → ℤ → ℤ
mean_by n s = floor s n

-- of n numbers of sum s and sum of squares z
abbrev pub variance_by : ℕ → ℤ → ℤ → ℤ
variance_by n s z = floor (pos n *ℤ z -ℤ s *ℤ s) (n * n)

-- the root of a variance, which no numbers make negative
abbrev pub root_of : ℤ → ℤ
root_of variance = pos (root (unsigned_abs variance))

abbrev pub mean : List ℤ → ℤ
mean vs = mean_by (length vs) (total vs)

abbrev pub variance : List ℤ → ℤ
variance vs = variance_by (length vs) (total vs) (total_of_squares vs)

abbrev pub deviation : List ℤ → ℤ
deviation vs = root_of (variance vs)

-- of no numbers 0, which is asked of none
abbrev pub least : List ℤ → ℤ
least [] = pos 0
least (v ∷ vs) = fold int_min v vs

abbrev pub greatest : List ℤ → ℤ
greatest [] = pos 0
greatest (v ∷ vs) = fold int_max v vs

-- ---- the answer: each as a number, or NULL where it is no int

abbrev pub statistics_of : List ℤ → Values
statistics_of vs =
    number_value (mean vs) ∷ number_value (deviation vs) ∷ number_value (variance vs)
    ∷ number_value (least vs) ∷ number_value (greatest vs) ∷ []

abbrev pub answer_over : Result ArrayData Code → Answer
answer_over (Err code) = Err code
answer_over (Ok a) = Ok (statistics_of (numbers a))

abbrev pub statistics_answer : Values → Answer
statistics_answer inputs = answer_over (numbers_in (value_at inputs 0))
