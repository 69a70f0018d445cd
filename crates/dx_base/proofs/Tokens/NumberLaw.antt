-- Numbers: what the relation says is what is read.
use Rattle.std.specs.Prelude.{nat_lt, nat_le, replicate, neg_ℤ, pos, negsuc}
use Rattle.std.proofs.Common.{◌≡◌, ℕ, ℤ, suc, zero, ◌+◌, ◌<◌, ◌≤◌, List, [], ◌∷◌, ◌++◌, length, drop, Bool, true, false, cond, refl, sym, ap, subst, arith, ◌⊎◌, inl, inr, ◌∙◌, Option, Some, None, Ok, Err, append_assoc, length-append}
use Rattle.std.specs.List.{prefix_len}
use Rattle.std.proofs.Math.Seq.{take-append_seam, drop-append_seam}
use Rattle.std.proofs.lemmas.Bool.Decides.{nat_tests}
use Rattle.std.proofs.lemmas.Int.{ints}
use Rattle.dx_base.specs.declared.token.LexKind.TheVariants as kind
use Rattle.dx_base.specs.declared.token.SyntaxKind.TheVariants as fault
use Rattle.dx_base.specs.Tokens.Classes.{is_digit, is_zero, Each, Stops, begins, begins_two, begins_digit, begins_float}
use Rattle.dx_base.specs.Tokens.Spelling.{Sign, Unsigned, Plus, Minus, Numeral, fraction_bytes, numeral_bytes, EndsFraction, IsNumeral, value_of, signed, value, IsInt}
use Rattle.dx_base.specs.Tokens.Reading.{Front, front, int_value, fraction_len, int_of, number_front}
use Rattle.dx_base.proofs.Tokens.Spans.{span, one_more}
use Rattle.dx_base.proofs.Tokens.Fronts.{digits_at, plus_at, minus_at}

-- ---- the fraction

each_zero : (count : ℕ) → Each is_zero (replicate count 48)
each_zero zero = tt
each_zero (suc n) = (refl, each_zero n)

length_zeros : (count : ℕ) → length {A = ℕ} (replicate count 48) ≡ count
length_zeros zero = refl
length_zeros (suc n) = ap suc (length_zeros n)

no_second_point : (count : ℕ) (rest : List ℕ) → (count ≡ 0 → begins 46 rest ≡ false) → begins 46 (replicate count 48 ++ rest) ≡ false
no_second_point zero rest none = none refl
no_second_point (suc n) rest none = refl

fraction_read : (fraction : Option ℕ) (rest : List ℕ) → EndsFraction fraction rest → fraction_len (fraction_bytes fraction ++ rest) ≡ length (fraction_bytes fraction)
unfolding fraction_len
fraction_read None rest ends = by_test (begins_two 46 rest) (begins 46 rest) refl refl
  where
    by_test : (two one : Bool) → begins_two 46 rest ≡ two → begins 46 rest ≡ one → cond two 0 (cond one (1 + prefix_len is_zero (drop 1 rest)) 0) ≡ 0
    by_test true one e f = refl
    by_test false true e f = let two : begins_two 46 rest ≡ true = ends.1 f in absurd cc
    by_test false false e f = refl
fraction_read (Some count) rest ends =
    rw (no_second_point count rest ends.1) (rw (span is_zero (replicate count 48) rest (each_zero count) ends.0, one_more) refl)

digits_stop : (fraction : Option ℕ) (rest : List ℕ) → EndsFraction fraction rest → Stops is_digit (fraction_bytes fraction ++ rest)
digits_stop None rest ends = ends.0
digits_stop (Some count) rest ends = refl

-- ---- behind the sign

-- the number behind a sign
abbrev read_as : Bool → Option ℤ → ℕ → Front
read_as float v n = cond float (Err (fault.FloatNumber, 0)) (int_of v n)

digits_read : (negative : Bool) (before : ℕ) (n : Numeral) (rest : List ℕ) → IsNumeral n rest
    → number_front negative before (n.digits ++ (fraction_bytes n.fraction ++ rest)) ≡ read_as (begins_float rest) (int_value negative n.digits) (before + length n.digits + length (fraction_bytes n.fraction))
unfolding number_front
digits_read negative before n rest is =
    rw (span is_digit n.digits (fraction_bytes n.fraction ++ rest) is.digits (digits_stop n.fraction rest is.end), take-append_seam n.digits (fraction_bytes n.fraction ++ rest), drop-append_seam n.digits (fraction_bytes n.fraction ++ rest))
    (rw (fraction_read n.fraction rest is.end, drop-append_seam (fraction_bytes n.fraction) rest) refl)

-- ---- the range

minus_le : (m : ℕ) → IsInt (neg_ℤ (pos m)) → m ≤ 2147483648
minus_le zero is = omega arith
minus_le (suc k) is = omega (arith, ints)

minus_in : (m : ℕ) → m ≤ 2147483648 → IsInt (neg_ℤ (pos m))
minus_in zero le = (omega (arith, ints), omega (arith, ints))
minus_in (suc k) le = (omega (arith, ints), omega (arith, ints))

plus_lt : (m : ℕ) → IsInt (pos m) → m < 2147483648
plus_lt m is = omega (arith, ints)

plus_in : (m : ℕ) → m < 2147483648 → IsInt (pos m)
plus_in m lt = (omega (arith, ints), omega (arith, ints))

abbrev is_minus : Sign → Bool
is_minus Minus = true
is_minus _ = false

int_in : (sign : Sign) (digits : List ℕ) → IsInt (signed sign (value_of digits)) → int_value (is_minus sign) digits ≡ Some (signed sign (value_of digits))
int_in Minus digits is = let le : value_of digits ≤ 2147483648 = minus_le (value_of digits) is in let test : nat_le (value_of digits) 2147483648 ≡ true = grind (arith, nat_tests) in rw test refl
int_in Plus digits is = let lt : value_of digits < 2147483648 = plus_lt (value_of digits) is in let test : nat_lt (value_of digits) 2147483648 ≡ true = grind (arith, nat_tests) in rw test refl
int_in Unsigned digits is = let lt : value_of digits < 2147483648 = plus_lt (value_of digits) is in let test : nat_lt (value_of digits) 2147483648 ≡ true = grind (arith, nat_tests) in rw test refl

plus_out : (digits : List ℕ) → (IsInt (pos (value_of digits)) → ⊥) → int_value false digits ≡ None
plus_out digits none = by_test (nat_lt (value_of digits) 2147483648) refl
  where
    by_test : (x : Bool) → nat_lt (value_of digits) 2147483648 ≡ x → int_value false digits ≡ None
    by_test true e = let lt : value_of digits < 2147483648 = grind (arith, nat_tests) in absurd (none (plus_in (value_of digits) lt))
    by_test false e = rw e refl

int_out : (sign : Sign) (digits : List ℕ) → (IsInt (signed sign (value_of digits)) → ⊥) → int_value (is_minus sign) digits ≡ None
int_out Minus digits none = by_test (nat_le (value_of digits) 2147483648) refl
  where
    by_test : (x : Bool) → nat_le (value_of digits) 2147483648 ≡ x → int_value true digits ≡ None
    by_test true e = let le : value_of digits ≤ 2147483648 = grind (arith, nat_tests) in absurd (none (minus_in (value_of digits) le))
    by_test false e = rw e refl
int_out Plus digits none = plus_out digits none
int_out Unsigned digits none = plus_out digits none

-- whether a number is an int
pub int_decided : (v : ℤ) → IsInt v ⊎ (IsInt v → ⊥)
int_decided (pos m) = by_test (nat_lt m 2147483648) refl
  where
    by_test : (x : Bool) → nat_lt m 2147483648 ≡ x → IsInt (pos m) ⊎ (IsInt (pos m) → ⊥)
    by_test true e = let lt : m < 2147483648 = grind (arith, nat_tests) in inl (plus_in m lt)
    by_test false e = let le : 2147483648 ≤ m = grind (arith, nat_tests) in inr (λ is. let lt : m < 2147483648 = plus_lt m is in omega arith)
int_decided (negsuc k) = by_test (nat_lt k 2147483648) refl
  where
    by_test : (x : Bool) → nat_lt k 2147483648 ≡ x → IsInt (negsuc k) ⊎ (IsInt (negsuc k) → ⊥)
    by_test true e = let lt : suc k ≤ 2147483648 = grind (arith, nat_tests) in inl (minus_in (suc k) lt)
    by_test false e = let le : 2147483648 ≤ k = grind (arith, nat_tests) in inr (λ is. let lt : suc k ≤ 2147483648 = minus_le (suc k) is in omega arith)

-- ---- whole numbers

begun : (digits rest : List ℕ) → 0 < length digits → Each is_digit digits → begins_digit (digits ++ rest) ≡ true
begun [] rest some each = absurd (omega arith)
begun (d ∷ digits) rest some each = each.0

first_digit : (digits rest : List ℕ) → 0 < length digits → Each is_digit digits → front (digits ++ rest) ≡ number_front false 0 (digits ++ rest)
first_digit [] rest some each = absurd (omega arith)
first_digit (d ∷ digits) rest some each = digits_at d (digits ++ rest) each.0

abbrev read_numeral : Numeral → List ℕ → Front
read_numeral n rest = read_as (begins_float rest) (int_value (is_minus n.sign) n.digits) (length (numeral_bytes n))

counted : (float : Bool) (v : Option ℤ) (n m : ℕ) → n ≡ m → read_as float v n ≡ read_as float v m
counted float v n m e = ap (read_as float v) e

numeral_front : (sign : Sign) (digits : List ℕ) (fraction : Option ℕ) (rest : List ℕ) → let n : Numeral = record { sign = sign; digits = digits; fraction = fraction } in
    IsNumeral n rest → front (numeral_bytes n ++ rest) ≡ read_numeral n rest
numeral_front Unsigned digits fraction rest is =
    rw (append_assoc digits (fraction_bytes fraction) rest) (first_digit digits (fraction_bytes fraction ++ rest) is.some is.digits ∙ digits_read false 0 (record { sign = Unsigned; digits = digits; fraction = fraction }) rest is
    ∙ counted (begins_float rest) (int_value false digits) _ _ (omega (arith, length-append digits (fraction_bytes fraction))))
numeral_front Plus digits fraction rest is =
    rw (append_assoc digits (fraction_bytes fraction) rest) (plus_at (digits ++ (fraction_bytes fraction ++ rest)) (begun digits (fraction_bytes fraction ++ rest) is.some is.digits) ∙ digits_read false 1 (record { sign = Plus; digits = digits; fraction = fraction }) rest is
    ∙ counted (begins_float rest) (int_value false digits) _ _ (omega (arith, length-append digits (fraction_bytes fraction))))
numeral_front Minus digits fraction rest is =
    rw (append_assoc digits (fraction_bytes fraction) rest) (minus_at (digits ++ (fraction_bytes fraction ++ rest)) (begun digits (fraction_bytes fraction ++ rest) is.some is.digits) ∙ digits_read true 1 (record { sign = Minus; digits = digits; fraction = fraction }) rest is
    ∙ counted (begins_float rest) (int_value true digits) _ _ (omega (arith, length-append digits (fraction_bytes fraction))))

pub int_read : (v : ℤ) (n : Numeral) (rest : List ℕ) → IsNumeral n rest → begins_float rest ≡ false → value n ≡ v → IsInt v → front (numeral_bytes n ++ rest) ≡ Ok (kind.Int v, length (numeral_bytes n))
int_read v n rest is whole same range =
    let in_range : IsInt (value n) = subst IsInt (sym same) range in
    numeral_front n.sign n.digits n.fraction rest is ∙ rw (whole, int_in n.sign n.digits in_range, same) refl

pub fraction_refused : (n : Numeral) (rest : List ℕ) → IsNumeral n rest → begins_float rest ≡ true → front (numeral_bytes n ++ rest) ≡ Err (fault.FloatNumber, 0)
fraction_refused n rest is float = numeral_front n.sign n.digits n.fraction rest is ∙ rw float refl

pub beyond_refused : (n : Numeral) (rest : List ℕ) → IsNumeral n rest → begins_float rest ≡ false → (IsInt (value n) → ⊥) → front (numeral_bytes n ++ rest) ≡ Err (fault.NumberRange, 0)
beyond_refused n rest is whole none = numeral_front n.sign n.digits n.fraction rest is ∙ rw (whole, int_out n.sign n.digits none) refl
