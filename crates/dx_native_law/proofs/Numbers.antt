-- Numbers as they are written, read again: zero and negative ones too.
use Rattle.std.proofs.Common.{◌≡◌, ◌==◌, ℕ, zero, suc, ◌+◌, ◌*◌, ◌-◌, ◌<◌, ◌≤◌, ◌^◌, min, Bool, true, false, cond, List, [], ◌∷◌, length, take, drop, fold, Option, Some, None, ℤ, pos, negsuc, refl, sym, ap, ◌∙◌, subst, arith}
use Rattle.std.specs.Prelude.{codes, int_le, option_map}
use Rattle.std.specs.List.{prefix_len}
use Rattle.std.specs.Fmt.{decimal, signed_decimal}
use Rattle.std.specs.Int.{IsInRange}
use Rattle.std.proofs.lemmas.Bool.Decides.{nat_tests}
use Rattle.std.proofs.lemmas.Int.{ints}
use Rattle.std.proofs.lemmas.Fmt.{decimal_nonempty, digits_decimal, digits_value-decimal}
use Rattle.std.proofs.lemmas.Str.Parse.{IsDigitsTest, FoldsDigits, IsNumeralModel, numerals_by_fold}
use Rattle.std.proofs.Math.Seq.{take-length, drop-length}
use Rattle.dx_base.specs.Number as number
use Rattle.dx_base.specs.Number.{signed, number_behind, number_with, least_i64, greatest_i64, nearest_i64}
use Rattle.dx_base.specs.Tokens.Classes.{is_digit, is_plus_or_minus}
use Rattle.dx_base.specs.Tokens.Spelling.{add_digit, value_of}
use Rattle.dx_native_lex.specs.Scan.{is_white, number_of}
use Rattle.dx_native_law.proofs.Tokens.{IsWordByte, AreWordBytes, IsBare}

-- ---- decimal digits in our own words

abbrev AreDigits : List ℕ → Type 0
AreDigits [] = Unit {0}
AreDigits (c ∷ cs) = IsInRange 48 57 c × AreDigits cs

tells : IsDigitsTest AreDigits
tells = record { empty = tt; parts = λ c cs h. h; more = λ c cs k h. (k, h) }

folds : FoldsDigits (λ n ds. fold add_digit n ds)
folds = record { empty = λ n. refl; more = λ n c cs k. let e : add_digit n c ≡ n * 10 + (c - 48) = omega arith in ap (λ n. fold add_digit n cs) e }

own : IsNumeralModel AreDigits value_of
own = numerals_by_fold AreDigits tells (λ n ds. fold add_digit n ds) folds

-- ---- bytes

digit_is : (c : ℕ) → IsInRange 48 57 c → is_digit c ≡ true
digit_is c k = let l = k.0 in let h = k.1 in grind (arith, nat_tests)

digit_no_sign : (c : ℕ) → IsInRange 48 57 c → is_plus_or_minus c ≡ false
digit_no_sign c k = let l = k.0 in let h = k.1 in grind (arith, nat_tests)

digit_no_white : (c : ℕ) → IsInRange 48 57 c → is_white c ≡ false
digit_no_white c k = let l = k.0 in let h = k.1 in grind (arith, nat_tests)

digit_word : (c : ℕ) → IsInRange 48 57 c → IsWordByte c
digit_word c k =
    let l = k.0 in
    let h = k.1 in
    record { white = digit_no_white c k; quote = grind (arith, nat_tests); hash = grind (arith, nat_tests) }

digits_word : (cs : List ℕ) → AreDigits cs → AreWordBytes cs
digits_word [] h = tt
digits_word (c ∷ cs) h = (digit_word c h.0, digits_word cs h.1)

bare_by : (cs : List ℕ) → AreDigits cs → 0 < length cs → IsBare cs
bare_by [] h some = absurd (omega arith)
bare_by (c ∷ cs) h some = (digit_word c h.0, digits_word cs h.1)

-- a written number is a word
pub decimal_bare : (n : ℕ) → n < 2 ^ 64 → IsBare (decimal n)
decimal_bare n h = bare_by (decimal n) (digits_decimal own n h) (decimal_nonempty n h)

abbrev pub IsSmall : ℤ → Type 0
IsSmall (pos n) = n < 10000000000
IsSmall (negsuc n) = n < 9999999999

pub signed_bare : (z : ℤ) → IsSmall z → IsBare (signed_decimal z)
signed_bare (pos n) h = decimal_bare n (omega arith)
signed_bare (negsuc n) h = (record { white = refl; quote = refl; hash = refl }, digits_word (decimal (suc n)) (digits_decimal own (suc n) (omega arith)))

-- ---- the number

all_len : (cs : List ℕ) → AreDigits cs → prefix_len is_digit cs ≡ length cs
all_len [] h = refl
all_len (c ∷ cs) h = let plus : 1 + length cs ≡ suc (length cs) = omega arith in ap (λ t. cond t (1 + prefix_len is_digit cs) 0) (digit_is c h.0) ∙ ap (λ n. 1 + n) (all_len cs h.1) ∙ plus

behind_by : (negative : Bool) (cs : List ℕ) → 0 < length cs → number_with negative cs [] ≡ Some (signed negative (value_of cs))
behind_by negative [] h = absurd (omega arith)
behind_by negative (d ∷ cs) h = refl

behind : (negative : Bool) (cs : List ℕ) → AreDigits cs → 0 < length cs → number_behind negative cs ≡ Some (signed negative (value_of cs))
unfolding number_behind
behind negative cs h some =
    ap (λ n. number_with negative (take n cs) (drop n cs)) (all_len cs h)
    ∙ ap (λ xs. number_with negative xs (drop (length cs) cs)) (take-length cs)
    ∙ ap (λ xs. number_with negative cs xs) (drop-length cs)
    ∙ behind_by negative cs some

behind_decimal : (negative : Bool) (n : ℕ) → n < 2 ^ 64 → number_behind negative (decimal n) ≡ Some (signed negative n)
behind_decimal negative n h = behind negative (decimal n) (digits_decimal own n h) (decimal_nonempty n h) ∙ ap (λ n. Some (signed negative n)) (digits_value-decimal own n h)

unsigned_by : (cs : List ℕ) → AreDigits cs → 0 < length cs → number.number_of cs ≡ number_behind false cs
unfolding number.number_of
unsigned_by [] h some = absurd (omega arith)
unsigned_by (c ∷ cs) h some = ap (λ t. cond t (number_behind (c == 45) cs) (number_behind false (c ∷ cs))) (digit_no_sign c h.0)

near_by : (low high : Bool) (z : ℤ) → low ≡ false → high ≡ false → cond low least_i64 (cond high greatest_i64 z) ≡ z
near_by true high z l h = absurd cc
near_by false true z l h = absurd cc
near_by false false z l h = refl

near : (z : ℤ) → IsSmall z → nearest_i64 z ≡ z
near (pos n) h =
    let low : int_le (pos n) least_i64 ≡ false = grind (arith, ints) in
    let high : int_le greatest_i64 (pos n) ≡ false = grind (arith, ints) in
    near_by (int_le (pos n) least_i64) (int_le greatest_i64 (pos n)) (pos n) low high
near (negsuc n) h =
    let low : int_le (negsuc n) least_i64 ≡ false = grind (arith, ints) in
    let high : int_le greatest_i64 (negsuc n) ≡ false = grind (arith, ints) in
    near_by (int_le (negsuc n) least_i64) (int_le greatest_i64 (negsuc n)) (negsuc n) low high

-- a written number is read as itself
pub signed_again : (z : ℤ) → IsSmall z → number_of (signed_decimal z) ≡ Some z
unfolding number_of number.number_of
signed_again (pos n) h =
    ap (option_map nearest_i64) (unsigned_by (decimal n) (digits_decimal own n (omega arith)) (decimal_nonempty n (omega arith)) ∙ behind_decimal false n (omega arith)) ∙ ap (λ z. Some z) (near (pos n) h)
signed_again (negsuc n) h =
    ap (option_map nearest_i64) (behind_decimal true (suc n) (omega arith)) ∙ ap (λ z. Some z) (near (negsuc n) h)

pub decimal_again : (n : ℕ) → n < 10000000000 → number_of (decimal n) ≡ Some (pos n)
decimal_again n h = signed_again (pos n) h

pub decimal_no_file : (n : ℕ) → n < 2 ^ 64 → decimal n ≡ codes "file" → ⊥
decimal_no_file n h e = let d = subst AreDigits e (digits_decimal own n h) in let x = d.0.1 in omega arith
