-- Which words are numbers is what is read.
use Rattle.std.specs.Prelude.{◌==◌, ◌&&◌, ◌≤ℤ◌, ◌<ℤ◌, replicate, int_le, option_map}
use Rattle.std.proofs.Common.{◌≡◌, ℕ, ℤ, zero, suc, ◌<◌, List, [], ◌∷◌, ◌++◌, length, Bool, true, false, refl, sym, ap, subst, arith, ◌∙◌, Option, Some, None}
use Rattle.std.specs.List.{list_all}
use Rattle.std.proofs.Math.Seq.{take-append_seam, drop-append_seam}
use Rattle.std.proofs.lemmas.Bool.{eqb-true}
use Rattle.std.proofs.lemmas.Bool.Decides.{nat_tests}
use Rattle.std.proofs.lemmas.Int.{ints, by_lt_z}
use Rattle.dx_base.specs.Tokens.Classes.{is_digit, is_zero, is_plus_or_minus, Each, Stops}
use Rattle.dx_base.specs.Tokens.Spelling.{Sign, Unsigned, Plus, Minus, Numeral, fraction_bytes, numeral_bytes, value_of, value}
use Rattle.dx_base.specs.Number as number
use Rattle.dx_base.specs.Number.{signed, is_fraction, number_with, number_behind, least_i64, greatest_i64, nearest_i64}
use Rattle.dx_base.proofs.Tokens.Spans.{span, spanned}
use Rattle.dx_native_lex.specs.Scan.{number_of}
use Rattle.dx_native_tokens.specs.Numbers.{IsNumber, IsNearest, IsNumberOf}

-- ---- the fraction

all_zeros : (count : ℕ) → list_all is_zero (replicate count 48) ≡ true
all_zeros zero = refl
all_zeros (suc n) = all_zeros n

fraction_yes : (fraction : Option ℕ) → is_fraction (fraction_bytes fraction) ≡ true
fraction_yes None = refl
fraction_yes (Some count) = all_zeros count

fraction_stops : (fraction : Option ℕ) → Stops is_digit (fraction_bytes fraction)
fraction_stops None = tt
fraction_stops (Some count) = refl

record HasFraction (rest : List ℕ) : Type 0 where
  pub fraction : Option ℕ
  pub same : rest ≡ fraction_bytes fraction

both_true : (x y : Bool) → (x && y) ≡ true → (x ≡ true) × (y ≡ true)
both_true true y e = (refl, e)
both_true false y e = absurd cc

zeros_are : (zeros : List ℕ) → list_all is_zero zeros ≡ true → zeros ≡ replicate (length zeros) 48
zeros_are [] e = refl
zeros_are (b ∷ more) e =
    let is = both_true (is_zero b) (list_all is_zero more) e in
    let first = eqb-true b 48 is.0 in
    let others = zeros_are more is.1 in
    cc

yes_fraction : (rest : List ℕ) → is_fraction rest ≡ true → HasFraction rest
yes_fraction [] e = record { fraction = None; same = refl }
yes_fraction (b ∷ zeros) e =
    let is = both_true (b == 46) (list_all is_zero zeros) e in
    let first = eqb-true b 46 is.0 in
    let others = zeros_are zeros is.1 in
    record { fraction = Some (length zeros); same = cc }

-- ---- behind the sign

behind_is : (negative : Bool) (digits rest : List ℕ) → Each is_digit digits → Stops is_digit rest → number_behind negative (digits ++ rest) ≡ number_with negative digits rest
unfolding number_behind
behind_is negative digits rest each stops = rw (span is_digit digits rest each stops, take-append_seam digits rest, drop-append_seam digits rest) refl

with_digits : (negative : Bool) (digits rest : List ℕ) → 0 < length digits → is_fraction rest ≡ true → number_with negative digits rest ≡ Some (signed negative (value_of digits))
with_digits negative [] rest some e = absurd (omega arith)
with_digits negative (d ∷ ds) rest some e = rw e refl

behind_read : (negative : Bool) (n : Numeral) → 0 < length n.digits → Each is_digit n.digits → number_behind negative (n.digits ++ fraction_bytes n.fraction) ≡ Some (signed negative (value_of n.digits))
behind_read negative n some each =
    behind_is negative n.digits (fraction_bytes n.fraction) each (fraction_stops n.fraction) ∙ with_digits negative n.digits (fraction_bytes n.fraction) some (fraction_yes n.fraction)

digit_no_sign : (b : ℕ) → is_digit b ≡ true → is_plus_or_minus b ≡ false
digit_no_sign b e = grind (arith, nat_tests)

no_sign : (b : ℕ) (rest : List ℕ) → is_plus_or_minus b ≡ false → number.number_of (b ∷ rest) ≡ number_behind false (b ∷ rest)
unfolding number.number_of
no_sign b rest e = rw e refl

a_sign : (b : ℕ) (rest : List ℕ) → is_plus_or_minus b ≡ true → number.number_of (b ∷ rest) ≡ number_behind (b == 45) rest
unfolding number.number_of
a_sign b rest e = rw e refl

unsigned_read : (digits rest : List ℕ) → 0 < length digits → Each is_digit digits → number.number_of (digits ++ rest) ≡ number_behind false (digits ++ rest)
unsigned_read [] rest some each = absurd (omega arith)
unsigned_read (d ∷ digits) rest some each = no_sign d (digits ++ rest) (digit_no_sign d each.0)

numeral_read : (n : Numeral) → 0 < length n.digits → Each is_digit n.digits → number.number_of (numeral_bytes n) ≡ Some (value n)
numeral_read n some each = by_sign n.sign n.digits n.fraction some each
  where
    by_sign : (sign : Sign) (digits : List ℕ) (fraction : Option ℕ) → 0 < length digits → Each is_digit digits
        → let n : Numeral = record { sign = sign; digits = digits; fraction = fraction } in number.number_of (numeral_bytes n) ≡ Some (value n)
    by_sign Unsigned digits fraction some each =
        unsigned_read digits (fraction_bytes fraction) some each ∙ behind_read false (record { sign = Unsigned; digits = digits; fraction = fraction }) some each
    by_sign Plus digits fraction some each = a_sign 43 (digits ++ fraction_bytes fraction) refl ∙ behind_read false (record { sign = Plus; digits = digits; fraction = fraction }) some each
    by_sign Minus digits fraction some each = a_sign 45 (digits ++ fraction_bytes fraction) refl ∙ behind_read true (record { sign = Minus; digits = digits; fraction = fraction }) some each

pub number_read : (word : List ℕ) (v : ℤ) → IsNumber word v → number.number_of word ≡ Some v
number_read word v is = ap number.number_of is.spelled ∙ numeral_read is.numeral is.some is.digits ∙ ap Some is.same

-- ---- what is read is a number

record IsBehindSign (negative : Bool) (s : List ℕ) (v : ℤ) : Type 0 where
  pub digits : List ℕ
  pub fraction : Option ℕ
  pub parts : s ≡ digits ++ fraction_bytes fraction
  pub some : 0 < length digits
  pub each : Each is_digit digits
  pub same : signed negative (value_of digits) ≡ v

some_is : {X : Type 0} (x y : X) → Some x ≡ Some y → x ≡ y
some_is x y e = cc

behind_stands : (negative : Bool) (s : List ℕ) (v : ℤ) → number_behind negative s ≡ Some v → IsBehindSign negative s v
behind_stands negative s v e =
    let is = spanned is_digit s in
    by_digits is.front is.rest is.parts is.each (sym (ap (number_behind negative) is.parts ∙ behind_is negative is.front is.rest is.each is.stops) ∙ e)
  where
    by_fraction : (d : ℕ) (ds rest : List ℕ) → s ≡ (d ∷ ds) ++ rest → Each is_digit (d ∷ ds) → (x : Bool) → is_fraction rest ≡ x → number_with negative (d ∷ ds) rest ≡ Some v → IsBehindSign negative s v
    by_fraction d ds rest parts each true f e =
        let has = yes_fraction rest f in
        let known : Some (signed negative (value_of (d ∷ ds))) ≡ Some v = sym (with_digits negative (d ∷ ds) rest (omega arith) f) ∙ e in
        record { digits = d ∷ ds; fraction = has.fraction; parts = parts ∙ ap (λ (t : List ℕ). (d ∷ ds) ++ t) has.same; some = omega arith; each = each; same = some_is _ _ known }
    by_fraction d ds rest parts each false f e = let none : number_with negative (d ∷ ds) rest ≡ None = rw f refl in absurd cc

    by_digits : (front rest : List ℕ) → s ≡ front ++ rest → Each is_digit front → number_with negative front rest ≡ Some v → IsBehindSign negative s v
    by_digits [] rest parts each e = absurd cc
    by_digits (d ∷ ds) rest parts each e = by_fraction d ds rest parts each (is_fraction rest) refl e

no_number : number.number_of [] ≡ None
unfolding number.number_of
no_number = refl

pub number_stands : (word : List ℕ) (v : ℤ) → number.number_of word ≡ Some v → IsNumber word v
number_stands [] v e = let none = no_number in absurd cc
number_stands (b ∷ rest) v e = by_test (is_plus_or_minus b) (b == 43) (b == 45) refl refl refl
  where
    by_test : (sign plus minus : Bool) → is_plus_or_minus b ≡ sign → (b == 43) ≡ plus → (b == 45) ≡ minus → IsNumber (b ∷ rest) v
    by_test false plus minus f g h =
        let is = behind_stands false (b ∷ rest) v (sym (no_sign b rest f) ∙ e) in
        record { numeral = record { sign = Unsigned; digits = is.digits; fraction = is.fraction }; spelled = is.parts; some = is.some; digits = is.each; same = is.same }
    by_test true plus true f g h =
        let is = behind_stands true rest v (ap (λ (m : Bool). number_behind m rest) (sym h) ∙ sym (a_sign b rest f) ∙ e) in
        record { numeral = record { sign = Minus; digits = is.digits; fraction = is.fraction }; spelled = let first = eqb-true b 45 h in let p = is.parts in cc; some = is.some; digits = is.each; same = is.same }
    by_test true true false f g h =
        let is = behind_stands false rest v (ap (λ (m : Bool). number_behind m rest) (sym h) ∙ sym (a_sign b rest f) ∙ e) in
        record { numeral = record { sign = Plus; digits = is.digits; fraction = is.fraction }; spelled = let first = eqb-true b 43 g in let p = is.parts in cc; some = is.some; digits = is.each; same = is.same }
    by_test true false false f g h = let none : is_plus_or_minus b ≡ false = rw (g, h) refl in absurd cc

-- ---- in 64 bits

le_of_test : (a b : ℤ) → int_le a b ≡ true → a ≤ℤ b
le_of_test a b h = grind (arith, ints)

lt_of_test : (a b : ℤ) → int_le a b ≡ false → b <ℤ a
lt_of_test a b h = grind (arith, ints)

nearest_by : (v : ℤ) (low high : Bool) → int_le v least_i64 ≡ low → int_le greatest_i64 v ≡ high → IsNearest v (nearest_i64 v)
nearest_by v true high e f =
    let le : v ≤ℤ least_i64 = le_of_test v least_i64 e in
    rw e (record { within = λ l h. omega (arith, ints); below = λ l. refl; above = λ l. omega (arith, ints) })
nearest_by v false true e f =
    let le : greatest_i64 ≤ℤ v = le_of_test greatest_i64 v f in
    rw (e, f) (record { within = λ l h. omega (arith, ints); below = λ l. omega (arith, ints); above = λ l. refl })
nearest_by v false false e f =
    let lt : least_i64 <ℤ v = lt_of_test v least_i64 e in
    let gt : v <ℤ greatest_i64 = lt_of_test greatest_i64 v f in
    rw (e, f) (record { within = λ l h. refl; below = λ l. omega (arith, ints); above = λ l. omega (arith, ints) })

nearest_is : (v : ℤ) → IsNearest v (nearest_i64 v)
nearest_is v = nearest_by v (int_le v least_i64) (int_le greatest_i64 v) refl refl

one_nearest : (v y z : ℤ) → IsNearest v y → IsNearest v z → y ≡ z
one_nearest v y z p q =
    by_lt_z {P = y ≡ z} v least_i64 (λ below. p.below below ∙ sym (q.below below))
    (λ low. by_lt_z {P = y ≡ z} greatest_i64 v (λ above. p.above above ∙ sym (q.above above)) (λ high. p.within low high ∙ sym (q.within low high)))

pub word_read : (word : List ℕ) (z : ℤ) → IsNumberOf word z → number_of word ≡ Some z
unfolding number_of
word_read word z is = ap (option_map nearest_i64) (number_read word is.value is.number) ∙ ap Some (one_nearest is.value (nearest_i64 is.value) z (nearest_is is.value) is.nearest)

mapped : (word : List ℕ) (o : Option ℤ) → number.number_of word ≡ o → number_of word ≡ option_map nearest_i64 o
unfolding number_of
mapped word o e = ap (option_map nearest_i64) e

pub word_stands : (word : List ℕ) (z : ℤ) → number_of word ≡ Some z → IsNumberOf word z
word_stands word z e = by_number (number.number_of word) refl
  where
    by_number : (o : Option ℤ) → number.number_of word ≡ o → IsNumberOf word z
    by_number None f = let none = mapped word None f in absurd cc
    by_number (Some v) f = record { value = v; number = number_stands word v f; nearest = subst (IsNearest v) (some_is (nearest_i64 v) z (sym (mapped word (Some v) f) ∙ e)) (nearest_is v) }

pub no_number_stands : (word : List ℕ) → number_of word ≡ None → (v : ℤ) → IsNumber word v → ⊥
no_number_stands word e v is = let some = mapped word (Some v) (number_read word v is) in absurd cc
