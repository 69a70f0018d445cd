-- How many bytes a token takes: the end none, each other one or more, and none more than there are.
use Rattle.std.specs.Prelude.{◌==◌, ◌||◌, ◌&&◌}
use Rattle.std.proofs.Common.{◌≡◌, ℕ, suc, zero, ◌+◌, ◌-◌, ◌<◌, ◌≤◌, List, [], ◌∷◌, length, take, drop, Option, Some, None, Result, Ok, Err, ℤ, Bool, true, false, cond, not, refl, arith, ltb, length-drop}
use Rattle.std.specs.List.{prefix_len}
use Rattle.std.proofs.lemmas.List.{length-take-le}
use Rattle.std.proofs.lemmas.List.Sums.{prefix_len-le-length}
use Rattle.dx_base.specs.declared.token.LexKind.TheVariants as kind
use Rattle.dx_base.specs.Tokens.Classes.{is_digit, is_zero, is_plus_or_minus, is_name_start, is_name_byte, is_sign, begins, begins_digit, begins_float}
use Rattle.dx_base.specs.Tokens.Reading.{Front, front, name_front, is_frame, frame_front, int_value, fraction_len, int_of, number_front, closed_at, text_from, string_of, string_by, string_front, sign_len, sign_front}

-- a token that isn't the end takes some of n bytes
abbrev pub Takes : ℕ → Front → Type 0
Takes n (Ok found) = (found.0 ≡ kind.End → ⊥) × (0 < found.1) × (found.1 ≤ n)
Takes n (Err wrong) = Unit {0}

either : (b : Bool) (n : ℕ) (x y : Front) → (b ≡ true → Takes n x) → (b ≡ false → Takes n y) → Takes n (cond b x y)
either true n x y p q = p refl
either false n x y p q = q refl

some_passes : (p : ℕ → Bool) (b : ℕ) (rest : List ℕ) → p b ≡ true → 0 < prefix_len p (b ∷ rest)
some_passes p b rest e = rw e (omega arith)

name_byte : (b : ℕ) → is_name_start b ≡ true → is_name_byte b ≡ true
name_byte b e = rw e refl

takes_name : (b : ℕ) (rest : List ℕ) → is_name_start b ≡ true → Takes (length (b ∷ rest)) (name_front (b ∷ rest))
unfolding name_front
takes_name b rest e = either (ltb 255 (prefix_len is_name_byte (b ∷ rest))) _ _ _ (λ h. tt) (λ h. ((λ k. absurd cc), some_passes is_name_byte b rest (name_byte b e), prefix_len-le-length is_name_byte (b ∷ rest)))

takes_frame : (rest : List ℕ) (n : ℕ) → length rest < n → Takes n (frame_front rest)
unfolding frame_front
takes_frame rest n lt =
    let word = take (prefix_len is_name_byte rest) rest in
    let le : length word ≤ length rest = omega (arith, length-take-le (prefix_len is_name_byte rest) rest (prefix_len-le-length is_name_byte rest), prefix_len-le-length is_name_byte rest) in
    either (is_frame word) n _ _ (λ h. ((λ k. absurd cc), omega arith, omega arith)) (λ h. tt)

fraction_le : (text : List ℕ) → fraction_len text ≤ length text
unfolding fraction_len
fraction_le [] = omega arith
fraction_le (b ∷ rest) = by_test (b == 46 && begins 46 rest) (b == 46) (prefix_len-le-length is_zero rest)
  where
    by_test : (x y : Bool) → prefix_len is_zero rest ≤ length rest → cond x 0 (cond y (1 + prefix_len is_zero rest) 0) ≤ length (b ∷ rest)
    by_test true y le = omega arith
    by_test false true le = omega arith
    by_test false false le = omega arith

takes_int : (value : Option ℤ) (n m : ℕ) → 0 < m → m ≤ n → Takes n (int_of value m)
takes_int (Some value) n m some le = ((λ k. absurd cc), some, le)
takes_int None n m some le = tt

takes_number : (negative : Bool) (before : ℕ) (text : List ℕ) (n : ℕ) → 0 < prefix_len is_digit text → before + length text ≤ n → Takes n (number_front negative before text)
unfolding number_front
takes_number negative before text n some le =
    let k = prefix_len is_digit text in
    let k_le : k ≤ length text = prefix_len-le-length is_digit text in
    let digits : length (take k text) ≡ k = length-take-le k text k_le in
    let f_le : fraction_len (drop k text) ≤ length (drop k text) = fraction_le (drop k text) in
    let rest : length (drop k text) ≡ length text - k = length-drop k text in
    either (begins_float (drop (fraction_len (drop k text)) (drop k text))) n _ _ (λ h. tt) (λ h. takes_int (int_value negative (take k text)) n (before + length (take k text) + fraction_len (drop k text)) (omega arith) (omega arith))

closed_within : (n : ℕ) (escape : Bool) (text : List ℕ) (m : ℕ) → closed_at n escape text ≡ Some m → m < n + length text
unfolding closed_at
closed_within n escape [] m e = absurd cc
closed_within n escape (b ∷ rest) m e = by_test (b == 10) (b == 34 && not escape) (closed_within (n + 1) (b == 92 && not escape) rest m) e
  where
    by_test : (x y : Bool) → (closed_at (n + 1) (b == 92 && not escape) rest ≡ Some m → m < n + 1 + length rest) → cond x None (cond y (Some n) (closed_at (n + 1) (b == 92 && not escape) rest)) ≡ Some m → m < n + length (b ∷ rest)
    by_test true y ih h = absurd cc
    by_test false true ih h = let same : n ≡ m = cc in omega arith
    by_test false false ih h = omega (arith, ih h)

takes_text : (m : ℕ) (inside : Result (List ℕ) ℕ) (n : ℕ) → m + 2 ≤ n → Takes n (string_of m inside)
takes_text m (Ok found) n le = ((λ k. absurd cc), omega arith, le)
takes_text m (Err before) n le = tt

takes_closed : (closed : Option ℕ) (text : List ℕ) (n : ℕ) → ((m : ℕ) → closed ≡ Some m → m + 2 ≤ n) → Takes n (string_by closed text)
takes_closed None text n le = tt
takes_closed (Some m) text n le = takes_text m (text_from [] 0 false (take m text)) n (le m refl)

takes_string : (b : ℕ) (rest : List ℕ) → Takes (length (b ∷ rest)) (string_front rest)
unfolding string_front
takes_string b rest = takes_closed (closed_at 0 false rest) rest (length (b ∷ rest)) (λ m e. let lt : m < 0 + length rest = closed_within 0 false rest m e in omega arith)

sign_le : (text : List ℕ) → sign_len text ≤ length text
sign_le [] = omega arith
sign_le (b ∷ []) = by_test (is_sign b) (b == 45) (b == 46)
  where
    by_test : (one minus dot : Bool) → cond one 1 (cond (minus && false || dot && false) 2 0) ≤ 1
    by_test true minus dot = omega arith
    by_test false true true = omega arith
    by_test false true false = omega arith
    by_test false false true = omega arith
    by_test false false false = omega arith
sign_le (b ∷ c ∷ rest) = by_test (is_sign b) (b == 45 && c == 62 || b == 46 && c == 46)
  where
    by_test : (one two : Bool) → cond one 1 (cond two 2 0) ≤ length (b ∷ c ∷ rest)
    by_test true two = omega arith
    by_test false true = omega arith
    by_test false false = omega arith

some_bytes : (n : ℕ) → (n == 0) ≡ false → 0 < n
some_bytes zero e = absurd cc
some_bytes (suc n) e = omega arith

takes_sign : (text : List ℕ) → Takes (length text) (sign_front text)
takes_sign text = either (sign_len text == 0) (length text) _ _ (λ e. tt) (λ e. ((λ k. absurd cc), some_bytes (sign_len text) e, sign_le text))

pub takes_front : (b : ℕ) (rest : List ℕ) → Takes (length (b ∷ rest)) (front (b ∷ rest))
unfolding front
takes_front b rest =
    let n = length (b ∷ rest) in
    either (is_name_start b) n _ _ (λ e. takes_name b rest e)
    (λ e. either (is_digit b) n _ _ (λ h. takes_number false 0 (b ∷ rest) n (some_passes is_digit b rest h) (omega arith))
    (λ h. either (is_plus_or_minus b && begins_digit rest) n _ _ (λ i. takes_number (b == 45) 1 rest n (begun rest (second (is_plus_or_minus b) (begins_digit rest) i)) (omega arith))
    (λ i. either (b == 46 && begins_digit rest) n _ _ (λ j. tt)
    (λ j. either (b == 34) n _ _ (λ k. takes_string b rest)
    (λ k. either (b == 64) n _ _ (λ l. takes_frame rest n (omega arith)) (λ l. takes_sign (b ∷ rest)))))))
  where
    second : (x y : Bool) → (x && y) ≡ true → y ≡ true
    second true y e = e
    second false y e = absurd cc

    begun : (text : List ℕ) → begins_digit text ≡ true → 0 < prefix_len is_digit text
    begun [] e = absurd cc
    begun (b ∷ rest) e = some_passes is_digit b rest e
