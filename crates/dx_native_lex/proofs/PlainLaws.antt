-- A number that is spelled by digits alone, behind a minus or not.
use Rattle.std.proofs.Common.{◌≡◌, ◌==◌, ℕ, suc, ◌+◌, ◌-◌, ◌<◌, Bool, true, false, cond, List, [], ◌∷◌, length, take, drop, fold, Some, Ok, ℤ, length-drop, refl, sym, ap, ◌∙◌, arith}
use Rattle.std.specs.Prelude.{take_while, option_map}
use Rattle.std.specs.List.{prefix_len}
use Rattle.std.proofs.lemmas.Bool.Decides.{nat_tests}
use Rattle.std.proofs.lemmas.List.Sums.{take_while-cons, prefix_len-le-length}
use Rattle.std.proofs.lemmas.List.Folds.{length-prefix_len}
use Rattle.std.proofs.Math.Seq.{take-length, drop-length}
use Rattle.dx_base.specs.Number as number
use Rattle.dx_base.specs.Number.{signed, number_behind, number_with, is_fraction, nearest_i64}
use Rattle.dx_base.specs.Tokens.Classes.{is_digit, is_plus_or_minus}
use Rattle.dx_base.specs.Tokens.Spelling.{add_digit, value_of}
use Rattle.dx_places.specs.Grammar.{At}
use Rattle.dx_native_lex.specs.Scan.{Found, is_word_byte, word_at, quoted_at, token_at, unblanked, lexed, number_of}
use Rattle.dx_native_lex.specs.Token.{number as number_token, class_of, taken, number_in, number_with as with_place, none_of, number_misfit}
use Rattle.dx_native_lex.specs.Plain.{run, ends_word, is_negative, unsigned}
use Rattle.dx_native_lex.specs.declared.scan.Kind.TheVariants as kind

-- ---- what a run finds

plus : (n : ℕ) → 1 + n ≡ suc n
plus n = omega arith

value_by : (k b : ℕ) (r : List ℕ) (c : Bool) → (run (add_digit k b) r).0 ≡ fold add_digit (add_digit k b) (take (prefix_len is_digit r) r)
    → (cond c (run (add_digit k b) r) (k, b ∷ r)).0 ≡ fold add_digit k (take (cond c (1 + prefix_len is_digit r) 0) (b ∷ r))
value_by k b r true h = h ∙ ap (λ n. fold add_digit k (take n (b ∷ r))) (sym (plus (prefix_len is_digit r)))
value_by k b r false h = refl

run_value : (k : ℕ) (t : List ℕ) → (run k t).0 ≡ fold add_digit k (take (prefix_len is_digit t) t)
unfolding run
run_value k [] = refl
run_value k (b ∷ r) = value_by k b r (is_digit b) (run_value (add_digit k b) r)

rest_by : (k b : ℕ) (r : List ℕ) (c : Bool) → (run (add_digit k b) r).1 ≡ drop (prefix_len is_digit r) r
    → (cond c (run (add_digit k b) r) (k, b ∷ r)).1 ≡ drop (cond c (1 + prefix_len is_digit r) 0) (b ∷ r)
rest_by k b r true h = h ∙ ap (λ n. drop n (b ∷ r)) (sym (plus (prefix_len is_digit r)))
rest_by k b r false h = refl

run_rest : (k : ℕ) (t : List ℕ) → (run k t).1 ≡ drop (prefix_len is_digit t) t
unfolding run
run_rest k [] = refl
run_rest k (b ∷ r) = rest_by k b r (is_digit b) (run_rest (add_digit k b) r)

-- ---- bytes

digit_in_word : (b : ℕ) → is_digit b ≡ true → is_word_byte b ≡ true
digit_in_word b h = grind (arith, nat_tests)

digit_no_sign : (b : ℕ) → is_digit b ≡ true → is_plus_or_minus b ≡ false
digit_no_sign b h = grind (arith, nat_tests)

digit_no_quote : (b : ℕ) → is_digit b ≡ true → (b == 34) ≡ false
digit_no_quote b h = grind (arith, nat_tests)

-- ---- the word

word_by : (b : ℕ) (r : List ℕ) (c : Bool) → is_digit b ≡ c → (ends_word (drop (prefix_len is_digit r) r) ≡ true → length (take_while is_word_byte r) ≡ prefix_len is_digit r)
    → ends_word (drop (cond c (1 + prefix_len is_digit r) 0) (b ∷ r)) ≡ true → length (cond (is_word_byte b) (b ∷ take_while is_word_byte r) []) ≡ cond c (1 + prefix_len is_digit r) 0
word_by b r true e next h =
    let p = prefix_len is_digit r in
    ap (λ w. length (cond w (b ∷ take_while is_word_byte r) [])) (digit_in_word b e) ∙ ap suc (next (ap (λ n. ends_word (drop n (b ∷ r))) (sym (plus p)) ∙ h)) ∙ sym (plus p)
word_by b r false e next h = let n : is_word_byte b ≡ false = grind (arith, nat_tests, h) in ap (λ w. length (cond w (b ∷ take_while is_word_byte r) [])) n

-- where a word ends behind digits, these are the word's bytes
word_is_run : (t : List ℕ) → ends_word (drop (prefix_len is_digit t) t) ≡ true → length (take_while is_word_byte t) ≡ prefix_len is_digit t
word_is_run [] h = refl
word_is_run (b ∷ r) h = ap length (take_while-cons is_word_byte b r) ∙ word_by b r (is_digit b) refl (word_is_run r) h

-- ---- its number

len_by : (b : ℕ) (r : List ℕ) (c : Bool) → is_digit b ≡ c → prefix_len is_digit (take (prefix_len is_digit r) r) ≡ prefix_len is_digit r
    → prefix_len is_digit (take (cond c (1 + prefix_len is_digit r) 0) (b ∷ r)) ≡ cond c (1 + prefix_len is_digit r) 0
len_by b r true e h =
    ap (λ n. prefix_len is_digit (take n (b ∷ r))) (plus (prefix_len is_digit r)) ∙ ap (λ c. cond c (1 + prefix_len is_digit (take (prefix_len is_digit r) r)) 0) e ∙ ap (λ n. 1 + n) h
len_by b r false e h = refl

all_digits : (t : List ℕ) → prefix_len is_digit (take (prefix_len is_digit t) t) ≡ prefix_len is_digit t
all_digits [] = refl
all_digits (b ∷ r) = len_by b r (is_digit b) refl (all_digits r)

behind_by : (negative : Bool) (ds : List ℕ) → 0 < length ds → number_with negative ds [] ≡ Some (signed negative (value_of ds))
behind_by negative [] h = absurd (omega arith)
behind_by negative (d ∷ ds) h = refl

digits_behind : (negative : Bool) (ds : List ℕ) → prefix_len is_digit ds ≡ length ds → 0 < length ds → number_behind negative ds ≡ Some (signed negative (value_of ds))
unfolding number_behind
digits_behind negative ds h some =
    ap (λ n. number_with negative (take n ds) (drop n ds)) h
    ∙ ap (λ xs. number_with negative xs (drop (length ds) ds)) (take-length ds)
    ∙ ap (λ xs. number_with negative ds xs) (drop-length ds)
    ∙ behind_by negative ds some

-- ---- the token

abbrev found_word : ℕ → List ℕ → ℕ → Found
found_word at text n = record { kind = kind.Word; at = at; content = take n text; after = record { offset = at + n; rest = drop n text } }

token_word : (at b : ℕ) (r : List ℕ) (n : ℕ) → (b == 34) ≡ false → length (take_while is_word_byte r) ≡ n → token_at at (b ∷ r) ≡ found_word at (b ∷ r) (suc n)
unfolding token_at word_at
token_word at b r n q h =
    let many : 1 + length (take_while is_word_byte r) ≡ suc n = omega (arith, h) in
    ap (λ c. cond c (quoted_at at r) (word_at at (b ∷ r))) q ∙ ap (λ n. found_word at (b ∷ r) n) many

lexed_word : (s : At) (at b : ℕ) (r : List ℕ) (n : ℕ) → unblanked false s.offset s.rest ≡ record { offset = at; rest = b ∷ r } → (b == 34) ≡ false → length (take_while is_word_byte r) ≡ n
    → lexed s ≡ found_word at (b ∷ r) (suc n)
unfolding lexed
lexed_word s at b r n e q h = ap (λ (m : At). token_at m.offset m.rest) e ∙ token_word at b r n q h

read_word : (s : At) (at b : ℕ) (r : List ℕ) (n : ℕ) (z : ℤ) → lexed s ≡ found_word at (b ∷ r) (suc n) → number_of (b ∷ take n r) ≡ Some z
    → number_token.read s ≡ Ok (record { value = z; at = at }, record { offset = at + suc n; rest = drop n r })
unfolding number_token
read_word s at b r n z l h =
    ap (λ (f : Found). taken (class_of number_in none_of f) (number_misfit f) f.after) l
    ∙ ap (λ o. taken (with_place at o) (number_misfit (found_word at (b ∷ r) (suc n))) (record { offset = at + suc n; rest = drop n r })) h

-- ---- what the run tells

len_is : (t after : List ℕ) (len : ℕ) → after ≡ drop (prefix_len is_digit t) t → len + length after ≡ length t → len ≡ prefix_len is_digit t
len_is t after len e h = let l = ap length e in omega (arith, l, length-drop (prefix_len is_digit t) t, prefix_len-le-length is_digit t)

is_some_len : (c : Bool) (x len : ℕ) → len ≡ cond c x 0 → 0 < len → c ≡ true
is_some_len true x len e h = refl
is_some_len false x len e h = absurd (omega arith)

value_is : (negative : Bool) (t after : List ℕ) (n : ℕ) → run 0 t ≡ (n, after) → 0 < prefix_len is_digit t
    → option_map nearest_i64 (number_behind negative (take (prefix_len is_digit t) t)) ≡ Some (nearest_i64 (signed negative n))
value_is negative t after n e some =
    let ds = take (prefix_len is_digit t) t in
    let many : length ds ≡ prefix_len is_digit t = length-prefix_len is_digit t in
    let whole : prefix_len is_digit ds ≡ length ds = all_digits t ∙ sym many in
    let value : value_of ds ≡ n = sym (run_value 0 t) ∙ ap (λ (p : ℕ × List ℕ). p.0) e in
    ap (option_map nearest_i64) (digits_behind negative ds whole (omega (arith, many))) ∙ ap (λ n. Some (nearest_i64 (signed negative n))) value

-- ---- the number that is read

negative_read : (s : At) (at n len : ℕ) (t after : List ℕ) → unblanked false s.offset s.rest ≡ record { offset = at; rest = 45 ∷ t } → run 0 t ≡ (n, after)
    → len + length after ≡ length t → 0 < len → ends_word after ≡ true → number_token.read s ≡ Ok (record { value = nearest_i64 (signed true n); at = at }, record { offset = at + (suc (length t) - length after); rest = after })
unfolding number_of number.number_of
negative_read s at n len t after place e h some ends =
    let q = prefix_len is_digit t in
    let rest : after ≡ drop q t = ap (λ (p : ℕ × List ℕ). p.1) (sym e) ∙ run_rest 0 t in
    let same : len ≡ q = len_is t after len rest h in
    let word = word_is_run t (ap ends_word (sym rest) ∙ ends) in
    let l = lexed_word s at 45 t q place refl word in
    let far : at + suc q ≡ at + (suc (length t) - length after) = omega (arith, same, h) in
    read_word s at 45 t q (nearest_i64 (signed true n)) l (value_is true t after n e (omega (arith, same)))
    ∙ ap (λ (o : ℕ). Ok (record { value = nearest_i64 (signed true n); at = at }, record { offset = o; rest = drop q t })) far
    ∙ ap (λ (r : List ℕ). Ok (record { value = nearest_i64 (signed true n); at = at }, record { offset = at + (suc (length t) - length after); rest = r })) (sym rest)

positive_by : (s : At) (at n len d : ℕ) (r after : List ℕ) → is_digit d ≡ true → unblanked false s.offset s.rest ≡ record { offset = at; rest = d ∷ r } → run 0 (d ∷ r) ≡ (n, after)
    → after ≡ drop (prefix_len is_digit (d ∷ r)) (d ∷ r) → len ≡ prefix_len is_digit (d ∷ r) → len + length after ≡ suc (length r) → ends_word after ≡ true
    → number_token.read s ≡ Ok (record { value = nearest_i64 (signed false n); at = at }, record { offset = at + (suc (length r) - length after); rest = after })
unfolding number_of number.number_of
positive_by s at n len d r after digit place e rest same h ends =
    let q = prefix_len is_digit r in
    let p : prefix_len is_digit (d ∷ r) ≡ suc q = ap (λ c. cond c (1 + q) 0) digit ∙ plus q in
    let left : after ≡ drop q r = rest ∙ ap (λ n. drop n (d ∷ r)) p in
    let word = word_is_run r (ap ends_word (sym left) ∙ ends) in
    let l = lexed_word s at d r q place (digit_no_quote d digit) word in
    let far : at + suc q ≡ at + (suc (length r) - length after) = omega (arith, same, p, h) in
    let spelled : number_of (d ∷ take q r) ≡ Some (nearest_i64 (signed false n)) =
    ap (λ c. option_map nearest_i64 (cond c (number_behind (d == 45) (take q r)) (number_behind false (d ∷ take q r)))) (digit_no_sign d digit)
    ∙ ap (λ n. option_map nearest_i64 (number_behind false (take n (d ∷ r)))) (sym p)
    ∙ value_is false (d ∷ r) after n e (omega (arith, p)) in
    read_word s at d r q (nearest_i64 (signed false n)) l spelled
    ∙ ap (λ (o : ℕ). Ok (record { value = nearest_i64 (signed false n); at = at }, record { offset = o; rest = drop q r })) far
    ∙ ap (λ (x : List ℕ). Ok (record { value = nearest_i64 (signed false n); at = at }, record { offset = at + (suc (length r) - length after); rest = x })) (sym left)

positive_read : (s : At) (at n len d : ℕ) (r after : List ℕ) → unblanked false s.offset s.rest ≡ record { offset = at; rest = d ∷ r } → run 0 (d ∷ r) ≡ (n, after)
    → len + length after ≡ suc (length r) → 0 < len → ends_word after ≡ true → number_token.read s ≡ Ok (record { value = nearest_i64 (signed false n); at = at }, record { offset = at + (suc (length r) - length after); rest = after })
positive_read s at n len d r after place e h some ends =
    let rest : after ≡ drop (prefix_len is_digit (d ∷ r)) (d ∷ r) = ap (λ (p : ℕ × List ℕ). p.1) (sym e) ∙ run_rest 0 (d ∷ r) in
    let same : len ≡ prefix_len is_digit (d ∷ r) = len_is (d ∷ r) after len rest h in
    positive_by s at n len d r after (is_some_len (is_digit d) (1 + prefix_len is_digit r) len same some) place e rest same h ends

plain_by : (s : At) (at n len b : ℕ) (r after : List ℕ) (c : Bool) → (b == 45) ≡ c → unblanked false s.offset s.rest ≡ record { offset = at; rest = b ∷ r } → run 0 (cond c r (b ∷ r)) ≡ (n, after)
    → len + length after ≡ length (cond c r (b ∷ r)) → 0 < len → ends_word after ≡ true
    → number_token.read s ≡ Ok (record { value = nearest_i64 (signed c n); at = at }, record { offset = at + (suc (length r) - length after); rest = after })
plain_by s at n len b r after true is place e h some ends =
    let minus : b ≡ 45 = grind (arith, nat_tests, is) in
    negative_read s at n len r after (place ∙ ap (λ (b : ℕ). record { offset = at; rest = b ∷ r }) minus) e h some ends
plain_by s at n len b r after false is place e h some ends = positive_read s at n len b r after place e h some ends

-- digits alone, behind a minus or not, are read as their number
pub plain_read : (s : At) (at n len : ℕ) (text after : List ℕ) → unblanked false s.offset s.rest ≡ record { offset = at; rest = text } → run 0 (unsigned text) ≡ (n, after)
    → len + length after ≡ length (unsigned text) → 0 < len → ends_word after ≡ true
    → number_token.read s ≡ Ok (record { value = nearest_i64 (signed (is_negative text) n); at = at }, record { offset = at + (length text - length after); rest = after })
plain_read s at n len [] after place e h some ends = absurd (omega arith)
plain_read s at n len (b ∷ r) after place e h some ends = plain_by s at n len b r after (b == 45) refl place e h some ends
