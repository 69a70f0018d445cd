-- At each place of a text stands exactly one token or exactly one error, the one that is read.
use Rattle.std.specs.Prelude.{◌==◌, replicate}
use Rattle.std.proofs.Common.{◌≡◌, ℕ, suc, zero, ◌+◌, List, [], ◌∷◌, ◌++◌, length, drop, Bool, true, refl, sym, ap, subst, arith, ◌⊎◌, inl, inr, ◌∙◌, Option, Some, None, Result, Ok, Err, add-zero}
use Rattle.std.proofs.lemmas.Bool.Decides.{nat_tests}
use Rattle.std.proofs.lemmas.Grind.{common_steps}
use Rattle.dx_base.specs.declared.token.Place.{Place}
use Rattle.dx_base.specs.declared.token.Lexeme.{Lexeme}
use Rattle.dx_base.specs.declared.token.LexKind.{LexKind}
use Rattle.dx_base.specs.declared.token.LexKind.TheVariants as kind
use Rattle.dx_base.specs.declared.token.SyntaxKind.{SyntaxKind}
use Rattle.dx_base.specs.declared.token.SyntaxError.{SyntaxError}
use Rattle.dx_base.specs.Tokens.Places.{behind, behind_all, along, error_at}
use Rattle.dx_base.specs.Tokens.Classes.{is_in_line, is_digit, is_name_byte, is_sign, Each}
use Rattle.dx_base.specs.Tokens.Gaps.{gap_bytes}
use Rattle.dx_base.specs.Tokens.Spelling.{Sign, Unsigned, Plus, Minus, sign_bytes, fraction_bytes, Item, Plain, Escaped, item_bytes, is_plain, AreItems, IsToken, IsSign}
use Rattle.dx_base.specs.Tokens.Refusals.{IsRefusal, long_name, no_frame, open_string, bad_backslash, stray, fraction, point, beyond}
use Rattle.dx_base.specs.Tokens.Standing.{IsLexeme, IsError, IsOnlyLexeme, IsOnlyError}
use Rattle.dx_base.specs.Tokens.Reading.{front, lexeme_at}
use Rattle.dx_base.proofs.Tokens.Spans.{not_no}
use Rattle.dx_base.proofs.Tokens.GapLaw.{gap_passed, HasGap, has_gap}
use Rattle.dx_base.proofs.Tokens.WordLaw.{word_each, frame_each}
use Rattle.dx_base.proofs.Tokens.FrontLaw.{token_read, refusal_read, Has, has_front}

-- ---- a token lies in one line

each_of : (p q : ℕ → Bool) (bytes : List ℕ) → ((b : ℕ) → p b ≡ true → q b ≡ true) → Each p bytes → Each q bytes
each_of p q [] f each = tt
each_of p q (b ∷ rest) f each = (f b each.0, each_of p q rest f each.1)

each_append : (p : ℕ → Bool) (front back : List ℕ) → Each p front → Each p back → Each p (front ++ back)
each_append p [] back f g = g
each_append p (b ∷ front) back f g = (f.0, each_append p front back f.1 g)

name_in_line : (b : ℕ) → is_name_byte b ≡ true → is_in_line b ≡ true
name_in_line b e = grind (arith, nat_tests, common_steps)

digit_in_line : (b : ℕ) → is_digit b ≡ true → is_in_line b ≡ true
digit_in_line b e = grind (arith, nat_tests, common_steps)

sign_in_line : (b : ℕ) → is_sign b ≡ true → is_in_line b ≡ true
sign_in_line b e = grind (arith, nat_tests, common_steps)

plain_in_line : (b : ℕ) → is_plain b ≡ true → is_in_line b ≡ true
plain_in_line b e = grind (arith, nat_tests, common_steps)

zeros_in_line : (count : ℕ) → Each is_in_line (replicate count 48)
zeros_in_line zero = tt
zeros_in_line (suc n) = (refl, zeros_in_line n)

prefix_in_line : (sign : Sign) → Each is_in_line (sign_bytes sign)
prefix_in_line Unsigned = tt
prefix_in_line Plus = (refl, tt)
prefix_in_line Minus = (refl, tt)

fraction_in_line : (zeros : Option ℕ) → Each is_in_line (fraction_bytes zeros)
fraction_in_line None = tt
fraction_in_line (Some count) = (refl, zeros_in_line count)

items_in_line : (items : List Item) → AreItems items → Each is_in_line (item_bytes items)
items_in_line [] is = tt
items_in_line (Plain b ∷ more) is = (plain_in_line b is.0, items_in_line more is.1)
items_in_line (Escaped b ∷ more) is = (refl, (is.0, items_in_line more is.1))

front_items : (items more : List Item) → AreItems (items ++ more) → AreItems items
front_items [] more is = tt
front_items (Plain b ∷ items) more is = (is.0, front_items items more is.1)
front_items (Escaped b ∷ items) more is = (is.0, front_items items more is.1)

signs_in_line : (sign : List ℕ) → IsSign sign → Each is_in_line sign
signs_in_line sign (inl single) = rw single.1 (sign_in_line single.0 single.2, tt)
signs_in_line sign (inr (inl arrow)) = rw arrow (refl, (refl, tt))
signs_in_line sign (inr (inr dots)) = rw dots (refl, (refl, tt))

token_in_line : (found : LexKind) (bytes rest : List ℕ) → IsToken found bytes rest → Each is_in_line bytes
token_in_line kind.End bytes rest is = rw is.0 tt
token_in_line (kind.Name name) bytes rest is = rw is.0 (each_of is_name_byte is_in_line name name_in_line (word_each name is.1.word))
token_in_line (kind.Int v) bytes rest is =
    rw is.spelled (each_append is_in_line (sign_bytes is.numeral.sign) _ (prefix_in_line is.numeral.sign)
    (each_append is_in_line is.numeral.digits _ (each_of is_digit is_in_line is.numeral.digits digit_in_line is.longest.digits) (fraction_in_line is.numeral.fraction)))
token_in_line (kind.Text text) bytes rest is = rw is.spelled (refl, each_append is_in_line (item_bytes is.items) _ (items_in_line is.items is.lawful) (refl, tt))
token_in_line (kind.Frame spelled) bytes rest is = rw (is.0, is.2) (refl, each_of is_name_byte is_in_line is.1 name_in_line (frame_each is.1 is.3.frame))
token_in_line (kind.Sign sign) bytes rest is = rw is.0 (signs_in_line sign is.1)

none_in_line : (before : List ℕ) → before ≡ [] → Each is_in_line before
none_in_line before e = rw e tt

refusal_in_line : (text before : List ℕ) (wrong : SyntaxKind) → IsRefusal text before wrong → Each is_in_line before
refusal_in_line text before wrong (long_name is e) = none_in_line before e
refusal_in_line text before wrong (no_frame is e) = none_in_line before e
refusal_in_line text before wrong (open_string is e) = none_in_line before e
refusal_in_line text before wrong (bad_backslash is) = rw is.place (refl, items_in_line is.front (front_items is.front (Escaped is.bad ∷ is.back) is.lawful))
refusal_in_line text before wrong (stray is e) = none_in_line before e
refusal_in_line text before wrong (fraction is e) = none_in_line before e
refusal_in_line text before wrong (point is e) = none_in_line before e
refusal_in_line text before wrong (beyond is e) = none_in_line before e

shift : (a n : ℕ) → a + 1 + n ≡ a + suc n
shift a n = omega arith

step_along : (p : Place) (b n : ℕ) → is_in_line b ≡ true → along (behind p b) n ≡ along p (suc n)
step_along p b n e = rw (not_no (b == 10) e) (rw (shift p.offset n, shift p.column n) refl)

pub in_one_line : (p : Place) (bytes : List ℕ) → Each is_in_line bytes → behind_all p bytes ≡ along p (length bytes)
in_one_line p [] each = simp add-zero
in_one_line p (b ∷ rest) each = in_one_line (behind p b) rest each.1 ∙ step_along p b (length rest) each.0

-- ---- what stands is what is read

pub lexeme_read : (text : List ℕ) (at : Place) (found : Lexeme) → IsLexeme text at found → lexeme_at text at ≡ Ok found
unfolding lexeme_at
lexeme_read text at found is =
    let from = behind_all at (gap_bytes is.gap) in
    let n = length is.bytes in
    let to : along from n ≡ found.to = ap (λ (p : Place). along p n) (sym is.from) ∙ sym (in_one_line found.from is.bytes (token_in_line found.kind is.bytes is.rest is.token)) ∙ sym is.to in
    rw (is.parts, gap_passed (at.offset == 0) at is.gap (is.bytes ++ is.rest) is.between) (rw (token_read found.kind is.bytes is.rest is.token, to, ← is.from) refl)

pub error_read : (text : List ℕ) (at : Place) (error : SyntaxError) → IsError text at error → lexeme_at text at ≡ Err error
unfolding lexeme_at
error_read text at error is =
    let from = behind_all at (gap_bytes is.gap) in
    let n = length is.before in
    let place : along from n ≡ behind_all from is.before = sym (in_one_line from is.before (refusal_in_line is.rest is.before error.kind is.refusal)) in
    rw (is.parts, gap_passed (at.offset == 0) at is.gap is.rest is.between) (rw (refusal_read is.rest is.before error.kind is.refusal) (ap (λ (p : Place). let r : Result Lexeme SyntaxError = Err (error_at error.kind p) in r) place ∙ ap Err (sym is.place)))

-- ---- something stands

pub record HasLexeme (text : List ℕ) (at : Place) : Type 0 where
  pub found : Lexeme
  pub is : IsLexeme text at found

pub record HasError (text : List ℕ) (at : Place) : Type 0 where
  pub error : SyntaxError
  pub is : IsError text at error

stands_behind : (text : List ℕ) (at : Place) (gap : HasGap (at.offset == 0) (drop at.offset text)) → Has gap.rest → HasLexeme text at ⊎ HasError text at
stands_behind text at gap (inl t) =
    let from = behind_all at (gap_bytes gap.gap) in
    inl (record {
      found = record { kind = t.kind_; from = from; to = behind_all from t.bytes };
      is = record {
        gap = gap.gap;
        bytes = t.bytes;
        rest = t.rest;
        parts = rw (← t.parts) gap.parts;
        between = rw (← t.parts) gap.between;
        token = t.token;
        from = refl;
        to = refl;
      };
    })
stands_behind text at gap (inr r) =
    let from = behind_all at (gap_bytes gap.gap) in
    inr (record {
      error = error_at r.kind_ (behind_all from r.before);
      is = record { gap = gap.gap; rest = gap.rest; before = r.before; parts = gap.parts; between = gap.between; refusal = r.refusal; place = refl };
    })

pub stands : (text : List ℕ) (at : Place) → HasLexeme text at ⊎ HasError text at
stands text at = let gap = has_gap (at.offset == 0) (drop at.offset text) in stands_behind text at gap (has_front gap.rest)

-- ---- what is read stands, and nothing else

only_lexeme_by : (text : List ℕ) (at : Place) (found : Lexeme) → lexeme_at text at ≡ Ok found → HasLexeme text at ⊎ HasError text at → IsOnlyLexeme text at found
only_lexeme_by text at found e (inl h) =
    let read = lexeme_read text at h.found h.is in
    let same : h.found ≡ found = cc in
    record {
      stands = subst (IsLexeme text at) same h.is;
      only = λ other is. let read = lexeme_read text at other is in cc;
      no_error = λ error is. let read = error_read text at error is in cc;
    }
only_lexeme_by text at found e (inr h) = let read = error_read text at h.error h.is in absurd cc

pub only_lexeme : (text : List ℕ) (at : Place) (found : Lexeme) → lexeme_at text at ≡ Ok found → IsOnlyLexeme text at found
only_lexeme text at found e = only_lexeme_by text at found e (stands text at)

only_error_by : (text : List ℕ) (at : Place) (error : SyntaxError) → lexeme_at text at ≡ Err error → HasLexeme text at ⊎ HasError text at → IsOnlyError text at error
only_error_by text at error e (inl h) = let read = lexeme_read text at h.found h.is in absurd cc
only_error_by text at error e (inr h) =
    let read = error_read text at h.error h.is in
    let same : h.error ≡ error = cc in
    record {
      stands = subst (IsError text at) same h.is;
      only = λ other is. let read = error_read text at other is in cc;
      no_lexeme = λ found is. let read = lexeme_read text at found is in cc;
    }

pub only_error : (text : List ℕ) (at : Place) (error : SyntaxError) → lexeme_at text at ≡ Err error → IsOnlyError text at error
only_error text at error e = only_error_by text at error e (stands text at)
