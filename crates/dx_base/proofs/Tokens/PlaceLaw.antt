-- A place that a reading comes to is the one behind all the bytes before it.
use Rattle.std.specs.Prelude.{◌==◌}
use Rattle.std.proofs.Common.{◌≡◌, ℕ, ◌+◌, List, [], ◌∷◌, ◌++◌, length, take, drop, Bool, true, false, cond, refl, sym, ap, subst, arith, ◌∙◌, append_assoc, zero-add}
use Rattle.std.proofs.Math.Seq.{take-append_seam}
use Rattle.std.proofs.lemmas.List.{take-append-drop}
use Rattle.std.proofs.lemmas.List.Sums.{fold-append}
use Rattle.dx_base.specs.declared.token.Place.{Place}
use Rattle.dx_base.specs.declared.token.Lexeme.{Lexeme}
use Rattle.dx_base.specs.Tokens.Places.{first, behind, behind_all, IsPlaceOf}
use Rattle.dx_base.specs.Tokens.Gaps.{gap_bytes}
use Rattle.dx_base.specs.declared.token.SyntaxKind.{SyntaxKind}
use Rattle.dx_base.specs.Tokens.Refusals.{IsRefusal, HasBadBackslash, long_name, no_frame, open_string, bad_backslash, stray, fraction, point, beyond}
use Rattle.dx_base.specs.Tokens.Spelling.{Item, Plain, Escaped, item_bytes}
use Rattle.dx_base.specs.declared.token.SyntaxError.{SyntaxError}
use Rattle.dx_base.specs.Tokens.Standing.{IsLexeme, IsError, HasPlaces, HasPlace}
use Rattle.dx_base.specs.Tokens.Reading.{IsReached, start, behind_token}
use Rattle.dx_base.proofs.Tokens.StandingLaw.{only_lexeme}

pub step_offset : (p : Place) (b : ℕ) → (behind p b).offset ≡ p.offset + 1
step_offset p b = by_test (b == 10)
  where
    by_test : (newline : Bool) → let step : Place = cond newline (record { offset = p.offset + 1; line = p.line + 1; column = 1 }) (record { offset = p.offset + 1; line = p.line; column = p.column + 1 }) in step.offset ≡ p.offset + 1
    by_test true = refl
    by_test false = refl

pub offset_behind : (p : Place) (bytes : List ℕ) → (behind_all p bytes).offset ≡ p.offset + length bytes
offset_behind p [] = omega arith
offset_behind p (b ∷ rest) = omega (arith, offset_behind (behind p b) rest, step_offset p b)

front_place : (text front rest : List ℕ) → front ++ rest ≡ text → (p : Place) → p ≡ behind_all first front → IsPlaceOf text p
front_place text front rest parts p e =
    let n : p.offset ≡ length front = ap (λ (q : Place). q.offset) e ∙ offset_behind first front ∙ zero-add (length front) in
    let taken : take p.offset text ≡ front = rw (n, ← parts) (take-append_seam front rest) in
    e ∙ ap (behind_all first) (sym taken)

-- the place behind some bytes that stand behind a place
further_place : (text : List ℕ) (at : Place) (bytes rest : List ℕ) → IsPlaceOf text at → drop at.offset text ≡ bytes ++ rest → IsPlaceOf text (behind_all at bytes)
further_place text at bytes rest place parts =
    let before = take at.offset text in
    let whole : (before ++ bytes) ++ rest ≡ text = append_assoc before bytes rest ∙ ap (λ (t : List ℕ). before ++ t) (sym parts) ∙ take-append-drop at.offset text in
    let same : behind_all at bytes ≡ behind_all first (before ++ bytes) = ap (λ (p : Place). behind_all p bytes) place ∙ sym (fold-append behind first before bytes) in
    front_place text (before ++ bytes) rest whole (behind_all at bytes) same

pub lexeme_places : (text : List ℕ) (at : Place) (found : Lexeme) → IsPlaceOf text at → IsLexeme text at found → HasPlaces text found
lexeme_places text at found place is =
    let gap = gap_bytes is.gap in
    let to_is : behind_all at (gap ++ is.bytes) ≡ found.to = fold-append behind at gap is.bytes ∙ ap (λ (p : Place). behind_all p is.bytes) (sym is.from) ∙ sym is.to in
    record {
      from = subst (IsPlaceOf text) (sym is.from) (further_place text at gap (is.bytes ++ is.rest) place is.parts);
      to = subst (IsPlaceOf text) to_is (further_place text at (gap ++ is.bytes) is.rest place (is.parts ∙ sym (append_assoc gap is.bytes is.rest)));
    }

items_append : (front back : List Item) → item_bytes (front ++ back) ≡ item_bytes front ++ item_bytes back
items_append [] back = refl
items_append (Plain b ∷ front) back = ap (λ (t : List ℕ). b ∷ t) (items_append front back)
items_append (Escaped b ∷ front) back = ap (λ (t : List ℕ). 92 ∷ b ∷ t) (items_append front back)

-- what is before a fault stands at the front
abbrev IsFront : List ℕ → List ℕ → Type 0
IsFront text before = (more : List ℕ) × (text ≡ before ++ more)

at_front : (text before : List ℕ) → before ≡ [] → IsFront text before
at_front text before e = (text, rw e refl)

backslash_front : (text before : List ℕ) → HasBadBackslash text before → IsFront text before
backslash_front text before is =
    let back : List Item = Escaped is.bad ∷ is.back in (
      item_bytes back ++ 34 ∷ is.behind,
      rw (is.parts, is.place, items_append is.front back, append_assoc (item_bytes is.front) (item_bytes back) (34 ∷ is.behind)) refl,
    )

refusal_front : (text before : List ℕ) (wrong : SyntaxKind) → IsRefusal text before wrong → IsFront text before
refusal_front text before wrong (long_name is e) = at_front text before e
refusal_front text before wrong (no_frame is e) = at_front text before e
refusal_front text before wrong (open_string is e) = at_front text before e
refusal_front text before wrong (bad_backslash is) = backslash_front text before is
refusal_front text before wrong (stray is e) = at_front text before e
refusal_front text before wrong (fraction is e) = at_front text before e
refusal_front text before wrong (point is e) = at_front text before e
refusal_front text before wrong (beyond is e) = at_front text before e

pub error_place : (text : List ℕ) (at : Place) (error : SyntaxError) → IsPlaceOf text at → IsError text at error → HasPlace text error
error_place text at error place is =
    let gap = gap_bytes is.gap in
    let front = refusal_front is.rest is.before error.kind is.refusal in
    let parts : drop at.offset text ≡ (gap ++ is.before) ++ front.0 = is.parts ∙ ap (λ (t : List ℕ). gap ++ t) front.1 ∙ sym (append_assoc gap is.before front.0) in
    record {
      place = behind_all (behind_all at gap) is.before;
      in_text = subst (IsPlaceOf text) (fold-append behind at gap is.before) (further_place text at (gap ++ is.before) front.0 place parts);
      same = is.place;
    }

pub reached_place : (text : List ℕ) (p : Place) → IsReached text p → IsPlaceOf text p
reached_place text p start = front_place text [] text refl first refl
reached_place text p (behind_token at found reached is) = (lexeme_places text at found (reached_place text at reached) (only_lexeme text at found is).stands).to
