-- Which part of the reading a text comes to, by its first byte.
use Rattle.std.specs.Prelude.{◌==◌}
use Rattle.std.proofs.Common.{◌≡◌, ℕ, List, ◌∷◌, true, false, refl, arith, Err}
use Rattle.std.proofs.lemmas.Bool.{eqb-true, ne_eqb}
use Rattle.std.proofs.lemmas.Bool.Decides.{nat_tests}
use Rattle.std.proofs.lemmas.Grind.{common_steps}
use Rattle.dx_base.specs.declared.token.SyntaxKind.TheVariants as fault
use Rattle.dx_base.specs.Tokens.Classes.{is_digit, is_plus_or_minus, is_name_start, is_sign, begins_digit}
use Rattle.dx_base.specs.Tokens.Reading.{front, name_front, number_front, string_front, frame_front, sign_front}
use Rattle.dx_base.proofs.Tokens.Spans.{and_no}

digit_no_name : (b : ℕ) → is_digit b ≡ true → is_name_start b ≡ false
digit_no_name b e = grind (arith, nat_tests, common_steps)

pub name_at : (b : ℕ) (rest : List ℕ) → is_name_start b ≡ true → front (b ∷ rest) ≡ name_front (b ∷ rest)
unfolding front
name_at b rest e = rw e refl

pub digits_at : (b : ℕ) (rest : List ℕ) → is_digit b ≡ true → front (b ∷ rest) ≡ number_front false 0 (b ∷ rest)
unfolding front
digits_at b rest e = rw (digit_no_name b e, e) refl

pub plus_at : (rest : List ℕ) → begins_digit rest ≡ true → front (43 ∷ rest) ≡ number_front false 1 rest
unfolding front
plus_at rest e = rw e refl

pub minus_at : (rest : List ℕ) → begins_digit rest ≡ true → front (45 ∷ rest) ≡ number_front true 1 rest
unfolding front
minus_at rest e = rw e refl

pub point_at : (rest : List ℕ) → begins_digit rest ≡ true → front (46 ∷ rest) ≡ Err (fault.FloatNumber, 0)
unfolding front
point_at rest e = rw e refl

pub quote_at : (rest : List ℕ) → front (34 ∷ rest) ≡ string_front rest
unfolding front
quote_at rest = refl

pub frame_at : (rest : List ℕ) → front (64 ∷ rest) ≡ frame_front rest
unfolding front
frame_at rest = refl

-- a byte with which nothing but a sign may begin
pub record IsOther (b : ℕ) (rest : List ℕ) : Type 0 where
  pub no_name : is_name_start b ≡ false
  pub no_number : is_digit b ≡ false
  pub no_signed : is_plus_or_minus b ≡ true → begins_digit rest ≡ false
  pub no_point : b ≡ 46 → begins_digit rest ≡ false
  pub no_string : b ≡ 34 → ⊥
  pub no_frame : b ≡ 64 → ⊥

pub other_at : (b : ℕ) (rest : List ℕ) → IsOther b rest → front (b ∷ rest) ≡ sign_front (b ∷ rest)
unfolding front
other_at b rest is = rw (is.no_name, is.no_number, and_no (is_plus_or_minus b) (begins_digit rest) is.no_signed, and_no (b == 46) (begins_digit rest) (λ e. is.no_point (eqb-true b 46 e)), ne_eqb b 34 is.no_string, ne_eqb b 64 is.no_frame) refl

pub sign_other : (b : ℕ) (rest : List ℕ) → is_sign b ≡ true → IsOther b rest
sign_other b rest e = record {
  no_name = grind (arith, nat_tests, common_steps);
  no_number = grind (arith, nat_tests, common_steps);
  no_signed = λ p. absurd (grind (arith, nat_tests, common_steps));
  no_point = λ p. absurd (grind (arith, nat_tests, common_steps));
  no_string = λ p. grind (arith, nat_tests, common_steps);
  no_frame = λ p. grind (arith, nat_tests, common_steps);
}
