-- Signs, and bytes that begin nothing: what the relation says is what is read.
use Rattle.std.specs.Prelude.{◌==◌, ◌&&◌}
use Rattle.std.proofs.Common.{◌≡◌, ℕ, List, [], ◌∷◌, ◌++◌, length, true, false, refl, inl, inr, ◌∙◌, Ok, Err}
use Rattle.std.proofs.lemmas.Bool.{eqb-true}
use Rattle.dx_base.specs.declared.token.LexKind.TheVariants as kind
use Rattle.dx_base.specs.declared.token.SyntaxKind.TheVariants as fault
use Rattle.dx_base.specs.Tokens.Classes.{is_sign, begins}
use Rattle.dx_base.specs.Tokens.Spelling.{IsSign}
use Rattle.dx_base.specs.Tokens.Refusals.{IsStray}
use Rattle.dx_base.specs.Tokens.Reading.{front}
use Rattle.dx_base.proofs.Tokens.Spans.{and_no, or_no}
use Rattle.dx_base.proofs.Tokens.Fronts.{IsOther, other_at, sign_other}

single_read : (b : ℕ) (rest : List ℕ) → is_sign b ≡ true → front (b ∷ rest) ≡ Ok (kind.Sign (b ∷ []), 1)
single_read b rest is = other_at b rest (sign_other b rest is) ∙ rw is refl

arrow_read : (rest : List ℕ) → front (45 ∷ 62 ∷ rest) ≡ Ok (kind.Sign (45 ∷ 62 ∷ []), 2)
unfolding front
arrow_read rest = refl

dots_read : (rest : List ℕ) → front (46 ∷ 46 ∷ rest) ≡ Ok (kind.Sign (46 ∷ 46 ∷ []), 2)
unfolding front
dots_read rest = refl

pub sign_read : (sign rest : List ℕ) → IsSign sign → front (sign ++ rest) ≡ Ok (kind.Sign sign, length sign)
sign_read sign rest (inl single) = rw single.1 (single_read single.0 rest single.2)
sign_read sign rest (inr (inl arrow)) = rw arrow (arrow_read rest)
sign_read sign rest (inr (inr dots)) = rw dots (dots_read rest)

stray_other : (b : ℕ) (rest : List ℕ) → IsOther b rest → is_sign b ≡ false → (b ≡ 45 → begins 62 rest ≡ false) → (b ≡ 46 → begins 46 rest ≡ false) → front (b ∷ rest) ≡ Err (fault.Syntax, 0)
stray_other b rest other single arrow dots =
    other_at b rest other
    ∙ rw (single, or_no (b == 45 && begins 62 rest) (b == 46 && begins 46 rest) (and_no (b == 45) (begins 62 rest) (λ e. arrow (eqb-true b 45 e))) (and_no (b == 46) (begins 46 rest) (λ e. dots (eqb-true b 46 e)))) refl

pub stray_refused : (text : List ℕ) → IsStray text → front text ≡ Err (fault.Syntax, 0)
stray_refused text is = rw is.parts (stray_other is.byte is.behind (record {
  no_name = is.no_name;
  no_number = is.no_number;
  no_signed = is.no_signed;
  no_point = is.no_point;
  no_string = is.no_string;
  no_frame = is.no_frame;
}) is.no_sign is.no_arrow is.no_range)
