-- The tokens of a text, one after the other.
use Rattle.std.proofs.Common.{◌≡◌, ℕ, zero, suc, ◌+◌, ◌<◌, ◌≤◌, Bool, true, false, cond, List, [], ◌∷◌, length, drop, refl, sym, ap, ◌∙◌, arith}
use Rattle.std.specs.Prelude.{nat_lt, Option, Some, None}
use Rattle.std.proofs.lemmas.Bool.Decides.{nat_tests}
use Rattle.dx_expr_grammar.specs.declared.token.Sign.{Sign}
use Rattle.dx_expr_grammar.specs.declared.token.TokenKind.{TokenKind}
use Rattle.dx_expr_grammar.specs.Tokens.{Piece, Blank, Word, Unknown, piece, further, laid, with_token, stopped, ended, is_blank, is_digit, first_of_signs, signs, sign_piece, digits_piece, tokens_from}

-- behind the bytes of a token
pub passed : (more at : ℕ) (rest : List ℕ) → more ≤ length rest → tokens_from more at rest ≡ tokens_from 0 (at + more) (drop more rest)
unfolding tokens_from
passed zero at rest h = let e : at ≡ at + 0 = omega arith in ap (λ n. tokens_from 0 n rest) e
passed (suc more) at [] h = absurd (omega arith)
passed (suc more) at (b ∷ rest) h = let e : at + 1 + more ≡ at + suc more = omega arith in passed more (at + 1) rest (omega arith) ∙ ap (λ n. tokens_from 0 n (drop more rest)) e

-- a token within the bytes that are looked at
pub token_next : (at b : ℕ) (rest : List ℕ) (k : TokenKind) (more : ℕ) → piece b rest ≡ Word k more → more ≤ length rest → at < 4096
    → tokens_from 0 at (b ∷ rest) ≡ with_token (record { kind = k; at = at }) (tokens_from 0 (at + 1 + more) (drop more rest))
unfolding tokens_from
token_next at b rest k more e h short =
    let look : nat_lt at 4096 ≡ true = grind (arith, nat_tests) in
    ap (λ p. laid p at (tokens_from (further p) (at + 1) rest)) e
    ∙ ap (λ t. cond t (with_token (record { kind = k; at = at }) (tokens_from more (at + 1) rest)) (stopped at)) look
    ∙ ap (with_token (record { kind = k; at = at })) (passed more (at + 1) rest h)

-- what is no token
pub unknown_next : (at b : ℕ) (rest : List ℕ) → piece b rest ≡ Unknown → tokens_from 0 at (b ∷ rest) ≡ stopped at
unfolding tokens_from
unknown_next at b rest e = ap (λ p. laid p at (tokens_from (further p) (at + 1) rest)) e

not_blank : (digit : Bool) (k : TokenKind) (more : ℕ) (found : Option Sign) → cond digit (Word k more) (sign_piece found) ≡ Blank → ⊥
not_blank true k more found e = cc
not_blank false k more None e = cc
not_blank false k more (Some x) e = cc

-- whatever isn't white space stops the tokens behind the bytes that are looked at
pub beyond_next : (at b : ℕ) (rest : List ℕ) → is_blank b ≡ false → 4096 ≤ at → tokens_from 0 at (b ∷ rest) ≡ stopped at
unfolding tokens_from
beyond_next at b rest e long = by (piece b rest) refl
  where
    never : nat_lt at 4096 ≡ false
    never = grind (arith, nat_tests)

    solid : (p : Piece) → piece b rest ≡ p → p ≡ Blank → ⊥
    solid p is blank = not_blank (is_digit b) _ _ (first_of_signs signs (b ∷ rest)) (ap (λ t. cond t Blank (cond (is_digit b) (digits_piece b rest) (sign_piece (first_of_signs signs (b ∷ rest))))) (sym e) ∙ is ∙ blank)

    by : (p : Piece) → piece b rest ≡ p → laid p at (tokens_from (further p) (at + 1) rest) ≡ stopped at
    by Blank is = absurd (solid Blank is refl)
    by (Word k more) is = ap (λ t. cond t (with_token (record { kind = k; at = at }) (tokens_from more (at + 1) rest)) (stopped at)) never
    by Unknown is = refl

-- the end of a text
pub end_next : (at : ℕ) (text : List ℕ) → length text < 1 → tokens_from 0 at text ≡ ended at
unfolding tokens_from
end_next at [] h = refl
end_next at (b ∷ rest) h = absurd (omega arith)
