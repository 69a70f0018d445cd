-- The expression that a text is, in the words of the grammar.
use Rattle.std.proofs.Common.{◌≡◌, ℕ, List, Ok, Err, refl, ap, subst}
use Rattle.dx_expr_grammar.specs.declared.tree.Expression.{Expression}
use Rattle.dx_expr_grammar.specs.Grammar as grammar
use Rattle.dx_expr_grammar.specs.Reading.{Outcome, expression}
use Rattle.dx_expr_grammar.specs.Tokens.{tokens_of}
use Rattle.dx_expr_grammar.specs.Words.{misfit}
use Rattle.dx_expr_laws.proofs.Exact.{sound, only, exact, determined}
use Rattle.dx_grammar.specs.FirstError.{IsText, FirstError}
use Rattle.dx_compute_meaning.specs.Expressions.{parsed, read}

pub parsed_ok : (text : List ℕ) (x : Expression) → IsText grammar.expression (tokens_of text) x → parsed text ≡ Ok x
unfolding parsed
parsed_ok text x h = ap read (only (tokens_of text) x h)

pub parsed_err : (text : List ℕ) (at : ℕ) → FirstError misfit grammar.expression (tokens_of text) at → parsed text ≡ Err at
unfolding parsed
parsed_err text at h = by (expression (tokens_of text)) refl
  where
    by : (o : Outcome Expression) → expression (tokens_of text) ≡ o → read o ≡ Err at
    by (Ok found) is = absurd (h.none found.0 (sound (tokens_of text) found.0 found.1 is))
    by (Err refused) is = ap (λ n. Err n) (determined (tokens_of text) refused.0 at (exact (tokens_of text) refused.0 refused.1 is) h)

-- and back
pub is_text : (text : List ℕ) (x : Expression) → parsed text ≡ Ok x → IsText grammar.expression (tokens_of text) x
unfolding parsed
is_text text x h = by (expression (tokens_of text)) refl h
  where
    by : (o : Outcome Expression) → expression (tokens_of text) ≡ o → read o ≡ Ok x → IsText grammar.expression (tokens_of text) x
    by (Ok found) is e = let same : found.0 ≡ x = cc in subst (λ y. IsText grammar.expression (tokens_of text) y) same (sound (tokens_of text) found.0 found.1 is)
    by (Err refused) is e = absurd cc

pub is_error : (text : List ℕ) (at : ℕ) → parsed text ≡ Err at → FirstError misfit grammar.expression (tokens_of text) at
unfolding parsed
is_error text at h = by (expression (tokens_of text)) refl h
  where
    by : (o : Outcome Expression) → expression (tokens_of text) ≡ o → read o ≡ Err at → FirstError misfit grammar.expression (tokens_of text) at
    by (Ok found) is e = absurd cc
    by (Err refused) is e = let same : refused.0 ≡ at = cc in subst (λ y. FirstError misfit grammar.expression (tokens_of text) y) same (exact (tokens_of text) refused.0 refused.1 is)
