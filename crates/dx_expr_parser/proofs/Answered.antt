-- What the reading answers, in the words of the grammar.
use Rattle.std.proofs.Common.{ℕ, Result, Ok, Err, sym, ap, ◌∙◌}
use Rattle.std.specs.Prelude.{IfOk, IfErr}
use Rattle.dx_expr_grammar.specs.declared.fail.ExprFail.{ExprFail}
use Rattle.dx_expr_grammar.specs.declared.fail.ExprFail.TheVariants.{Refused, Memory}
use Rattle.dx_expr_grammar.specs.declared.tree.Expression.{Expression}
use Rattle.dx_grammar.specs.FirstError.{IsText, FirstError}
use Rattle.dx_grammar.proofs.Read.{ok_is, not_both}
use Rattle.dx_grammar.proofs.Exact.{emptied}
use Rattle.dx_expr_grammar.specs.Tokens.{Tokens}
use Rattle.dx_expr_grammar.specs.Words.{misfit}
use Rattle.dx_expr_grammar.specs.Reading.{Reads, expression}
use Rattle.dx_expr_grammar.specs.Grammar as grammar
use Rattle.dx_expr_laws.proofs.Exact.{sound, only, exact}
use Rattle.dx_expr_parser.specs.Answer.{IsOnly, OnRefused}

pub is_found : (s new : Tokens) (r : Result Expression ExprFail) → Reads (expression s) r new → IfOk r (λ e. IsText grammar.expression s e)
is_found s new (Ok e) h = sound s e new h
is_found s new (Err f) h = tt

pub is_only : (s new : Tokens) (r : Result Expression ExprFail) → Reads (expression s) r new → (e : Expression) → IsText grammar.expression s e → IsOnly e r
is_only s new (Ok w) h e d = ap (λ (p : Expression × Tokens). p.0) (ok_is {Y = ℕ × Tokens} (e, emptied s) (w, new) (sym (only s e d) ∙ h))
is_only s new (Err (Refused f)) h e d = not_both (expression s) (e, emptied s) (f, new) (only s e d) h
is_only s new (Err Memory) h e d = tt

pub is_refused : (s new : Tokens) (r : Result Expression ExprFail) → Reads (expression s) r new → IfErr r (OnRefused (FirstError misfit grammar.expression s))
is_refused s new (Ok e) h = tt
is_refused s new (Err (Refused f)) h = exact s f new h
is_refused s new (Err Memory) h = tt
