-- A whole text is read exactly, to its first error.
use Rattle.std.proofs.Common.{◌≡◌, ℕ, false, [], Ok, Err, ap}
use Rattle.std.specs.Prelude.{is_some}
use Rattle.dx_expr_grammar.specs.declared.token.Token.{Token}
use Rattle.dx_expr_grammar.specs.declared.token.Sign.{Sign}
use Rattle.dx_expr_grammar.specs.declared.token.Sign.TheVariants as s
use Rattle.dx_expr_grammar.specs.declared.tree.Level.{Level}
use Rattle.dx_expr_grammar.specs.declared.tree.Level.TheVariants as level
use Rattle.dx_expr_grammar.specs.declared.tree.Expression.{Expression}
use Rattle.dx_grammar.specs.Stream.{looks_from}
use Rattle.dx_grammar.specs.FirstError.{IsText, FirstError}
use Rattle.dx_grammar.proofs.Exact as exactly
use Rattle.dx_grammar.proofs.Exact.{emptied}
use Rattle.dx_expr_grammar.specs.Tokens.{Tokens}
use Rattle.dx_expr_grammar.specs.Words.{misfit, is_sign_in, class_of, operator_at}
use Rattle.dx_expr_grammar.specs.Grammar as grammar
use Rattle.dx_expr_grammar.specs.Grammar.{Whole}
use Rattle.dx_expr_grammar.specs.Reading as reading
use Rattle.dx_expr_grammar.specs.Reading.{sees, sees_class}
use Rattle.dx_expr_laws.proofs.Productions.{AfterWhole}
use Rattle.dx_expr_laws.proofs.Nesting.{reads}

no_sign : (x : Sign) (u : Tokens) → u.tokens ≡ [] → sees x u ≡ false
unfolding sees
no_sign x u e = ap (λ l. looks_from (λ (t : Token). is_sign_in x t.kind) l) e

no_operator : (l : Level) (u : Tokens) → u.tokens ≡ [] → sees_class (operator_at l) u ≡ false
unfolding sees_class
no_operator l u e = ap (λ l2. looks_from (λ (t : Token). is_some (class_of (operator_at l) t)) l2) e

-- an expression may end where the text ends
ending : (u : Tokens) → u.tokens ≡ [] → AfterWhole u
ending u e =
    (no_sign s.Question u e, (no_operator level.Or u e, (no_operator level.And u e, (no_operator level.Equality u e, (no_operator level.Relation u e, (no_operator level.Sum u e, (no_operator level.Product u e, (no_sign s.Dot u e, tt))))))))

pub sound : (s : Tokens) (a : Expression) (s' : Tokens) → reading.expression s ≡ Ok (a, s') → IsText grammar.expression s a
sound s a s' h = exactly.sound misfit grammar.expression (reading.reading (Whole 64)) AfterWhole (reads (Whole 64)) ending s a s' h

pub only : (s : Tokens) (a : Expression) → IsText grammar.expression s a → reading.expression s ≡ Ok (a, emptied s)
only s a d = exactly.only misfit grammar.expression (reading.reading (Whole 64)) AfterWhole (reads (Whole 64)) ending s a d

pub exact : (s : Tokens) (f : ℕ) (s' : Tokens) → reading.expression s ≡ Err (f, s') → FirstError misfit grammar.expression s f
exact s f s' h = exactly.exact misfit grammar.expression (reading.reading (Whole 64)) AfterWhole (reads (Whole 64)) ending s f s' h

-- a text has one first error
pub determined : (s : Tokens) (f g : ℕ) → FirstError misfit grammar.expression s f → FirstError misfit grammar.expression s g → f ≡ g
determined s f g x y = exactly.determined misfit grammar.expression s f g x y
