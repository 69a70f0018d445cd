-- What the loops of the parser do in a turn.
use Rattle.std.proofs.Common.{◌≡◌, ℕ, List}
use Rattle.dx_expr_grammar.specs.declared.token.Sign.TheVariants as s
use Rattle.dx_expr_grammar.specs.declared.tree.Expression.{Expression}
use Rattle.dx_expr_grammar.specs.declared.tree.Expression.TheVariants as e
use Rattle.dx_grammar.specs.Stream.{◌>>=◌, pure, choose, while}
use Rattle.dx_grammar.specs.Rule.{snoc}
use Rattle.dx_grammar.proofs.Laws.{turn, fills, fills_first}
use Rattle.dx_expr_grammar.specs.Tokens.{Tokens}
use Rattle.dx_expr_grammar.specs.declared.tree.Level.{Level}
use Rattle.dx_expr_grammar.specs.declared.tree.Level.TheVariants as level
use Rattle.dx_expr_grammar.specs.Words.{operator_at}
use Rattle.dx_expr_grammar.specs.Grammar as grammar
use Rattle.dx_expr_grammar.specs.Grammar.{Signed, joined}
use Rattle.dx_expr_grammar.specs.Reading.{Parser, sees, sees_class, part, parts, next_part, right_side, operand, signed, reading}
use Rattle.dx_expr_laws.proofs.Classes.{Reads}
use Rattle.dx_expr_laws.proofs.Nesting.{reads}
use Rattle.dx_expr_laws.proofs.Productions.{AfterSigned}
use Rattle.dx_expr_laws.proofs.Productions as productions

pub more_parts : (found : Expression) (u : Tokens) → parts found u ≡ choose (sees s.Dot) (part >>= λ k. parts (e.Part found k)) (pure found) u
unfolding parts
more_parts found u = turn e.Part (sees s.Dot) (λ found. productions.part) (λ found. fills_first fills) found u

pub more_vector : (k : ℕ) (found : List Expression) (u : Tokens)
    → while (sees s.Comma) (next_part reading k) snoc found u ≡ choose (sees s.Comma) (next_part reading k found >>= λ a. while (sees s.Comma) (next_part reading k) snoc (snoc found a)) (pure found) u
more_vector k found u = turn snoc (sees s.Comma) (λ found. productions.next_part grammar.grammar reading reads k found) (λ found. fills_first fills) found u

-- operands of a level
abbrev pub operands : ℕ → Level → Expression → Parser Expression
operands k l = while (sees_class (operator_at l)) (λ found. right_side l (operand (signed reading k) l)) joined

signed_reads : (k : ℕ) → Reads (grammar.signed grammar.grammar k) (signed reading k) AfterSigned
signed_reads k = productions.signed grammar.grammar reading reads k

pub more_operands : (k : ℕ) (l : Level) (found : Expression) (u : Tokens)
    → operands k l found u ≡ choose (sees_class (operator_at l)) (right_side l (operand (signed reading k) l) >>= λ p. operands k l (joined found p)) (pure found) u
more_operands k level.Or found u = turn joined (sees_class (operator_at level.Or)) (λ found. productions.right_of_disjunction (signed_reads k)) (λ found. fills_first fills) found u
more_operands k level.And found u = turn joined (sees_class (operator_at level.And)) (λ found. productions.right_of_conjunction (signed_reads k)) (λ found. fills_first fills) found u
more_operands k level.Equality found u = turn joined (sees_class (operator_at level.Equality)) (λ found. productions.right_of_equality (signed_reads k)) (λ found. fills_first fills) found u
more_operands k level.Relation found u = turn joined (sees_class (operator_at level.Relation)) (λ found. productions.right_of_relation (signed_reads k)) (λ found. fills_first fills) found u
more_operands k level.Sum found u = turn joined (sees_class (operator_at level.Sum)) (λ found. productions.right_of_sum (signed_reads k)) (λ found. fills_first fills) found u
more_operands k level.Product found u = turn joined (sees_class (operator_at level.Product)) (λ found. productions.right_of_product (signed_reads k)) (λ found. fills_first fills) found u
