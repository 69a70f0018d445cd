use Rattle.std.proofs.Common.{◌≡◌, ◌+◌, ◌*◌, ◌-◌, ◌≤◌, ◌<◌, [], ◌∷◌, length}
use Rattle.dx_grammar.specs.Stream.{while}
use Rattle.dx_grammar.specs.Rule.{snoc}
use Rattle.dx_expr_grammar.specs.declared.token.Sign.TheVariants as s
use Rattle.dx_expr_grammar.specs.Words.{rank}
use Rattle.dx_expr_grammar.specs.Reading.{sees, next_part, chain, operand, signed, reading}
use Rattle.dx_expr_laws.proofs.Loops.{operands}
use Rattle.dx_expr_parser.proofs.parser.+parser.Given as goal

abbrev pub decreases-group : goal.decreases-group
decreases-group l = 16 * length l.cursor.now.tokens + 0

abbrev pub decreases-vector : goal.decreases-vector
decreases-vector l = 16 * length l.cursor.now.tokens + 0

abbrev pub decreases-function_of_one : goal.decreases-function_of_one
decreases-function_of_one l = 16 * length l.cursor.now.tokens + 0

abbrev pub decreases-function_of_two : goal.decreases-function_of_two
decreases-function_of_two l = 16 * length l.cursor.now.tokens + 0

abbrev pub decreases-branches : goal.decreases-branches
decreases-branches l = 16 * length l.cursor.now.tokens + 0

abbrev pub decreases-right_side : goal.decreases-right_side
decreases-right_side l = 16 * length l.cursor.now.tokens + 0

abbrev pub decreases-next_part : goal.decreases-next_part
decreases-next_part l = 16 * length l.cursor.now.tokens + 0

abbrev pub decreases-next_parts : goal.decreases-next_parts
decreases-next_parts l = 16 * length l.cursor.now.tokens + 1

abbrev pub decreases-primary : goal.decreases-primary
decreases-primary l = 16 * length l.cursor.now.tokens + 1

abbrev pub decreases-signed : goal.decreases-signed
decreases-signed l = 16 * length l.cursor.now.tokens + 2

abbrev pub decreases-operand : goal.decreases-operand
decreases-operand l = 16 * length l.cursor.now.tokens + (3 + 2 * (5 - rank l.level))

abbrev pub decreases-chain : goal.decreases-chain
decreases-chain l = 16 * length l.cursor.now.tokens + (4 + 2 * (5 - rank l.level))

abbrev pub decreases-once : goal.decreases-once
decreases-once l = 16 * length l.cursor.now.tokens + (4 + 2 * (5 - rank l.level))

abbrev pub decreases-whole : goal.decreases-whole
decreases-whole l = 16 * length l.cursor.now.tokens + 15

abbrev pub invariant-next_parts-each : goal.invariant-next_parts-each
invariant-next_parts-each l = record {
  same : while (sees s.Comma) (next_part reading l.brackets) snoc (l.fn.first ∷ []) l.fn.cursor ≡ while (sees s.Comma) (next_part reading l.brackets) snoc l.found l.cursor;
  onward : length l.cursor.tokens ≤ length l.fn.cursor.tokens;
}

abbrev pub decreases-next_parts-each : goal.decreases-next_parts-each
decreases-next_parts-each l = length l.cursor.tokens

abbrev pub invariant-chain-each : goal.invariant-chain-each
invariant-chain-each l = record {
  same : chain l.level (operand (signed reading l.brackets) l.level) l.fn.cursor ≡ operands l.brackets l.level l.found l.cursor;
  onward : length l.cursor.tokens < length l.fn.cursor.tokens;
}

abbrev pub decreases-chain-each : goal.decreases-chain-each
decreases-chain-each l = length l.cursor.tokens
