use Rattle.dx_base.specs.Tokens.Reading.{IsReached}
use Rattle.dx_parser_tests.proofs.tokens.put_tokens.Given as goal

abbrev pub invariant-tokens : goal.invariant-tokens
invariant-tokens l = IsReached l.text l.at
