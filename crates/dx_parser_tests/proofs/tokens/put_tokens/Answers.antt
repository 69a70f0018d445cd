use Rattle.dx_base.specs.Tokens.Reading.{start}
use Rattle.dx_parser_tests.proofs.tokens.put_tokens.Goals as goal

pub tokens-init : goal.tokens-init
tokens-init c = start
