use Rattle.dx_lexer.specs.Lexemes.{as_lexeme}
use Rattle.dx_lexer.proofs.Answered.{stands, lies_in, token_reached}
use Rattle.dx_lexer.proofs.token.next_token.Goals as goal

pub returns-clause-stands : goal.returns-clause-stands
returns-clause-stands c = stands c.args.text.now c.args.at (as_lexeme c.token_at.result) c.token_at.ensures

pub returns-clause-reached : goal.returns-clause-reached
returns-clause-reached c = token_reached c.args.text.now c.args.at c.token_at.result c.requires c.token_at.ensures

pub returns-clause-places : goal.returns-clause-places
returns-clause-places c = lies_in c.args.text.now c.args.at (as_lexeme c.token_at.result) c.requires (stands c.args.text.now c.args.at (as_lexeme c.token_at.result) c.token_at.ensures)
