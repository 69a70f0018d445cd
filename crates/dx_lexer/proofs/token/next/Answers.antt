use Rattle.dx_lexer.proofs.Answered.{stands, lies_in, reached}
use Rattle.dx_lexer.proofs.token.next.Goals as goal

pub returns-clause-stands : goal.returns-clause-stands
returns-clause-stands c = stands c.args.text.now c.args.at c.read.result c.read.ensures

pub returns-clause-reached : goal.returns-clause-reached
returns-clause-reached c = reached c.args.text.now c.args.at c.read.result c.requires c.read.ensures

pub returns-clause-places : goal.returns-clause-places
returns-clause-places c = lies_in c.args.text.now c.args.at c.read.result c.requires (stands c.args.text.now c.args.at c.read.result c.read.ensures)
