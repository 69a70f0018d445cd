use Rattle.dx_include.proofs.Texts.{parses}
use Rattle.dx_include.proofs.including.statements_of.Goals as goal

pub returns-clause-parses : goal.returns-clause-parses
returns-clause-parses c = parses c.args.text.now c.parse.result c.parse.ensures.found c.parse.ensures.refused
