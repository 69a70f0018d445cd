use Rattle.dx_graph.proofs.given.param_operand.Goals as goal

pub returns-in-None-clause-fits : goal.returns-in-None-clause-fits
returns-in-None-clause-fits c = λ nodes all lawful. c.default_of.ensures.fits nodes lawful
