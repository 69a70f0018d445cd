use Rattle.dx_words.proofs.line.Line.read.Goals as goal

pub returns-in-Options-clause-refused : goal.returns-in-Options-clause-refused
returns-in-Options-clause-refused c r rest = rw c.in-Options.is (c.read_option.ensures.refused r rest)
