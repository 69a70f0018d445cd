use Rattle.dx_words.proofs.Ranges.{in_range}
use Rattle.dx_words.specs.Line.{texts}
use Rattle.dx_words.proofs.words.read_words.Goals as goal

pub returns-in-Some-clause-range : goal.returns-in-Some-clause-range
returns-in-Some-clause-range c = in_range (texts c.deref.result.now) c.in_ok-line.line c.in-Some.job c.in_ok-line.ensures.ok c.in-Some.is
