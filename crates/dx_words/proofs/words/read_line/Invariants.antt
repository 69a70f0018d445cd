use Rattle.std.proofs.Common.{◌≡◌, length}
use Rattle.dx_words.specs.Line.{joined, line_from, texts}
use Rattle.dx_words.specs.declared.line.Reading.TheVariants as reading
use Rattle.dx_words.proofs.words.read_line.Given as goal

-- what was read with the rest is the whole
abbrev pub invariant-loop-rest : goal.invariant-loop-rest
invariant-loop-rest l = joined l.line (line_from l.reading (texts l.rest)) ≡ line_from reading.Options (texts l.fn.words)

abbrev pub decreases-loop-rest : goal.decreases-loop-rest
decreases-loop-rest l = length l.rest
