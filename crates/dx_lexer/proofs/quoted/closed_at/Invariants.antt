use Rattle.std.proofs.Common.{◌≡◌, ◌+◌, false, length}
use Rattle.dx_base.specs.Tokens.Reading.{closed_at}
use Rattle.dx_lexer.proofs.quoted.closed_at.Given as goal

abbrev pub invariant-loop-rest : goal.invariant-loop-rest
invariant-loop-rest l = record {
  same : closed_at l.n l.escape l.rest ≡ closed_at 0 false l.fn.text;
  within : l.n + length l.rest ≡ length l.fn.text;
}

abbrev pub decreases-loop-rest : goal.decreases-loop-rest
decreases-loop-rest l = length l.rest
