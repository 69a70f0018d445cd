use Rattle.std.proofs.Common.{◌≡◌, ◌+◌, ◌≤◌, false, length}
use Rattle.dx_native_lex.specs.Scan.{unblanked}
use Rattle.dx_native_head.proofs.plain.unblanked.Given as goal

abbrev pub invariant-loop-rest : goal.invariant-loop-rest
invariant-loop-rest l = record {
  same : unblanked false l.at l.rest ≡ unblanked false l.fn.offset l.fn.text;
  sum : l.at + length l.rest ≡ l.fn.offset + length l.fn.text;
  within : length l.rest ≤ length l.fn.text;
}

abbrev pub decreases-loop-rest : goal.decreases-loop-rest
decreases-loop-rest l = length l.rest
