use Rattle.std.proofs.Common.{◌≡◌, ◌++◌, drop}
use Rattle.dx_base.specs.Words.{all_escaped}
use Rattle.dx_base.proofs.words.push_all_escaped.Given as goal

abbrev pub invariant-loop-byte : goal.invariant-loop-byte
invariant-loop-byte l = l.out.items ++ all_escaped (drop l.byte-index l.text) ≡ l.initial.out.items ++ all_escaped l.text
