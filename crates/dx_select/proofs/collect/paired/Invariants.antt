use Rattle.std.proofs.Common.{◌≡◌, ◌*◌, drop}
use Rattle.dx_select.specs.Collect.{paired}
use Rattle.dx_select.proofs.CollectLaws.{behind}
use Rattle.dx_select.proofs.collect.paired.Given as goal

-- the members so far, with what the other pairs give, are all
abbrev pub invariant-loop-i : goal.invariant-loop-i
invariant-loop-i l = behind l.members (paired l.beside (drop (2 * l.i) l.inputs)) ≡ paired l.beside l.inputs
