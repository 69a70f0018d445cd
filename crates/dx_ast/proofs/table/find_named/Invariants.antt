use Rattle.std.proofs.Common.{◌≡◌, length}
use Rattle.dx_ast.specs.Table.{named_among}
use Rattle.dx_ast.proofs.table.find_named.Given as goal

abbrev pub invariant-loop-among : goal.invariant-loop-among
invariant-loop-among l = named_among l.wanted l.among ≡ named_among l.wanted l.initial.among

abbrev pub decreases-loop-among : goal.decreases-loop-among
decreases-loop-among l = length l.among
