use Rattle.std.proofs.Common.{◌≡◌, take}
use Rattle.dx_inquire.proofs.inquire.counts_of_grid.Given as goal

-- so many counts were taken
abbrev pub invariant-loop-d : goal.invariant-loop-d
invariant-loop-d l = l.counts.items ≡ take l.d l.grid
