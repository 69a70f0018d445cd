use Rattle.std.proofs.Common.{◌≡◌, take}
use Rattle.dx_compute.proofs.compute.extents.Given as goal

abbrev pub invariant-loop-n : goal.invariant-loop-n
invariant-loop-n l = l.found ≡ take l.n-index l.extents
