use Rattle.std.proofs.Common.{◌≡◌, replicate, None}
use Rattle.dx_native_walk.proofs.memo.no_objects.Given as goal

abbrev pub invariant-loop-i : goal.invariant-loop-i
invariant-loop-i l = l.objects.items ≡ replicate l._i None
