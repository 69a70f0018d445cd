use Rattle.std.proofs.Common.{◌≡◌, ◌<◌, ◌+◌, ℕ, false, get_or}
use Rattle.dx_object_laws.specs.Order.{name_at, share_name}
use Rattle.dx_objects.specs.Shown.{parts_of}
use Rattle.dx_objects.proofs.order.do_differ.Given as goal

abbrev pub invariant-loop-i : goal.invariant-loop-i
invariant-loop-i l = (j : ℕ) → j + 1 < l.i → share_name (name_at (parts_of l.parts) (get_or l.order j 0)) (name_at (parts_of l.parts) (get_or l.order (j + 1) 0)) ≡ false
