use Rattle.std.proofs.Common.{sym, arith}
use Rattle.dx_objects.specs.Shown.{parts_of}
use Rattle.dx_object_laws.proofs.OrderLaws.{all_differ_in_order}
use Rattle.dx_objects.proofs.order.do_differ.Goals as goal

pub returns : goal.returns
returns c = sym (all_differ_in_order (parts_of c.args.parts.now) c.args.order.now c.requires (λ j h. c.loop-i.invariant j (omega (arith, h))))
