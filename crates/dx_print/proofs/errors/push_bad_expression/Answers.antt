use Rattle.std.proofs.Common.{append_assoc}
use Rattle.dx_print.proofs.errors.push_bad_expression.Goals as goal

pub returns : goal.returns
returns c = rw append_assoc at (rw c.in_ok-extend_from_slice.ensures.items at c.push_count.ensures)
