use Rattle.dx_print.proofs.Ranges.{spaces_next}
use Rattle.dx_print.proofs.item_lines.push_indent.Goals as goal

pub loop-space-preserved : goal.loop-space-preserved
loop-space-preserved c = spaces_next _ _ _ c.loop-space.space c.loop-space.invariant c.in_ok-push.ensures.items
