use Rattle.std.proofs.Common.{◌≡◌, ◌++◌}
use Rattle.dx_print.specs.ItemLines.{item_text}
use Rattle.dx_print.proofs.Ranges.{words_from}
use Rattle.dx_print.proofs.item_lines.push_item.Given as goal

abbrev pub invariant-loop-place : goal.invariant-loop-place
invariant-loop-place l = l.out.items ++ words_from l.array l.item l.place ≡ l.fn.out.items ++ item_text l.array l.item
