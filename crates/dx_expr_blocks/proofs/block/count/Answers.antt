use Rattle.std.proofs.Common.{◌-◌, length, sym, ap, ◌∙◌}
use Rattle.std.proofs.lemmas.List.FromFn.{length-range_with_len}
use Rattle.dx_expr_blocks.specs.Items.{items_of}
use Rattle.dx_expr_blocks.proofs.block.count.Goals as goal

pub returns-in-Range : goal.returns-in-Range
returns-in-Range c =
    c.saturating_sub.ensures ∙ sym (length-range_with_len c.in-Range.from (c.in-Range.to - c.in-Range.from)) ∙ ap (λ b. length (items_of b)) (sym c.in-Range.is)
