use Rattle.std.proofs.Common.{◌-◌, ap, ◌∙◌}
use Rattle.std.specs.List.{range_with_len}
use Rattle.dx_expr_blocks.proofs.Ranges.{below_first, first_range}
use Rattle.dx_expr_blocks.proofs.block.first.Goals as goal

pub moved-requires : goal.moved-requires
moved-requires c = below_first c.args.block c.in-Range.from c.in-Range.to c.args.n c.in-Range.is c.requires

pub returns-in-Range : goal.returns-in-Range
returns-in-Range c =
    ap (λ t. range_with_len c.in-Range.from (t - c.in-Range.from)) c.moved.ensures ∙ first_range c.args.block c.in-Range.from c.in-Range.to c.args.n c.in-Range.is c.requires
