use Rattle.std.proofs.Common.{arith, ◌∙◌}
use Rattle.dx_expr_blocks.proofs.Ranges.{below_range, at_range}
use Rattle.dx_expr_blocks.proofs.block.item_at.Goals as goal

pub moved-requires : goal.moved-requires
moved-requires c = omega (arith, below_range c.args.block c.in-Range.from c.in-Range.to c.args.place c.in-Range.is c.requires)

pub returns-in-Range : goal.returns-in-Range
returns-in-Range c = c.moved.ensures ∙ at_range c.args.block c.in-Range.from c.in-Range.to c.args.place c.in-Range.is c.requires
