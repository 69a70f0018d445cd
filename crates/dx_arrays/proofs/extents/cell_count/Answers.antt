use Rattle.std.proofs.Common.{◌∙◌, arith, rules}
use Rattle.dx_arrays.proofs.Products.{stopped_cells_step, stopped_cells_end}
use Rattle.dx_arrays.proofs.extents.cell_count.Goals as goal

pub loop-count-preserved : goal.loop-count-preserved
loop-count-preserved c =
    record {
      whole = stopped_cells_step c.args.counts.now c.loop-count.product c.loop-count.count-index 18446744073709551615 _ c.loop-count-test.true (search rules) ∙ c.loop-count.invariant.whole;
      small = grind (arith, c.saturating_mul-product.ensures);
    }

pub returns : goal.returns
returns c = stopped_cells_end c.args.counts.now _ c.loop-count.count-index 18446744073709551615 _ (omega arith) c.loop-count.invariant.small c.loop-count.invariant.whole
