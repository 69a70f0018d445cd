use Rattle.std.proofs.Common.{◌∙◌, arith}
use Rattle.dx_arrays.proofs.Products.{stopped_step, stopped_end}
use Rattle.dx_arrays.proofs.extents.product_of.Goals as goal

pub loop-extent-preserved : goal.loop-extent-preserved
loop-extent-preserved c =
    record {
      whole = stopped_step c.args.extents.now c.loop-extent.product c.loop-extent.extent-index 18446744073709551615 _ c.loop-extent-test.true c.saturating_mul-product.ensures ∙ c.loop-extent.invariant.whole;
      small = grind (arith, c.saturating_mul-product.ensures);
    }

pub returns : goal.returns
returns c = stopped_end c.args.extents.now _ c.loop-extent.extent-index 18446744073709551615 _ (omega arith) c.loop-extent.invariant.small c.loop-extent.invariant.whole
