use Rattle.dx_base.specs.NameLists.{texts}
use Rattle.dx_signatures.proofs.Fits.{fits_on, fits_not, fits_all}
use Rattle.dx_signatures.proofs.signature.names_fit.Goals as goal

pub loop-a-preserved : goal.loop-a-preserved
loop-a-preserved c =
    fits_on (texts c.loop-a.free.items) (texts c.use_one.new.free.items) c.args.args.now c.loop-a.a-index c.a-item.result c.use_one.result _ c.loop-a-test.true c.a-item.is c.use_one.ensures c.if-not-use_one.false c.loop-a.invariant

pub returns-then-not-use_one : goal.returns-then-not-use_one
returns-then-not-use_one c =
    fits_not (texts c.loop-a.free.items) (texts c.use_one.new.free.items) c.args.args.now c.loop-a.a-index c.a-item.result c.use_one.result _ c.loop-a-test.true c.a-item.is c.use_one.ensures c.if-not-use_one.true c.loop-a.invariant

pub returns : goal.returns
returns c = fits_all (texts c.loop-a.free.items) c.args.args.now c.loop-a.a-index _ c.loop-a-test.false c.loop-a.invariant
