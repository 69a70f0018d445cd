use Rattle.dx_slab.proofs.Serial.{first_stops}
use Rattle.dx_slab.proofs.slab.series.Goals as goal

pub returns-in-Err : goal.returns-in-Err
returns-in-Err c = first_stops c.args.counts.now c.args.dimension c.args.thickness c.args.whole.now c.in-Err.fail c.requires.cut c.in-Err.ensures
