use Rattle.dx_base.specs.ObjectLimits.{unplaced}
use Rattle.dx_stats.proofs.FieldLaws.{made_too_large}
use Rattle.dx_stats.proofs.field.made.Goals as goal

pub returns-in-Err-array : goal.returns-in-Err-array
returns-in-Err-array c a m =
    let k = rw c.in-Ok.is at m in
    made_too_large a c.in-Ok.array (unplaced c.args.attributes) c.in-Err-array.field-0 c.requires k.0 k.1 c.in-Err-array.ensures
