use Rattle.dx_compute_meaning.specs.Shown.{shown_arrays}
use Rattle.dx_compute_meaning.proofs.Codes.{too_many}
use Rattle.dx_compute.proofs.compute.too_many.Goals as goal

pub returns-in-Ok : goal.returns-in-Ok
returns-in-Ok c = too_many c.args.e.now (shown_arrays c.args.inputs.now.arrays.now) c.args.inputs.now.items c.args.shape.now c.requires.shape c.requires.many c.in-Ok.ensures
