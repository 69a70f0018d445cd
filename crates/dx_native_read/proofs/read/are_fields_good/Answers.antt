use Rattle.dx_native_read.proofs.Arrays.{array_good}
use Rattle.dx_native_read.proofs.read.are_fields_good.Goals as goal

pub returns-in-Some : goal.returns-in-Some
returns-in-Some c = array_good c.args.object.now _ c.in-Some.ensures

pub has_good_fields-requires : goal.has_good_fields-requires
has_good_fields-requires c = record { known = c.requires.known c.in-None.ensures; means = c.requires.means }
