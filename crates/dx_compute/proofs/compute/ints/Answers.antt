use Rattle.dx_compute_meaning.specs.Arrays.{int_array}
use Rattle.dx_compute_meaning.proofs.Codes.{not_refused, is_made}
use Rattle.dx_compute.proofs.compute.ints.Goals as goal

pub unwrap-requires : goal.unwrap-requires
unwrap-requires c =
    is_made (int_array c.args.shape c.args.values.items) c.ints.result (not_refused c.args.shape c.args.values.items c.requires.lawful c.requires.items c.requires.values c.requires.whole c.requires.ints) c.ints.ensures
