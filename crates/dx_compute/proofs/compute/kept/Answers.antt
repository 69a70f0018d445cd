use Rattle.std.proofs.Common.{length, ap, ◌∙◌}
use Rattle.dx_compute_meaning.proofs.Codes.{whole_items}
use Rattle.dx_compute.proofs.compute.kept.Goals as goal

pub ints-requires-clause-whole : goal.ints-requires-clause-whole
ints-requires-clause-whole c =
    whole_items _ c.args.inputs.now.items c.args.shape c.requires.lawful (ap length c.into_vec.ensures ∙ c.in-Ok.ensures.count c.args.shape c.requires.shape)
