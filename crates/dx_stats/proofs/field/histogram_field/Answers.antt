use Rattle.dx_stats.proofs.FieldLaws.{counts_array}
use Rattle.dx_stats.proofs.field.histogram_field.Goals as goal

pub field_of-requires-clause-counts : goal.field_of-requires-clause-counts
field_of-requires-clause-counts c = counts_array c.args.bins c.args.values.now c.in_ok-counts.counts c.in_ok-counts.ensures
