use Rattle.std.proofs.Common.{[]}
use Rattle.dx_stats.specs.Bins.{bin_counts}
use Rattle.dx_stats.specs.Histogram.{counts}
use Rattle.dx_stats.proofs.FieldLaws.{makes_list}
use Rattle.dx_stats.proofs.field.counts_of.Goals as goal

pub returns : goal.returns
returns c =
    let one = rw c.new-attributes.ensures at c.in_ok-push_text.ensures in
    rw one at (c.made.ensures (counts c.args.bins c.args.values.now) (makes_list _ [] _ (bin_counts c.args.bins c.args.values.now) c.plain-array.result c.new.ensures c.in_ok-counts.ensures c.plain-array.ensures))
