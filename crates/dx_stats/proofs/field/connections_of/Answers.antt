use Rattle.std.proofs.Common.{◌+◌, ◌∷◌, []}
use Rattle.dx_stats.specs.Histogram.{connections}
use Rattle.dx_stats.proofs.FieldLaws.{makes_connections}
use Rattle.dx_stats.proofs.field.connections_of.Goals as goal

pub returns : goal.returns
returns c =
    let first = rw c.new-attributes.ensures at c.in_ok-push_text.ensures in
    let both = rw first at c.in_ok-push_text-2.ensures in
    let made = makes_connections _ ((c.args.bins.count + 1) ∷ []) c.grid_connections.result c.in_ok-points.ensures c.grid_connections.ensures in
    rw both at (c.made.ensures (connections c.args.bins) made)
