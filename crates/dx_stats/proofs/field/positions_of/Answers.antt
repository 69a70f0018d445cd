use Rattle.std.proofs.Common.{◌≡◌, ◌∷◌, []}
use Rattle.dx_stats.specs.Bins.{borders}
use Rattle.dx_stats.specs.Histogram.{positions}
use Rattle.dx_stats.proofs.FieldLaws.{makes_list}
use Rattle.dx_stats.proofs.field.positions_of.Goals as goal

pub returns : goal.returns
returns c =
    let pushed : c.push.new.self ≡ 1 ∷ [] = rw c.new-shape.ensures at c.in_ok-push.ensures.ok in
    let view = c.shape.view_is in
    let shape : c.shape.inside.items.items ≡ 1 ∷ [] = cc in
    rw c.new.ensures at (c.made.ensures (positions c.args.bins) (makes_list c.shape.inside.items.items (1 ∷ []) _ (borders c.args.bins) c.plain-array.result shape c.in_ok-borders.ensures c.plain-array.ensures))
