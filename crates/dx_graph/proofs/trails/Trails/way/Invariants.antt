use Rattle.std.proofs.Common.{◌≡◌, ◌≤◌, ◌++◌, length, reverse}
use Rattle.dx_macros.specs.Steps.{plain_steps}
use Rattle.dx_graph.specs.Trails.{spots_of, spot_under, reach}
use Rattle.dx_graph.proofs.trails.Trails.way.Given as goal

abbrev pub invariant-loop-at : goal.invariant-loop-at
invariant-loop-at l =
    let spots = spots_of l.self-inside.list.items in
    let back = reverse (plain_steps l.steps.items) in
    let here = spot_under spots l.at in
    let whole = spot_under spots l.fn.trail in
    (reach l.at ≤ length l.self-inside.list.items) × (here.base ++ back ≡ whole.base) × (here.path ++ back ≡ whole.path)

abbrev pub decreases-loop-at : goal.decreases-loop-at
decreases-loop-at l = reach l.at
