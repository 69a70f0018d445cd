use Rattle.std.proofs.Common.{◌≡◌, pos, ◌*ℤ◌, FitsSigned, w64, rules}
use mir.Syntax.{w128}
use Rattle.std.proofs.lemmas.Int.{to_z-of_z}
use Rattle.dx_stats.specs.Sums.{IsUpTo}
use Rattle.dx_stats.proofs.Held.{total_square, minus_is}
use Rattle.dx_stats.proofs.statistics.spread_of.Goals as goal

pub returns : goal.returns
returns c =
    let s = c.args.sums in
    let wide : FitsSigned w128 s.squares = search rules in
    let narrow : FitsSigned w64 s.total = search rules in
    let scaled : c.scaled.result ≡ pos s.count *ℤ s.squares = rw (to_z-of_z w128 s.squares wide) at c.scaled.ensures.value in
    let square : c.square.result ≡ s.total *ℤ s.total = rw (to_z-of_z w64 s.total narrow) at c.square.ensures in
    let held : IsUpTo 5192296858534827628530496329220096 (pos s.count *ℤ s.squares) = rw scaled at c.scaled.ensures.held in
    minus_is (pos s.count *ℤ s.squares) (s.total *ℤ s.total) c.scaled.result c.square.result scaled square held (total_square s c.requires)
