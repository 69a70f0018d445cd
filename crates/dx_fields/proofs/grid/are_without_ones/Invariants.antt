use Rattle.std.proofs.Common.{◌≡◌, drop}
use Rattle.std.specs.Prelude.{bytes_eq}
use Rattle.dx_fields.specs.Grids as spec
use Rattle.dx_fields.proofs.grid.are_without_ones.Given as goal

abbrev pub invariant-loop-count : goal.invariant-loop-count
invariant-loop-count l = bytes_eq (spec.without_ones (drop l.count-index l.counts)) l.rest ≡ bytes_eq (spec.without_ones l.counts) l.others
