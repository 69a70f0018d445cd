use Rattle.std.proofs.Common.{◌≡◌, drop}
use Rattle.std.specs.Prelude.{map}
use Rattle.dx_expr_ranges.specs.Ranges.{all_of, none, range_of}
use Rattle.dx_expr_ranges.proofs.expression.+ranges.Given as goal

abbrev pub invariant-all_of-loop-part : goal.invariant-all_of-loop-part
invariant-all_of-loop-part l = all_of l.all (map (range_of l.ranges) (drop l.part-index l.parts)) ≡ all_of none (map (range_of l.ranges) l.parts)
