use Rattle.std.proofs.Common.{◌≡◌, ◌-◌, length}
use Rattle.std.specs.List.{list_all, range_with_len}
use Rattle.dx_base.specs.Array.{number}
use Rattle.dx_arrays.specs.Reach.{line_fits, lines_fit}
use Rattle.dx_arrays.proofs.range.do_lines_fit.Given as goal

abbrev pub invariant-loop-place : goal.invariant-loop-place
invariant-loop-place l =
    list_all (λ p. line_fits l.t l.last (number l.origin p) (number l.delta p)) (range_with_len l.place (length l.origin - l.place)) ≡ lines_fit l.t l.last l.origin l.delta
