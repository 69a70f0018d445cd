use Rattle.std.proofs.Common.{◌≡◌}
use Rattle.dx_base.specs.Elem.{lowest, highest}
use Rattle.dx_native_grammar.specs.Grammar as spec
use Rattle.dx_native_head.proofs.many.numbers.Given as goal

abbrev pub invariant-loop-left : goal.invariant-loop-left
invariant-loop-left l = (spec.counted (spec.bounded (lowest l.t) (highest l.t)) l.n l.fn.found).read l.fn.cursor ≡ (spec.counted (spec.bounded (lowest l.t) (highest l.t)) l.left l.values.items).read l.cursor

abbrev pub decreases-loop-left : goal.decreases-loop-left
decreases-loop-left l = l.left
