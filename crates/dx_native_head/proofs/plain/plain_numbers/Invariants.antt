use Rattle.std.proofs.Common.{◌≡◌, ◌+◌, ◌<◌, ◌≤◌, ◌^◌, length}
use Rattle.dx_base.specs.Elem.{lowest, highest}
use Rattle.dx_native_grammar.specs.Grammar as spec
use Rattle.dx_native_head.proofs.plain.plain_numbers.Given as goal

abbrev pub invariant-loop-left : goal.invariant-loop-left
invariant-loop-left l = record {
  read : (spec.counted (spec.bounded (lowest l.t) (highest l.t)) l.n l.fn.found.items).read (record { offset = l.fn.offset; rest = l.fn.text }) ≡ (spec.counted (spec.bounded (lowest l.t) (highest l.t)) l.left l.found.items).read (record { offset = l.at; rest = l.rest });
  fewer : l.left ≤ l.n;
  within : l.at + length l.rest < 2 ^ 63;
}

abbrev pub decreases-loop-left : goal.decreases-loop-left
decreases-loop-left l = l.left
