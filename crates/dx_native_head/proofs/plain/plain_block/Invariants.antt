use Rattle.std.proofs.Common.{◌≡◌, ◌+◌, ◌-◌, ◌≤◌, take, length}
use Rattle.dx_base.specs.Elem.{lowest, highest}
use Rattle.dx_native_grammar.specs.Grammar as spec
use Rattle.dx_native_head.specs.Many.{AreNext}
use Rattle.dx_native_head.proofs.plain.plain_block.Given as goal

abbrev pub invariant-loop-count : goal.invariant-loop-count
invariant-loop-count l = record {
  next : AreNext (spec.bounded (lowest l.t) (highest l.t)) (take l.count l.block) (record { offset = l.fn.offset; rest = l.fn.text }) (record { offset = l.fn.offset + (length l.fn.text - length l.rest); rest = l.rest });
  many : l.count ≤ l.n;
  len : length l.block ≡ length l.fn.block;
  within : length l.rest ≤ length l.fn.text;
}

abbrev pub decreases-loop-count : goal.decreases-loop-count
decreases-loop-count l = l.n - l.count
