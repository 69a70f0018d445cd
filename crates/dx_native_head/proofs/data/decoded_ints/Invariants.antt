use Rattle.std.proofs.Common.{◌≡◌, ◌-◌, ◌*◌, ◌++◌, length}
use Rattle.dx_base.specs.declared.elem.ElemType.TheVariants.{Int}
use Rattle.dx_native_grammar.specs.Words as words
use Rattle.dx_native_head.proofs.data.decoded_ints.Given as goal

abbrev pub invariant-loop-i : goal.invariant-loop-i
invariant-loop-i l = record {
  same : l.found ++ words.decoded Int l.msb (l.n - l._i) l.rest ≡ words.decoded Int l.msb l.n l.bytes;
  rest : length l.rest ≡ (l.n - l._i) * 4;
}
