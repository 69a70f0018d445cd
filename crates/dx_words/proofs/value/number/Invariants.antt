use Rattle.std.proofs.Common.{◌≡◌, ◌-◌, ◌^◌, min, take}
use Rattle.dx_base.specs.Tokens.Spelling.{value_of}
use Rattle.dx_words.proofs.value.number.Given as goal

abbrev pub invariant-loop-b : goal.invariant-loop-b
invariant-loop-b l = l.n ≡ min (value_of (take l.b-index l.digits)) (2 ^ 64 - 1)
