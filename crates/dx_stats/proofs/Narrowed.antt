-- An int fits 64 bits.
use Rattle.std.proofs.Common.{ℤ, FitsSigned, w64, arith}
use Rattle.std.specs.Prelude.{IsTrue}
use Rattle.std.proofs.lemmas.Int.{ints}
use Rattle.dx_base.specs.declared.elem.ElemType.TheVariants.{Int}
use Rattle.dx_base.specs.Elem.{in_range}

pub int_fits : (n : ℤ) → IsTrue (in_range Int n) → FitsSigned w64 n
int_fits n h = grind (arith, ints)
