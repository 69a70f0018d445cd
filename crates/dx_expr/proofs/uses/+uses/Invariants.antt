use Rattle.std.proofs.Common.{◌≡◌, drop}
use Rattle.std.specs.Prelude.{map}
use Rattle.dx_expr.specs.Uses.{any_of, uses}
use Rattle.dx_expr.proofs.uses.+uses.Given as goal

abbrev pub invariant-any_uses-loop-part : goal.invariant-any_uses-loop-part
invariant-any_uses-loop-part l = any_of (map (uses l.k) (drop l.part-index l.parts)) ≡ any_of (map (uses l.k) l.parts)
