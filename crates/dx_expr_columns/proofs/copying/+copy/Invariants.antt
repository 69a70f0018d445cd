use Rattle.std.proofs.Common.{◌≡◌, take}
use Rattle.dx_expr_columns.proofs.copying.+copy.Given as goal

abbrev pub invariant-copies-loop-part : goal.invariant-copies-loop-part
invariant-copies-loop-part l = l.found ≡ take l.part-index l.parts
