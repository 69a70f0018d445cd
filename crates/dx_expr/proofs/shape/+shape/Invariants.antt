use Rattle.std.proofs.Common.{◌≡◌, drop}
use Rattle.std.specs.Prelude.{map}
use Rattle.dx_expr.specs.Shape.{all_single, shape_of}
use Rattle.dx_expr.proofs.shape.+shape.Given as goal

abbrev pub invariant-all_single-loop-part : goal.invariant-all_single-loop-part
invariant-all_single-loop-part g l = all_single (map (shape_of (g.I.Inputs.given l.inputs).shape) (drop l.part-index l.parts)) ≡ all_single (map (shape_of (g.I.Inputs.given l.inputs).shape) l.parts)
