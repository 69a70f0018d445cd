use Rattle.std.proofs.Common.{arith}
use Rattle.std.proofs.lemmas.List.{length-set}
use Rattle.dx_objects.proofs.PartsLaws.{cleared_step, cleared_end}
use Rattle.dx_objects.proofs.parts.clear_positions.Goals as goal

pub loop-part-preserved : goal.loop-part-preserved
loop-part-preserved c = record {
  parts = cleared_step c.loop-part.parts c.loop-part.part-index c.part-item.result _ (omega arith) c.loop-part.invariant.parts;
  len = omega (arith, length-set c.loop-part.parts, c.loop-part.invariant.len);
}

pub returns-clause-parts : goal.returns-clause-parts
returns-clause-parts c = cleared_end c.loop-part.parts c.loop-part.part-index _ (omega arith) c.loop-part.invariant.parts
