use Rattle.std.proofs.Common.{arith}
use Rattle.dx_objects.proofs.PartsLaws.{part_count_is}
use Rattle.dx_objects.proofs.parts.Parts.len.Goals as goal

pub returns : goal.returns
returns c = rw (← c.self.view_is) (let count = part_count_is c.self.inside.items.items in grind (arith, count))
