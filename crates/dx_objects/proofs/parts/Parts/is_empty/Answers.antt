use Rattle.std.proofs.Common.{rules}
use Rattle.dx_objects.proofs.PartsLaws.{part_count_is}
use Rattle.dx_objects.proofs.parts.Parts.is_empty.Goals as goal

pub returns : goal.returns
returns c = rw (← c.self.view_is, part_count_is c.self.inside.items.items) (search rules)
