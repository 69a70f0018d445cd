use Rattle.std.proofs.Common.{◌∙◌, sym, ap}
use Rattle.dx_base.specs.Object.{part_count}
use Rattle.dx_objects.proofs.PartsLaws.{part_count_is}
use Rattle.dx_compute.proofs.groups.member_count.Goals as goal

pub returns : goal.returns
returns c = sym (part_count_is c.parts.result.now) ∙ ap part_count c.parts.ensures
