use Rattle.dx_links.proofs.SlotLaws.{none_ordered}
use Rattle.dx_links.proofs.slots.Slots.new.Goals as goal

pub invariant_of-result : goal.invariant_of-result
invariant_of-result c = none_ordered c.new.result.items c.new-2.result.items c.new.ensures.items c.new-2.ensures.items
