use Rattle.std.proofs.Common.{get_or}
use Rattle.std.proofs.lemmas.List.{get_or_default}
use Rattle.dx_links.proofs.SlotLaws.{is_somewhere, is_there}
use Rattle.dx_links.proofs.places.place_of_slot.Goals as goal

pub unreachable-requires : goal.unreachable-requires
unreachable-requires c =
    let slots = c.args.slots.now in
    let r = get_or slots c.args.n c.index-slots-n.result in
    is_somewhere slots c.args.order.now c.requires.ordered c.args.n c.in-Err.field-0 r c.requires.within (get_or_default slots c.args.n _ r c.requires.within) c.in-Err.ensures.place

pub returns-clause-place : goal.returns-clause-place
returns-clause-place c =
    let slots = c.args.slots.now in
    let r = get_or slots c.args.n c.index-slots-n.result in
    is_there slots c.args.order.now c.requires.ordered c.args.n c.in-Ok.i r c.requires.within (get_or_default slots c.args.n _ r c.requires.within) c.in-Ok.ensures.range c.in-Ok.ensures.place
