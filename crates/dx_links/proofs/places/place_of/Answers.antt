use Rattle.std.proofs.Common.{rules}
use Rattle.std.specs.Prelude.{slice_get}
use Rattle.std.proofs.lemmas.Fn.{always_returns_same}
use Rattle.dx_links.specs.Slots.{slot_cmp}
use Rattle.dx_links.proofs.SlotLaws.{searched}
use Rattle.dx_links.proofs.places.place_of.Goals as goal

pub returns-clause-place : goal.returns-clause-place
returns-clause-place c =
    let slots = c.args.slots.now in
    let key = c.args.key.now in
    let found = c.binary_search_by.ensures.position (λ n. slot_cmp (slice_get slots n) key) (always_returns_same _ _ _ (λ a r f k. search rules)) in
    searched slots c.args.order.now key c.binary_search_by.result c.requires.below c.binary_search_by.ensures.bound found
