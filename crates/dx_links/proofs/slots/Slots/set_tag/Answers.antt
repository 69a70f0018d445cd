use Rattle.std.proofs.Common.{◌≡◌, ◌<◌, ap, sym, ◌∙◌, length, subst, arith}
use Rattle.std.specs.Prelude.{slice_set}
use Rattle.std.proofs.lemmas.List.{length-set}
use Rattle.dx_links.specs.LinkMap.{tag_at, Slotted}
use Rattle.dx_links.specs.Slots.{links_of}
use Rattle.dx_links.proofs.LinkLaws.{tagged, tag_sorted}
use Rattle.dx_links.proofs.SlotLaws.{links_count, read_link, set_slot, order_kept}
use Rattle.dx_links.proofs.slots.Slots.set_tag.Goals as goal

within : (c : goal.After-self-1) → c.args.i < length (links_of c.self.inside.slots.items c.self.inside.order.items)
within c = subst (λ (l : Slotted). c.args.i < length l.links) (sym c.self.view_is) c.requires.within

tagged_slot : (c : goal.After-self-1) → links_of (slice_set c.self.inside.slots.items c.index.result.now (c.index_mut.result.now.0, c.set_tag.new.self)) c.self.inside.order.items ≡ tag_at (links_of c.self.inside.slots.items c.self.inside.order.items) c.args.i c.args.tag
tagged_slot c =
    let slots = c.self.inside.slots.items in
    let order = c.self.inside.order.items in
    let n = c.index.result.now in
    let r = c.index_mut.result.now in
    let h : c.args.i < length order = (let l = within c in let count = links_count slots order in omega (arith, l, count)) in
    set_slot slots order c.args.i n (r.0, c.set_tag.new.self) c.self.invariant h c.index.ensures
    ∙ tagged (links_of slots order) c.args.i r c.set_tag.new.self c.args.tag (within c) (read_link slots order c.args.i n r c.self.invariant h c.index.ensures c.index_mut.ensures.value) c.set_tag.ensures.value c.set_tag.ensures.tag

pub invariant_of-self : goal.invariant_of-self
invariant_of-self c =
    let slots = c.self.inside.slots.items in
    let order = c.self.inside.order.items in
    order_kept slots _ order c.self.invariant (length-set slots _ _) (tag_sorted (links_of slots order) _ c.args.i c.args.tag c.self.invariant.sorted (tagged_slot c))

pub returns-clause-links : goal.returns-clause-links
returns-clause-links c = tagged_slot c ∙ ap (λ (l : Slotted). tag_at l.links c.args.i c.args.tag) c.self.view_is
