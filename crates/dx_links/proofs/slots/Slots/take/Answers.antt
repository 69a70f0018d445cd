use Rattle.std.proofs.Common.{◌≡◌, ◌<◌, ◌-◌, ap, sym, ◌∙◌, length, subst, get_or, take, remove, arith}
use Rattle.std.specs.Prelude.{vec_len}
use Rattle.dx_links.specs.LinkMap.{Slotted}
use Rattle.dx_links.specs.Slots.{links_of, AreOrdered}
use Rattle.dx_links.proofs.SlotLaws.{links_count, take_slot}
use Rattle.dx_links.proofs.slots.Slots.take.Goals as goal

taken : (c : goal.After-remove) → AreOrdered c.pop.new.self.items c.remove.new.self.items × (links_of c.pop.new.self.items c.remove.new.self.items ≡ remove (links_of c.self.inside.slots.items c.self.inside.order.items) c.args.i)
taken c =
    let slots = c.self.inside.slots in
    let order = c.self.inside.order.items in
    let a = c.index.result.now in
    let j = c.place_of_slot-j.result in
    let b = c.len-last.result - 1 in
    let count : vec_len slots ≡ length slots.items = (let ok = slots.ok.0 in omega (arith, ok)) in
    let last : b ≡ length slots.items - 1 = (let n = c.len-last.ensures in omega (arith, n, count)) in
    let within : c.args.i < length order =
    (let h = subst (λ (l : Slotted). c.args.i < length l.links) (sym c.self.view_is) c.requires.within in let n = links_count slots.items order in omega (arith, h, n)) in
    let there = subst (λ ns. j < length ns) c.deref-2.ensures.value c.place_of_slot-j.ensures.within in
    let shorter = c.pop.ensures.rest ∙ (λ t. take ((c.swap.ensures.len ∙ count) t - 1) (c.swap.ensures.items t)) in
    let fewer = c.remove.ensures.items ∙ ap (λ ns. remove ns c.args.i) c.swap-2.ensures.items in
    let at = ap (λ ns. get_or ns j 0) (sym c.deref-2.ensures.value) ∙ c.place_of_slot-j.ensures.place in
    take_slot slots.items c.pop.new.self.items order c.remove.new.self.items c.args.i j a b c.self.invariant within there c.index.ensures at last shorter fewer

pub invariant_of-self : goal.invariant_of-self
invariant_of-self c = (taken c).0

pub returns-clause-links : goal.returns-clause-links
returns-clause-links c = (taken c).1 ∙ ap (λ (l : Slotted). remove l.links c.args.i) c.self.view_is
