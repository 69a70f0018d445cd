use Rattle.std.proofs.Common.{◌≡◌, ◌<◌, ◌≤◌, length, get_or, ap, sym, ◌∙◌, subst, arith}
use Rattle.std.proofs.lemmas.List.{get_or_default, take_all}
use Rattle.std.specs.List.{range_with_len}
use Rattle.dx_links.specs.LinkMap.{Slotted}
use Rattle.dx_links.specs.Slots.{links_of, AreOrdered}
use Rattle.dx_links.proofs.SlotLaws.{Link, links_count, read_link, copied_more, listed}
use Rattle.dx_links.proofs.slots.Slots.copy.Goals as goal

pub loop-n-preserved : goal.loop-n-preserved
loop-n-preserved c =
    let slots = c.self.inside.slots.items in
    let order = c.deref-n-items.result.now in
    let i = c.loop-n.n-index in
    let r = c.index.result.now in
    let x : Link = (c.in_ok-copy_of.field-0, c.in_ok-share.field-0) in
    let es = links_of slots order in
    let ordered = subst (AreOrdered slots) (sym c.deref-n-items.ensures.value) c.self.invariant in
    let within : i < length order = (let h = c.loop-n-test.true in omega (arith, h)) in
    let read = read_link slots order i (get_or order i 0) r ordered within (get_or_default order i 0 _ within) c.index.ensures in
    let same : x ≡ r = λ t. (c.in_ok-copy_of.ensures t, c.in_ok-share.ensures t) in
    let below : i < length es = (let n = links_count slots order in omega (arith, n, within)) in
    copied_more es c.loop-n.slots.items c.push.new.self.items i x c.loop-n.invariant below (same ∙ read ∙ get_or_default es i r x below) c.in_ok-push.ensures.items

done : (c : goal.In_ok-order) → AreOrdered c.loop-n.slots.items c.in_ok-order.order.items × (links_of c.loop-n.slots.items c.in_ok-order.order.items ≡ links_of c.self.inside.slots.items c.self.inside.order.items)
done c =
    let slots = c.self.inside.slots.items in
    let order = c.deref-n-items.result.now in
    let es = links_of slots order in
    let long : length es ≤ c.loop-n.n-index = (let n = links_count slots order in let h = c.loop-n-test.false in omega (arith, n, h)) in
    let all = c.loop-n.invariant ∙ take_all c.loop-n.n-index es long ∙ ap (links_of slots) c.deref-n-items.ensures.value in
    let count : c.len-2.result ≡ length c.loop-n.slots.items = (let n = c.len-2.ensures in let ok = c.loop-n.slots.ok.0 in omega (arith, n, ok)) in
    listed (links_of slots c.self.inside.order.items) c.loop-n.slots.items c.in_ok-order.order.items c.self.invariant.sorted all (c.in_ok-order.ensures ∙ ap (range_with_len 0) count)

pub invariant_of-result : goal.invariant_of-result
invariant_of-result c = (done c).0

pub returns : goal.returns
returns c = (done c).1 ∙ ap (λ (l : Slotted). l.links) c.self.view_is
