use Rattle.std.proofs.Common.{◌≡◌, ◌∷◌, ◌++◌, [], ap, ◌∙◌, length, subst, sym, arith}
use Rattle.std.specs.List.{insert}
use Rattle.dx_links.specs.LinkMap.{Slotted}
use Rattle.dx_links.specs.Slots.{links_of, AreOrdered}
use Rattle.dx_links.proofs.LinkLaws.{AreSorted}
use Rattle.dx_links.proofs.SlotLaws.{put_slot, order_put}
use Rattle.dx_links.proofs.slots.Slots.insert.Goals as goal

order_now : (c : goal.In-Ok-Ok) → c.insert.new.self.items ≡ insert c.self.inside.order.items c.args.i (length c.self.inside.slots.items)
order_now c = c.in-Ok-Ok.ensures'.items ∙ ap (insert c.self.inside.order.items c.args.i) (let n = c.len-n.ensures in let count = c.self.inside.slots.ok.0 in omega (arith, n, count))

pub invariant_of-self : goal.invariant_of-self
invariant_of-self c =
    let slots = c.self.inside.slots.items in
    let sorted = subst (λ (l : Slotted). AreSorted (insert l.links c.args.i c.args.link)) (sym c.self.view_is) c.requires.sorted in
    subst (λ ss. AreOrdered ss c.insert.new.self.items) (sym c.in-Ok-Ok.ensures.items)
    (subst (AreOrdered (slots ++ c.args.link ∷ [])) (sym (order_now c)) (order_put slots c.self.inside.order.items c.args.i c.args.link c.self.invariant sorted))

pub returns-clause-links : goal.returns-clause-links
returns-clause-links c =
    (λ t. links_of (c.in-Ok-Ok.ensures.items t) (order_now c t))
    ∙ put_slot c.self.inside.slots.items c.self.inside.order.items c.args.i c.args.link c.self.invariant
    ∙ ap (λ (l : Slotted). insert l.links c.args.i c.args.link) c.self.view_is
