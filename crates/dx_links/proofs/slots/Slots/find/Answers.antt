use Rattle.std.proofs.Common.{◌≡◌, ◌<◌, None, length, subst, sym}
use Rattle.dx_links.specs.LinkMap.{held_at, Slotted}
use Rattle.dx_links.specs.Slots.{links_of, no_link, StandsAt}
use Rattle.dx_links.proofs.LinkLaws.{HitsAt, not_found}
use Rattle.dx_links.proofs.SlotLaws.{links_count, seen_links}
use Rattle.dx_links.proofs.slots.Slots.find.Goals as goal

pub returns-in-Ok : goal.returns-in-Ok
returns-in-Ok c =
    let slots = c.self.inside.slots.items in
    let order = c.self.inside.order.items in
    let i = c.in-Ok.i in
    let key = c.args.key.now in
    let seen = seen_links _ _ _ _ c.deref.ensures.value c.deref-2.ensures.value in
    let within = subst (λ n. i < n) (sym (links_count _ _)) c.in-Ok.ensures.range in
    subst (λ (l : Slotted). StandsAt key l.links i) c.self.view_is (record {
      within = subst (λ ls. i < length ls) seen within;
      key = subst (λ ls. HitsAt key ls i) seen c.in-Ok.ensures.place no_link;
    })

pub returns-in-Err : goal.returns-in-Err
returns-in-Err c =
    let seen = seen_links _ _ _ _ c.deref.ensures.value c.deref-2.ensures.value in
    subst (λ (l : Slotted). held_at c.args.key.now l.links ≡ None) c.self.view_is
    (not_found (links_of c.self.inside.slots.items c.self.inside.order.items) _ c.args.key.now c.in-Err.field-0 c.self.invariant.sorted seen c.in-Err.ensures.place)
