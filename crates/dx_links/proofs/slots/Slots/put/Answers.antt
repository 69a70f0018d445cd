use Rattle.std.proofs.Common.{◌≡◌, ◌<◌, ◌≤◌, ap, sym, ◌∙◌, length, subst}
use Rattle.std.specs.Prelude.{slice_set}
use Rattle.std.specs.List.{insert, remove}
use Rattle.std.proofs.lemmas.List.{length-set}
use Rattle.dx_links.specs.LinkMap.{put_at, Slotted}
use Rattle.dx_links.specs.Slots.{no_link, links_of}
use Rattle.dx_links.proofs.LinkLaws.{AreSorted, replaces, joins, leaves, stays, after_put}
use Rattle.dx_links.proofs.SlotLaws.{links_count, read_link, seen_links, set_slot, order_kept}
use Rattle.dx_links.proofs.slots.Slots.put.Goals as goal

replaced : (c : goal.Joined-key) → links_of (slice_set c.self.inside.slots.items c.index.result.now (c.index_mut.result.now.0, c.in-Ok-Some.held)) c.self.inside.order.items
    ≡ put_at (links_of c.self.inside.slots.items c.self.inside.order.items) c.args.change.key c.args.change.held
replaced c =
    let slots = c.self.inside.slots.items in
    let order = c.self.inside.order.items in
    let i = c.in-Ok-Some.i in
    let n = c.index.result.now in
    let r = c.index_mut.result.now in
    let seen = seen_links _ _ _ _ c.deref.ensures.value c.deref-2.ensures.value in
    let within : i < length order = subst (λ ns. i < length ns) c.deref-2.ensures.value c.in-Ok-Some.ensures.range in
    set_slot slots order i n (r.0, c.in-Ok-Some.held) c.self.invariant within c.index.ensures
    ∙ replaces (links_of slots order) _ c.args.change.key c.args.change.held c.in-Ok-Some.held i r c.self.invariant.sorted seen c.in-Ok-Some.is-1
    (subst (λ m. i < m) (sym (links_count _ _)) c.in-Ok-Some.ensures.range) c.in-Ok-Some.ensures.place (read_link slots order i n r c.self.invariant within c.index.ensures c.index_mut.ensures.value)

pub invariant_of-self : goal.invariant_of-self
invariant_of-self c =
    let slots = c.self.inside.slots.items in
    let order = c.self.inside.order.items in
    order_kept slots _ order c.self.invariant (length-set slots _ _) (after_put (links_of slots order) _ c.args.change.key c.args.change.held c.self.invariant.sorted (replaced c))

pub returns-in-Ok-Some-clause-made : goal.returns-in-Ok-Some-clause-made
returns-in-Ok-Some-clause-made c = replaced c ∙ ap (λ (l : Slotted). put_at l.links c.args.change.key c.args.change.held) c.self.view_is

pub returns-in-Ok-None-clause-made : goal.returns-in-Ok-None-clause-made
returns-in-Ok-None-clause-made c =
    let k = c.args.change.key in
    let o = c.args.change.held in
    let i = c.in-Ok-None.i in
    let seen = seen_links _ _ _ _ c.deref.ensures.value c.deref-2.ensures.value in
    let range = subst (λ n. i < n) (sym (links_count _ _)) c.in-Ok-None.ensures.range in
    c.take.ensures.links
    ∙ subst (λ (l : Slotted). remove l.links i ≡ put_at l.links k o) c.self.view_is
    (leaves (links_of c.self.inside.slots.items c.self.inside.order.items) _ k o i no_link c.self.invariant.sorted seen c.in-Ok-None.is-1 range c.in-Ok-None.ensures.place)

pub insert-requires-clause-sorted : goal.insert-requires-clause-sorted
insert-requires-clause-sorted c =
    let k = c.args.change.key in
    let o = c.args.change.held in
    let v = c.in-Err-Some.held in
    let i = c.in-Err-Some.i in
    let es = links_of c.self.inside.slots.items c.self.inside.order.items in
    let seen = seen_links _ _ _ _ c.deref.ensures.value c.deref-2.ensures.value in
    let range = subst (λ n. i ≤ n) (sym (links_count _ _)) c.in-Err-Some.ensures.range in
    subst (λ (l : Slotted). AreSorted (insert l.links i (k, v))) c.self.view_is
    (after_put es (insert es i (k, v)) k o c.self.invariant.sorted (joins es _ k o v i c.self.invariant.sorted seen c.in-Err-Some.is-1 range c.in-Err-Some.ensures.place))

pub returns-in-Err-Some-clause-made : goal.returns-in-Err-Some-clause-made
returns-in-Err-Some-clause-made c =
    let k = c.args.change.key in
    let o = c.args.change.held in
    let v = c.in-Err-Some.held in
    let i = c.in-Err-Some.i in
    let seen = seen_links _ _ _ _ c.deref.ensures.value c.deref-2.ensures.value in
    let range = subst (λ n. i ≤ n) (sym (links_count _ _)) c.in-Err-Some.ensures.range in
    c.insert.ensures.links
    ∙ subst (λ (l : Slotted). insert l.links i (k, v) ≡ put_at l.links k o) c.self.view_is
    (joins (links_of c.self.inside.slots.items c.self.inside.order.items) _ k o v i c.self.invariant.sorted seen c.in-Err-Some.is-1 range c.in-Err-Some.ensures.place)

pub returns-clause-made : goal.returns-clause-made
returns-clause-made c =
    let k = c.args.change.key in
    let o = c.args.change.held in
    let seen = seen_links _ _ _ _ c.deref.ensures.value c.deref-2.ensures.value in
    subst (λ (l : Slotted). l.links ≡ put_at l.links k o) c.self.view_is
    (stays (links_of c.self.inside.slots.items c.self.inside.order.items) _ k o c.in-Err-None.field-0-0 c.self.invariant.sorted seen c.in-Err-None.is-1 c.in-Err-None.ensures.place)
