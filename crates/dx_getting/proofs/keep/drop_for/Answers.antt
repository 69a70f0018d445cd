use Rattle.std.proofs.Common.{◌≡◌, ◌∙◌, ◌<◌, ◌≤◌, ◌+◌, ℕ, List, ◌∷◌, ◌++◌, [], length, map, sym, ap, subst, refl, arith, append_assoc, append-nil, Some, None}
use Rattle.std.specs.List.{remove}
use Rattle.std.proofs.lemmas.List.Edits.{length-remove}
use Rattle.std.proofs.lemmas.Option.{slice_get_within}
use Rattle.dx_cache.specs.declared.entry.Entry.{Entry}
use Rattle.dx_cache.specs.Cached as kept
use Rattle.dx_cache.specs.Cached.{Cached, IsPartOf, Drops}
use Rattle.dx_cache.proofs.Drops.{room_none, room_some, next_none, part_all, part-remove, part_then}
use Rattle.dx_getting.specs.declared.event.Event.TheVariants as shown
use Rattle.dx_getting.proofs.keep.drop_for.Goals as goal

pub drops-init : goal.drops-init
drops-init c = record { budget = refl; room = omega arith; part = part_all c.args.cache.now.entries; left = refl; drops = refl }

pub drops-smaller : goal.drops-smaller
drops-smaller c =
    let d = room_some c.args.site.now c.args.attribute c.args.size c.drops.cache c.make_room.new.self c.in-Some.entry c.in-Some.ensures.drops in
    let w = slice_get_within c.drops.cache.entries d.place c.in-Some.entry d.slot in
    let l = length-remove c.drops.cache.entries d.place w in
    let n = ap length d.entries in
    omega (arith, l, n)

pub returns-in_err-tell-in-Some-clause-part : goal.returns-in_err-tell-in-Some-clause-part
returns-in_err-tell-in-Some-clause-part c =
    let d = room_some c.args.site.now c.args.attribute c.args.size c.drops.cache c.make_room.new.self c.in-Some.entry c.in-Some.ensures.drops in
    part_then _ _ _ (subst (λ xs. IsPartOf xs c.drops.cache.entries) (sym d.entries) (part-remove c.drops.cache.entries d.place)) c.drops.invariant.part

pub drops-preserved : goal.drops-preserved
drops-preserved c =
    let d = room_some c.args.site.now c.args.attribute c.args.size c.drops.cache c.make_room.new.self c.in-Some.entry c.in-Some.ensures.drops in
    let budget = c.drops.invariant.budget in
    let dropped = subst (λ b. kept.dropped_for c.args.site.now c.args.attribute c.args.size b c.drops.cache.entries ≡ c.in-Some.entry ∷ kept.dropped_for c.args.site.now c.args.attribute c.args.size b c.make_room.new.self.entries) budget d.dropped in
    let left = subst (λ b. kept.left_for c.args.site.now c.args.attribute c.args.size b c.make_room.new.self.entries ≡ kept.left_for c.args.site.now c.args.attribute c.args.size b c.drops.cache.entries) budget d.left in
    record {
      budget = d.budget ∙ budget;
      room = (let r = d.room in let s = c.drops.invariant.room in omega (arith, r, s));
      part = part_then _ _ _ (subst (λ xs. IsPartOf xs c.drops.cache.entries) (sym d.entries) (part-remove c.drops.cache.entries d.place)) c.drops.invariant.part;
      left = left ∙ c.drops.invariant.left;
      drops = rw (c.in_ok-tell-in-Some.ensures, c.site_of.ensures) (append_assoc c.drops.events.items (shown.Drop c.in-Some.entry.site ∷ []) _ ∙ ap (λ xs. c.drops.events.items ++ map (λ (x : Entry). shown.Drop x.site) xs) (sym dropped) ∙ c.drops.invariant.drops);
    }

pub returns-in-None-clause-part : goal.returns-in-None-clause-part
returns-in-None-clause-part c =
    let d = room_none c.args.site.now c.args.attribute c.args.size c.drops.cache c.make_room.new.self c.in-None.ensures.drops in
    subst (λ (x : Cached). IsPartOf x.entries c.args.cache.now.entries) (sym d.1) c.drops.invariant.part

pub returns-in-None-clause-left : goal.returns-in-None-clause-left
returns-in-None-clause-left c =
    let d = room_none c.args.site.now c.args.attribute c.args.size c.drops.cache c.make_room.new.self c.in-None.ensures.drops in
    let n = next_none c.args.site.now c.args.attribute c.args.size c.drops.cache.budget c.drops.cache.entries d.0 in
    ap (λ (x : Cached). x.entries) d.1 ∙ sym n.0 ∙ ap (λ b. kept.left_for c.args.site.now c.args.attribute c.args.size b c.drops.cache.entries) c.drops.invariant.budget ∙ c.drops.invariant.left

pub returns-in-None-clause-none : goal.returns-in-None-clause-none
returns-in-None-clause-none c =
    let d = room_none c.args.site.now c.args.attribute c.args.size c.drops.cache c.make_room.new.self c.in-None.ensures.drops in
    subst (λ (x : Cached). kept.next_place c.args.site.now c.args.attribute c.args.size x.budget x.entries ≡ None) (sym d.1) d.0

pub returns-in-None-clause-drops : goal.returns-in-None-clause-drops
returns-in-None-clause-drops c =
    let d = room_none c.args.site.now c.args.attribute c.args.size c.drops.cache c.make_room.new.self c.in-None.ensures.drops in
    let n = next_none c.args.site.now c.args.attribute c.args.size c.drops.cache.budget c.drops.cache.entries d.0 in
    let none : kept.dropped_for c.args.site.now c.args.attribute c.args.size c.args.cache.now.budget c.drops.cache.entries ≡ [] = ap (λ b. kept.dropped_for c.args.site.now c.args.attribute c.args.size b c.drops.cache.entries) (sym c.drops.invariant.budget) ∙ n.1 in
    sym (append-nil c.drops.events.items) ∙ ap (λ xs. c.drops.events.items ++ map (λ (x : Entry). shown.Drop x.site) xs) (sym none) ∙ c.drops.invariant.drops
