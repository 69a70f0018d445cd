use Rattle.std.proofs.Common.{◌≡◌, ◌∙◌, length, sym, ap, subst, Some, None, refl}
use Rattle.std.specs.Prelude.{slice_get, bytes_eq}
use Rattle.std.specs.Map.{lookup}
use Rattle.dx_cache.specs.Cached.{Cached, total, next_place, IsTagAt}
use Rattle.dx_cache.specs.Sound.{IsBounded}
use Rattle.dx_cache.specs.Tied.{order_in, entries_at, next_slot, tag_in}
use Rattle.dx_cache.proofs.Tying.{next_none_of, next_some_of}
use Rattle.dx_cache.proofs.Steps.{at_next, tag_place, sound_bounded}
use Rattle.dx_cache.proofs.cache.Cache.next_tag.Goals as goal

pub returns-in-None-clause-tag : goal.returns-in-None-clause-tag
returns-in-None-clause-tag c =
    let nx : next_slot (lookup (bytes_eq c.args.site.now) c.self.inside.names.ends) c.args.attribute c.args.size c.self.inside.budget (total (entries_at c.self.inside.slots.items c.self.inside.names.names (order_in c.self.inside.links.items c.self.inside.slots.items c.self.inside.all))) c.self.inside.all.first ≡ None = ap (λ u. next_slot (lookup (bytes_eq c.args.site.now) c.self.inside.names.ends) c.args.attribute c.args.size c.self.inside.budget u c.self.inside.all.first) (sym c.self.invariant.used_is) ∙ sym c.in-None.ensures in
    let none = next_none_of _ _ _ _ _ _ _ _ _ _ c.self.invariant.tied c.args.site.now c.args.attribute c.args.size c.self.inside.budget nx in
    ap (λ (x : Cached). next_place c.args.site.now c.args.attribute c.args.size x.budget x.entries) (sym c.self.view_is) ∙ none

pub returns-in-Some-clause-tag : goal.returns-in-Some-clause-tag
returns-in-Some-clause-tag c =
    let i = c.in-Some.i in
    let nx : next_slot (lookup (bytes_eq c.args.site.now) c.self.inside.names.ends) c.args.attribute c.args.size c.self.inside.budget (total (entries_at c.self.inside.slots.items c.self.inside.names.names (order_in c.self.inside.links.items c.self.inside.slots.items c.self.inside.all))) c.self.inside.all.first ≡ Some c.in-Some.i = ap (λ u. next_slot (lookup (bytes_eq c.args.site.now) c.self.inside.names.ends) c.args.attribute c.args.size c.self.inside.budget u c.self.inside.all.first) (sym c.self.invariant.used_is) ∙ sym c.in-Some.ensures in
    let n = next_some_of _ _ _ _ _ _ _ _ _ _ c.self.invariant.tied c.args.site.now c.args.attribute c.args.size c.self.inside.budget i nx in
    let at = at_next _ _ _ _ _ _ _ _ _ _ i c.args.site.now c.args.attribute c.args.size c.self.inside.budget c.self.invariant.tied n in
    let a = at.0 in
    let tag : c.tag_of.result ≡ Some a.full.body.tag = c.tag_of.ensures ∙ ap (λ xs. tag_in (slice_get xs i)) c.deref.ensures.value ∙ ap tag_in a.full.at in
    let here = n.place_is ∙ ap (λ xs. Some (length xs)) at.1 in
    let found = tag_place _ _ _ _ _ _ _ _ _ _ _ a a.full.body.tag c.self.invariant.kept refl in
    subst (λ (x : Cached). IsTagAt (next_place c.args.site.now c.args.attribute c.args.size x.budget x.entries) x.entries c.tag_of.result) c.self.view_is
    (subst (λ r. IsTagAt (next_place c.args.site.now c.args.attribute c.args.size c.self.inside.budget (entries_at c.self.inside.slots.items c.self.inside.names.names (order_in c.self.inside.links.items c.self.inside.slots.items c.self.inside.all))) (entries_at c.self.inside.slots.items c.self.inside.names.names (order_in c.self.inside.links.items c.self.inside.slots.items c.self.inside.all)) r) (sym tag) (length a.left, here, found))

pub returns-in-None-clause-sound : goal.returns-in-None-clause-sound
returns-in-None-clause-sound c = subst IsBounded c.self.view_is (sound_bounded _ _ _ _ _ _ _ _ _ _ _ c.self.invariant)

pub returns-in-Some-clause-sound : goal.returns-in-Some-clause-sound
returns-in-Some-clause-sound c = subst IsBounded c.self.view_is (sound_bounded _ _ _ _ _ _ _ _ _ _ _ c.self.invariant)
