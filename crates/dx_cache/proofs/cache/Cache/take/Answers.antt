use Rattle.std.proofs.Common.{◌≡◌, ◌∙◌, ◌-◌, ℕ, List, length, sym, ap, ap₂, subst, Option, Some, None, arith, cond}
use Rattle.std.specs.Prelude.{slice_get, slice_set, nat_eq}
use Rattle.std.specs.Map.{lookup}
use Rattle.dx_cache.specs.Chain.{IsOut}
use Rattle.dx_cache.proofs.SlotLaws.{within}
use Rattle.dx_cache.specs.Named.{HasHeir}
use Rattle.std.specs.List.{remove}
use Rattle.dx_cache.proofs.Places.{total-remove}
use Rattle.dx_cache.proofs.Tying.{site_split}
use Rattle.dx_cache.specs.Named.{taken_ends}
use Rattle.dx_cache.specs.declared.entry.Entry.{Entry}
use Rattle.dx_cache.specs.declared.slots.Body.{Body}
use Rattle.dx_cache.specs.Cached.{Cached, place, has_tag}
use Rattle.dx_cache.specs.Tied.{slots_of, order_in, entry_of}
use Rattle.dx_cache.proofs.Places.{absent_place}
use Rattle.dx_cache.proofs.Tying.{no_tag, heir_of}
use Rattle.dx_cache.proofs.Steps.{at_slot, here_within, here_chain, here_apart, entry_here, entry_form, removed_sound, tag_at, tag_place, vacant_kept, left_kept, here_vacant_out, drops_at, sound_bounded}
use Rattle.dx_cache.proofs.cache.Cache.take.Goals as goal

one_site : (names : List (Option (List ℕ))) (i : ℕ) (x y : List ℕ) → slice_get names i ≡ Some (Some x) → slice_get names i ≡ Some (Some y) → x ≡ y
one_site names i x y h k = let e : Some (Some x) ≡ Some (Some y) = sym h ∙ k in cc

pub lift-requires : goal.lift-requires
lift-requires c =
    let i = c.in-Some.i in
    let h = c.self.invariant.tied.tagged c.args.tag i (sym c.in-Some.ensures.value) in
    let a = at_slot _ _ _ _ _ _ _ _ _ _ c.self.invariant.tied i h.is_in in
    let w = within c.self.inside.slots.items i (Some a.full.body) a.full.at in
    omega (arith, w)

pub unreachable-requires : goal.unreachable-requires
unreachable-requires c =
    let none : lookup (nat_eq c.args.tag) c.self.inside.tags.entries ≡ None = sym c.in-None.ensures.value in
    let absent = no_tag _ _ _ _ _ _ _ _ _ _ c.self.invariant.tied c.args.tag none in
    let r = c.requires.found in
    absent_place c.args.tag _ absent r.0 (ap (λ (x : Cached). place (has_tag c.args.tag) x.entries) c.self.view_is ∙ r.1)

pub unreachable-requires-in-None-lift : goal.unreachable-requires-in-None-lift
unreachable-requires-in-None-lift c =
    let i = c.in-Some.i in
    let h = c.self.invariant.tied.tagged c.args.tag i (sym c.in-Some.ensures.value) in
    let a = at_slot _ _ _ _ _ _ _ _ _ _ c.self.invariant.tied i h.is_in in
    let no : Some (Some a.full.body) ≡ Some None = sym a.full.at ∙ c.in-None-lift.ensures.was in
    cc

pub overflow_sub-self : goal.overflow_sub-self
overflow_sub-self c =
    let i = c.in-Some.i in
    let h = c.self.invariant.tied.tagged c.args.tag i (sym c.in-Some.ensures.value) in
    let a = at_slot _ _ _ _ _ _ _ _ _ _ c.self.invariant.tied i h.is_in in
    let two : Some (Some a.full.body) ≡ Some (Some c.in-Some-lift.body) = sym a.full.at ∙ c.in-Some-lift.ensures.was in
    let same : a.full.body ≡ c.in-Some-lift.body = cc in
    let sum = total-remove _ (length a.left) _ (entry_here _ _ _ _ _ _ _ _ _ _ _ a) in
    let size = ap (λ (x : Entry). x.size) (entry_form _ _ _ _ _ _ _ _ _ _ _ a) in
    let own = ap (λ (x : Body). x.size) same in
    let used = c.self.invariant.used_is in
    omega (arith, sum, size, own, used)

pub take_out-requires : goal.take_out-requires
take_out-requires c =
    let i = c.in-Some.i in
    let h = c.self.invariant.tied.tagged c.args.tag i (sym c.in-Some.ensures.value) in
    let a = at_slot _ _ _ _ _ _ _ _ _ _ c.self.invariant.tied i h.is_in in
    record { chain = (a.left, a.right, a.tied.chain, a.tied.apart) }

pub put_last-requires-clause-within : goal.put_last-requires-clause-within
put_last-requires-clause-within c =
    let i = c.in-Some.i in
    let h = c.self.invariant.tied.tagged c.args.tag i (sym c.in-Some.ensures.value) in
    let a = at_slot _ _ _ _ _ _ _ _ _ _ c.self.invariant.tied i h.is_in in
    let l = c.take_out.ensures.len in
    let w = here_within _ _ _ _ _ _ _ _ _ _ _ a in
    omega (arith, l, w)

pub put_last-requires-clause-chain : goal.put_last-requires-clause-chain
put_last-requires-clause-chain c =
    let i = c.in-Some.i in
    let h = c.self.invariant.tied.tagged c.args.tag i (sym c.in-Some.ensures.value) in
    let a = at_slot _ _ _ _ _ _ _ _ _ _ c.self.invariant.tied i h.is_in in
    let vk = vacant_kept _ _ _ _ _ _ _ _ a.left a.right _ i a.tied c.take_out.new.links.items (λ j o. c.take_out.ensures.others a.left a.right j a.tied.chain a.tied.apart o) in
    ((order_in c.self.inside.links.items c.self.inside.slots.items c.self.inside.free), vk)

pub ends_at-ends-requires : goal.ends_at-ends-requires
ends_at-ends-requires c =
    let i = c.in-Some.i in
    let h = c.self.invariant.tied.tagged c.args.tag i (sym c.in-Some.ensures.value) in
    let a = at_slot _ _ _ _ _ _ _ _ _ _ c.self.invariant.tied i h.is_in in
    record { named = (a.full.site, a.full.name) }

pub take_out-requires-in-Some-lift : goal.take_out-requires-in-Some-lift
take_out-requires-in-Some-lift c =
    let i = c.in-Some.i in
    let h = c.self.invariant.tied.tagged c.args.tag i (sym c.in-Some.ensures.value) in
    let a = at_slot _ _ _ _ _ _ _ _ _ _ c.self.invariant.tied i h.is_in in
    let l = c.ends_at-ends.ensures.ends a.full.site a.full.name in
    let hc = here_chain _ _ _ _ _ _ _ _ _ _ _ a c.ends_at-ends.result l in
    let ha = here_apart _ _ _ _ _ _ _ _ _ _ _ a in
    record { chain = (slots_of a.full.site c.self.inside.names.names a.left, slots_of a.full.site c.self.inside.names.names a.right, hc, ha) }

pub set_ends-requires : goal.set_ends-requires
set_ends-requires c =
    let i = c.in-Some.i in
    let h = c.self.invariant.tied.tagged c.args.tag i (sym c.in-Some.ensures.value) in
    let a = at_slot _ _ _ _ _ _ _ _ _ _ c.self.invariant.tied i h.is_in in
    record { named = (a.full.site, a.full.name) }

pub take-site-requires-clause-named : goal.take-site-requires-clause-named
take-site-requires-clause-named c =
    let i = c.in-Some.i in
    let h = c.self.invariant.tied.tagged c.args.tag i (sym c.in-Some.ensures.value) in
    let a = at_slot _ _ _ _ _ _ _ _ _ _ c.self.invariant.tied i h.is_in in
    let named = ap (λ ns. slice_get ns i) c.set_ends.ensures.names ∙ a.full.name in
    (a.full.site, named)

pub take-site-requires-clause-heir : goal.take-site-requires-clause-heir
take-site-requires-clause-heir c =
    let i = c.in-Some.i in
    let h = c.self.invariant.tied.tagged c.args.tag i (sym c.in-Some.ensures.value) in
    let a = at_slot _ _ _ _ _ _ _ _ _ _ c.self.invariant.tied i h.is_in in
    let l = c.ends_at-ends.ensures.ends a.full.site a.full.name in
    let hc = here_chain _ _ _ _ _ _ _ _ _ _ _ a c.ends_at-ends.result l in
    let ha = here_apart _ _ _ _ _ _ _ _ _ _ _ a in
    let chain2 = c.take_out-in-Some-lift.ensures.chain (slots_of a.full.site c.self.inside.names.names a.left) (slots_of a.full.site c.self.inside.names.names a.right) hc ha in
    subst (λ ns. HasHeir ns i c.take_out-in-Some-lift.new.ends.first) (sym c.set_ends.ensures.names) (heir_of _ _ _ _ _ _ _ _ a.left a.right _ i a.tied _ c.take_out-in-Some-lift.new.ends a.full.site a.full.name chain2)

pub invariant_of-self : goal.invariant_of-self
invariant_of-self c =
    let i = c.in-Some.i in
    let h = c.self.invariant.tied.tagged c.args.tag i (sym c.in-Some.ensures.value) in
    let a = at_slot _ _ _ _ _ _ _ _ _ _ c.self.invariant.tied i h.is_in in
    let two : Some (Some a.full.body) ≡ Some (Some c.in-Some-lift.body) = sym a.full.at ∙ c.in-Some-lift.ensures.was in
    let same : a.full.body ≡ c.in-Some-lift.body = cc in
    let sum = total-remove _ (length a.left) _ (entry_here _ _ _ _ _ _ _ _ _ _ _ a) in
    let size = ap (λ (x : Entry). x.size) (entry_form _ _ _ _ _ _ _ _ _ _ _ a) in
    let own = ap (λ (x : Body). x.size) same in
    let used = c.self.invariant.used_is in
    let l = c.ends_at-ends.ensures.ends a.full.site a.full.name in
    let hc = here_chain _ _ _ _ _ _ _ _ _ _ _ a c.ends_at-ends.result l in
    let ha = here_apart _ _ _ _ _ _ _ _ _ _ _ a in
    let vk = vacant_kept _ _ _ _ _ _ _ _ a.left a.right _ i a.tied c.take_out.new.links.items (λ j o. c.take_out.ensures.others a.left a.right j a.tied.chain a.tied.apart o) in
    let named = ap (λ ns. slice_get ns i) c.set_ends.ensures.names ∙ a.full.name in
    let chain2 = c.take_out-in-Some-lift.ensures.chain (slots_of a.full.site c.self.inside.names.names a.left) (slots_of a.full.site c.self.inside.names.names a.right) hc ha in
    let chain1 = c.take_out.ensures.chain a.left a.right a.tied.chain a.tied.apart in
    let m = removed_sound _ _ (c.self.inside.used - c.in-Some-lift.body.size) _ c.lift.new.slots.items _ c.take-site.new.self.names _ c.take-site.new.self.ends _ c.put_last.new.links.items _ c.take_out-in-Some-lift.new.links.items _ c.take_out.new.ends _ c.put_last.new.ends c.take_out-in-Some-lift.new.ends _ c.swap_remove.new.self.entries i c.self.invariant a (omega (arith, sum, size, own, used))
    c.lift.ensures.slots (c.take-site.ensures.names ∙ ap (λ ns. slice_set ns i None) c.set_ends.ensures.names)
    (subst (λ u. (q : ℕ) → lookup (nat_eq q) c.swap_remove.new.self.entries ≡ cond (nat_eq u q) None (lookup (nat_eq q) c.self.inside.tags.entries)) (sym (tag_at _ _ _ _ _ _ h a.full)) c.swap_remove.ensures.updates.0) c.in-Some.ensures.len
    (left_kept _ _ _ _ _ _ _ _ a.left a.right _ i a.tied _ _ _ (λ j d o. c.put_last.ensures.others (order_in c.self.inside.links.items c.self.inside.slots.items c.self.inside.free) j vk d o) chain1)
    (c.put_last.ensures.chain (order_in c.self.inside.links.items c.self.inside.slots.items c.self.inside.free) vk c.self.invariant.tied.free_apart (here_vacant_out _ _ _ _ _ _ _ _ a.left a.right _ i a.tied))
    (c.put_last.ensures.len ∙ c.take_out.ensures.len)
    chain2
    (λ j o. c.take_out-in-Some-lift.ensures.others (slots_of a.full.site c.self.inside.names.names a.left) (slots_of a.full.site c.self.inside.names.names a.right) j hc ha (subst (IsOut j) (site_split _ _ _ _ _ _ _ _ a.left a.right _ i a.tied a.full.site a.full.name) o))
    c.take_out-in-Some-lift.ensures.len
    (λ other. c.take-site.ensures.ends a.full.site other named ∙ ap (taken_ends c.take_out-in-Some-lift.new.ends.first a.full.site other) (c.set_ends.ensures.ends a.full.site other a.full.name)) in
    m.sound

pub returns-clause-drops : goal.returns-clause-drops
returns-clause-drops c =
    let i = c.in-Some.i in
    let h = c.self.invariant.tied.tagged c.args.tag i (sym c.in-Some.ensures.value) in
    let a = at_slot _ _ _ _ _ _ _ _ _ _ c.self.invariant.tied i h.is_in in
    let two : Some (Some a.full.body) ≡ Some (Some c.in-Some-lift.body) = sym a.full.at ∙ c.in-Some-lift.ensures.was in
    let same : a.full.body ≡ c.in-Some-lift.body = cc in
    let sum = total-remove _ (length a.left) _ (entry_here _ _ _ _ _ _ _ _ _ _ _ a) in
    let size = ap (λ (x : Entry). x.size) (entry_form _ _ _ _ _ _ _ _ _ _ _ a) in
    let own = ap (λ (x : Body). x.size) same in
    let used = c.self.invariant.used_is in
    let l = c.ends_at-ends.ensures.ends a.full.site a.full.name in
    let hc = here_chain _ _ _ _ _ _ _ _ _ _ _ a c.ends_at-ends.result l in
    let ha = here_apart _ _ _ _ _ _ _ _ _ _ _ a in
    let vk = vacant_kept _ _ _ _ _ _ _ _ a.left a.right _ i a.tied c.take_out.new.links.items (λ j o. c.take_out.ensures.others a.left a.right j a.tied.chain a.tied.apart o) in
    let named = ap (λ ns. slice_get ns i) c.set_ends.ensures.names ∙ a.full.name in
    let chain2 = c.take_out-in-Some-lift.ensures.chain (slots_of a.full.site c.self.inside.names.names a.left) (slots_of a.full.site c.self.inside.names.names a.right) hc ha in
    let chain1 = c.take_out.ensures.chain a.left a.right a.tied.chain a.tied.apart in
    let m = removed_sound _ _ (c.self.inside.used - c.in-Some-lift.body.size) _ c.lift.new.slots.items _ c.take-site.new.self.names _ c.take-site.new.self.ends _ c.put_last.new.links.items _ c.take_out-in-Some-lift.new.links.items _ c.take_out.new.ends _ c.put_last.new.ends c.take_out-in-Some-lift.new.ends _ c.swap_remove.new.self.entries i c.self.invariant a (omega (arith, sum, size, own, used))
    c.lift.ensures.slots (c.take-site.ensures.names ∙ ap (λ ns. slice_set ns i None) c.set_ends.ensures.names)
    (subst (λ u. (q : ℕ) → lookup (nat_eq q) c.swap_remove.new.self.entries ≡ cond (nat_eq u q) None (lookup (nat_eq q) c.self.inside.tags.entries)) (sym (tag_at _ _ _ _ _ _ h a.full)) c.swap_remove.ensures.updates.0) c.in-Some.ensures.len
    (left_kept _ _ _ _ _ _ _ _ a.left a.right _ i a.tied _ _ _ (λ j d o. c.put_last.ensures.others (order_in c.self.inside.links.items c.self.inside.slots.items c.self.inside.free) j vk d o) chain1)
    (c.put_last.ensures.chain (order_in c.self.inside.links.items c.self.inside.slots.items c.self.inside.free) vk c.self.invariant.tied.free_apart (here_vacant_out _ _ _ _ _ _ _ _ a.left a.right _ i a.tied))
    (c.put_last.ensures.len ∙ c.take_out.ensures.len)
    chain2
    (λ j o. c.take_out-in-Some-lift.ensures.others (slots_of a.full.site c.self.inside.names.names a.left) (slots_of a.full.site c.self.inside.names.names a.right) j hc ha (subst (IsOut j) (site_split _ _ _ _ _ _ _ _ a.left a.right _ i a.tied a.full.site a.full.name) o))
    c.take_out-in-Some-lift.ensures.len
    (λ other. c.take-site.ensures.ends a.full.site other named ∙ ap (taken_ends c.take_out-in-Some-lift.new.ends.first a.full.site other) (c.set_ends.ensures.ends a.full.site other a.full.name)) in
    let site_is = one_site c.set_ends.new.self.names i a.full.site c.take-site.result named c.take-site.ensures.site in
    let r = ap (λ (x : Cached). x.room) c.self.view_is in
    let v = m.vacant in
    let t = c.swap_remove.ensures.room.0 in
    let k = c.set_ends.ensures.room in
    let z = c.take-site.ensures.room in
    drops_at _ (length a.left) _ _ _ (ap (λ (x : Cached). place (has_tag c.args.tag) x.entries) (sym c.self.view_is) ∙ tag_place _ _ _ _ _ _ _ _ _ _ _ a c.args.tag c.self.invariant.kept (tag_at _ _ _ _ _ _ h a.full)) (
      sym (ap (λ (x : Cached). slice_get x.entries (length a.left)) (sym c.self.view_is) ∙ entry_here _ _ _ _ _ _ _ _ _ _ _ a ∙ ap Some (entry_form _ _ _ _ _ _ _ _ _ _ _ a ∙ ap₂ (λ b s. entry_of b s) same site_is)),
      m.entries ∙ ap (λ (x : Cached). remove x.entries (length a.left)) c.self.view_is,
      ap (λ (x : Cached). x.budget) c.self.view_is,
      omega (arith, r, v, t, k, z),
    )

pub returns-clause-sound : goal.returns-clause-sound
returns-clause-sound c =
    let i = c.in-Some.i in
    let h = c.self.invariant.tied.tagged c.args.tag i (sym c.in-Some.ensures.value) in
    let a = at_slot _ _ _ _ _ _ _ _ _ _ c.self.invariant.tied i h.is_in in
    let two : Some (Some a.full.body) ≡ Some (Some c.in-Some-lift.body) = sym a.full.at ∙ c.in-Some-lift.ensures.was in
    let same : a.full.body ≡ c.in-Some-lift.body = cc in
    let sum = total-remove _ (length a.left) _ (entry_here _ _ _ _ _ _ _ _ _ _ _ a) in
    let size = ap (λ (x : Entry). x.size) (entry_form _ _ _ _ _ _ _ _ _ _ _ a) in
    let own = ap (λ (x : Body). x.size) same in
    let used = c.self.invariant.used_is in
    let l = c.ends_at-ends.ensures.ends a.full.site a.full.name in
    let hc = here_chain _ _ _ _ _ _ _ _ _ _ _ a c.ends_at-ends.result l in
    let ha = here_apart _ _ _ _ _ _ _ _ _ _ _ a in
    let vk = vacant_kept _ _ _ _ _ _ _ _ a.left a.right _ i a.tied c.take_out.new.links.items (λ j o. c.take_out.ensures.others a.left a.right j a.tied.chain a.tied.apart o) in
    let named = ap (λ ns. slice_get ns i) c.set_ends.ensures.names ∙ a.full.name in
    let chain2 = c.take_out-in-Some-lift.ensures.chain (slots_of a.full.site c.self.inside.names.names a.left) (slots_of a.full.site c.self.inside.names.names a.right) hc ha in
    let chain1 = c.take_out.ensures.chain a.left a.right a.tied.chain a.tied.apart in
    let m = removed_sound _ _ (c.self.inside.used - c.in-Some-lift.body.size) _ c.lift.new.slots.items _ c.take-site.new.self.names _ c.take-site.new.self.ends _ c.put_last.new.links.items _ c.take_out-in-Some-lift.new.links.items _ c.take_out.new.ends _ c.put_last.new.ends c.take_out-in-Some-lift.new.ends _ c.swap_remove.new.self.entries i c.self.invariant a (omega (arith, sum, size, own, used))
    c.lift.ensures.slots (c.take-site.ensures.names ∙ ap (λ ns. slice_set ns i None) c.set_ends.ensures.names)
    (subst (λ u. (q : ℕ) → lookup (nat_eq q) c.swap_remove.new.self.entries ≡ cond (nat_eq u q) None (lookup (nat_eq q) c.self.inside.tags.entries)) (sym (tag_at _ _ _ _ _ _ h a.full)) c.swap_remove.ensures.updates.0) c.in-Some.ensures.len
    (left_kept _ _ _ _ _ _ _ _ a.left a.right _ i a.tied _ _ _ (λ j d o. c.put_last.ensures.others (order_in c.self.inside.links.items c.self.inside.slots.items c.self.inside.free) j vk d o) chain1)
    (c.put_last.ensures.chain (order_in c.self.inside.links.items c.self.inside.slots.items c.self.inside.free) vk c.self.invariant.tied.free_apart (here_vacant_out _ _ _ _ _ _ _ _ a.left a.right _ i a.tied))
    (c.put_last.ensures.len ∙ c.take_out.ensures.len)
    chain2
    (λ j o. c.take_out-in-Some-lift.ensures.others (slots_of a.full.site c.self.inside.names.names a.left) (slots_of a.full.site c.self.inside.names.names a.right) j hc ha (subst (IsOut j) (site_split _ _ _ _ _ _ _ _ a.left a.right _ i a.tied a.full.site a.full.name) o))
    c.take_out-in-Some-lift.ensures.len
    (λ other. c.take-site.ensures.ends a.full.site other named ∙ ap (taken_ends c.take_out-in-Some-lift.new.ends.first a.full.site other) (c.set_ends.ensures.ends a.full.site other a.full.name)) in
    sound_bounded _ _ _ _ _ _ _ _ _ _ _ m.sound
