use Rattle.std.proofs.Common.{◌≡◌, ◌∙◌, ◌++◌, length, sym, ap, subst, Some, None, arith, is_some}
use Rattle.std.specs.Prelude.{nat_eq}
use Rattle.std.specs.Map.{lookup}
use Rattle.dx_cache.specs.Cached.{Cached, find, moved}
use Rattle.dx_cache.specs.Sound.{IsBounded}
use Rattle.dx_cache.specs.Tied.{slots_of}
use Rattle.dx_cache.proofs.Places.{none_moved}
use Rattle.dx_cache.proofs.Tying.{no_tag}
use Rattle.dx_cache.proofs.Steps.{at_slot, here_within, here_own_within, here_chain, here_apart, others_apart, here_out, all_out, all_apart, kept_own, moved_sound, tag_at, both_steps, sound_bounded}
use Rattle.dx_cache.proofs.cache.Cache.get.Goals as goal

pub take_out-requires : goal.take_out-requires
take_out-requires c =
    let i = c.in-Some.field-0.now in
    let found : lookup (nat_eq c.args.tag) c.self.inside.tags.entries ≡ Some c.in-Some.field-0.now = sym c.in-Some.ensures.value in
    let h = c.self.invariant.tied.tagged c.args.tag i found in
    let a = at_slot _ _ _ _ _ _ _ _ _ _ c.self.invariant.tied i h.is_in in
    record { chain = (a.left, a.right, a.tied.chain, a.tied.apart) }

pub put_last-requires-clause-within : goal.put_last-requires-clause-within
put_last-requires-clause-within c =
    let i = c.in-Some.field-0.now in
    let found : lookup (nat_eq c.args.tag) c.self.inside.tags.entries ≡ Some c.in-Some.field-0.now = sym c.in-Some.ensures.value in
    let h = c.self.invariant.tied.tagged c.args.tag i found in
    let a = at_slot _ _ _ _ _ _ _ _ _ _ c.self.invariant.tied i h.is_in in
    let l = c.take_out.ensures.len in
    let w = here_within _ _ _ _ _ _ _ _ _ _ _ a in
    omega (arith, l, w)

pub put_last-requires-clause-chain : goal.put_last-requires-clause-chain
put_last-requires-clause-chain c =
    let i = c.in-Some.field-0.now in
    let found : lookup (nat_eq c.args.tag) c.self.inside.tags.entries ≡ Some c.in-Some.field-0.now = sym c.in-Some.ensures.value in
    let h = c.self.invariant.tied.tagged c.args.tag i found in
    let a = at_slot _ _ _ _ _ _ _ _ _ _ c.self.invariant.tied i h.is_in in
    (a.left ++ a.right, c.take_out.ensures.chain a.left a.right a.tied.chain a.tied.apart)

pub ends_at-ends-requires : goal.ends_at-ends-requires
ends_at-ends-requires c =
    let i = c.in-Some.field-0.now in
    let found : lookup (nat_eq c.args.tag) c.self.inside.tags.entries ≡ Some c.in-Some.field-0.now = sym c.in-Some.ensures.value in
    let h = c.self.invariant.tied.tagged c.args.tag i found in
    let a = at_slot _ _ _ _ _ _ _ _ _ _ c.self.invariant.tied i h.is_in in
    record { named = (a.full.site, a.full.name) }

pub take_out-requires-in-Some : goal.take_out-requires-in-Some
take_out-requires-in-Some c =
    let i = c.in-Some.field-0.now in
    let found : lookup (nat_eq c.args.tag) c.self.inside.tags.entries ≡ Some c.in-Some.field-0.now = sym c.in-Some.ensures.value in
    let h = c.self.invariant.tied.tagged c.args.tag i found in
    let a = at_slot _ _ _ _ _ _ _ _ _ _ c.self.invariant.tied i h.is_in in
    let l = c.ends_at-ends.ensures.ends a.full.site a.full.name in
    let hc = here_chain _ _ _ _ _ _ _ _ _ _ _ a c.ends_at-ends.result l in
    let ha = here_apart _ _ _ _ _ _ _ _ _ _ _ a in
    record { chain = (slots_of a.full.site c.self.inside.names.names a.left, slots_of a.full.site c.self.inside.names.names a.right, hc, ha) }

pub put_last-requires-in-Some-clause-within : goal.put_last-requires-in-Some-clause-within
put_last-requires-in-Some-clause-within c =
    let i = c.in-Some.field-0.now in
    let found : lookup (nat_eq c.args.tag) c.self.inside.tags.entries ≡ Some c.in-Some.field-0.now = sym c.in-Some.ensures.value in
    let h = c.self.invariant.tied.tagged c.args.tag i found in
    let a = at_slot _ _ _ _ _ _ _ _ _ _ c.self.invariant.tied i h.is_in in
    let l = c.take_out-in-Some.ensures.len in
    let w = here_own_within _ _ _ _ _ _ _ _ _ _ _ a in
    omega (arith, l, w)

pub put_last-requires-in-Some-clause-chain : goal.put_last-requires-in-Some-clause-chain
put_last-requires-in-Some-clause-chain c =
    let i = c.in-Some.field-0.now in
    let found : lookup (nat_eq c.args.tag) c.self.inside.tags.entries ≡ Some c.in-Some.field-0.now = sym c.in-Some.ensures.value in
    let h = c.self.invariant.tied.tagged c.args.tag i found in
    let a = at_slot _ _ _ _ _ _ _ _ _ _ c.self.invariant.tied i h.is_in in
    let l = c.ends_at-ends.ensures.ends a.full.site a.full.name in
    let hc = here_chain _ _ _ _ _ _ _ _ _ _ _ a c.ends_at-ends.result l in
    let ha = here_apart _ _ _ _ _ _ _ _ _ _ _ a in
    (slots_of a.full.site c.self.inside.names.names a.left ++ slots_of a.full.site c.self.inside.names.names a.right, c.take_out-in-Some.ensures.chain (slots_of a.full.site c.self.inside.names.names a.left) (slots_of a.full.site c.self.inside.names.names a.right) hc ha)

pub set_ends-requires : goal.set_ends-requires
set_ends-requires c =
    let i = c.in-Some.field-0.now in
    let found : lookup (nat_eq c.args.tag) c.self.inside.tags.entries ≡ Some c.in-Some.field-0.now = sym c.in-Some.ensures.value in
    let h = c.self.invariant.tied.tagged c.args.tag i found in
    let a = at_slot _ _ _ _ _ _ _ _ _ _ c.self.invariant.tied i h.is_in in
    record { named = (a.full.site, a.full.name) }

pub invariant_of-self : goal.invariant_of-self
invariant_of-self c =
    let i = c.in-Some.field-0.now in
    let found : lookup (nat_eq c.args.tag) c.self.inside.tags.entries ≡ Some c.in-Some.field-0.now = sym c.in-Some.ensures.value in
    let h = c.self.invariant.tied.tagged c.args.tag i found in
    let a = at_slot _ _ _ _ _ _ _ _ _ _ c.self.invariant.tied i h.is_in in
    let l = c.ends_at-ends.ensures.ends a.full.site a.full.name in
    let hc = here_chain _ _ _ _ _ _ _ _ _ _ _ a c.ends_at-ends.result l in
    let ha = here_apart _ _ _ _ _ _ _ _ _ _ _ a in
    let chain1 = c.take_out.ensures.chain a.left a.right a.tied.chain a.tied.apart in
    let chain2 = c.take_out-in-Some.ensures.chain (slots_of a.full.site c.self.inside.names.names a.left) (slots_of a.full.site c.self.inside.names.names a.right) hc ha in
    let m = moved_sound _ _ c.args.tag _ _ c.set_ends.new.self.names _ c.set_ends.new.self.ends _ c.put_last.new.links.items _ c.put_last-in-Some.new.links.items _ c.put_last.new.ends _ c.put_last-in-Some.new.ends _ i c.self.invariant a (tag_at _ _ _ _ _ _ h a.full)
    (c.put_last.ensures.chain (a.left ++ a.right) chain1 (all_apart _ _ _ _ _ _ _ _ _ _ _ a) (all_out _ _ _ _ _ _ _ _ _ _ _ a))
    (both_steps _ _ _ a.left a.right i (λ j o. c.take_out.ensures.others a.left a.right j a.tied.chain a.tied.apart o) (λ j n o. c.put_last.ensures.others (a.left ++ a.right) j chain1 n o))
    (c.put_last.ensures.len ∙ c.take_out.ensures.len)
    (c.put_last-in-Some.ensures.chain (slots_of a.full.site c.self.inside.names.names a.left ++ slots_of a.full.site c.self.inside.names.names a.right) chain2 (others_apart _ _ _ _ _ _ _ _ _ _ _ a) (here_out _ _ _ _ _ _ _ _ _ _ _ a))
    (kept_own _ _ _ _ _ _ _ _ _ _ _ a _ _ (λ j o. c.take_out-in-Some.ensures.others (slots_of a.full.site c.self.inside.names.names a.left) (slots_of a.full.site c.self.inside.names.names a.right) j hc ha o) (λ j n o. c.put_last-in-Some.ensures.others (slots_of a.full.site c.self.inside.names.names a.left ++ slots_of a.full.site c.self.inside.names.names a.right) j chain2 n o))
    (c.put_last-in-Some.ensures.len ∙ c.take_out-in-Some.ensures.len)
    c.set_ends.ensures.names (λ other. c.set_ends.ensures.ends a.full.site other a.full.name) in
    m.sound

pub returns-in-None-clause-found : goal.returns-in-None-clause-found
returns-in-None-clause-found c =
    let none : lookup (nat_eq c.args.tag) c.self.inside.tags.entries ≡ None = sym c.in-None.ensures.value in
    let absent = no_tag _ _ _ _ _ _ _ _ _ _ c.self.invariant.tied c.args.tag none in
    sym (ap is_some absent) ∙ ap (λ (x : Cached). is_some (find c.args.tag x.entries)) c.self.view_is

pub returns-in-None-clause-entries : goal.returns-in-None-clause-entries
returns-in-None-clause-entries c =
    let none : lookup (nat_eq c.args.tag) c.self.inside.tags.entries ≡ None = sym c.in-None.ensures.value in
    let absent = no_tag _ _ _ _ _ _ _ _ _ _ c.self.invariant.tied c.args.tag none in
    ap (λ (x : Cached). x.entries) (sym c.self.view_is) ∙ sym (none_moved c.args.tag _ absent) ∙ ap (λ (x : Cached). moved c.args.tag x.entries) c.self.view_is

pub returns-in-Some-clause-found : goal.returns-in-Some-clause-found
returns-in-Some-clause-found c =
    let i = c.in-Some.field-0.now in
    let found : lookup (nat_eq c.args.tag) c.self.inside.tags.entries ≡ Some c.in-Some.field-0.now = sym c.in-Some.ensures.value in
    let h = c.self.invariant.tied.tagged c.args.tag i found in
    let a = at_slot _ _ _ _ _ _ _ _ _ _ c.self.invariant.tied i h.is_in in
    let l = c.ends_at-ends.ensures.ends a.full.site a.full.name in
    let hc = here_chain _ _ _ _ _ _ _ _ _ _ _ a c.ends_at-ends.result l in
    let ha = here_apart _ _ _ _ _ _ _ _ _ _ _ a in
    let chain1 = c.take_out.ensures.chain a.left a.right a.tied.chain a.tied.apart in
    let chain2 = c.take_out-in-Some.ensures.chain (slots_of a.full.site c.self.inside.names.names a.left) (slots_of a.full.site c.self.inside.names.names a.right) hc ha in
    let m = moved_sound _ _ c.args.tag _ _ c.set_ends.new.self.names _ c.set_ends.new.self.ends _ c.put_last.new.links.items _ c.put_last-in-Some.new.links.items _ c.put_last.new.ends _ c.put_last-in-Some.new.ends _ i c.self.invariant a (tag_at _ _ _ _ _ _ h a.full)
    (c.put_last.ensures.chain (a.left ++ a.right) chain1 (all_apart _ _ _ _ _ _ _ _ _ _ _ a) (all_out _ _ _ _ _ _ _ _ _ _ _ a))
    (both_steps _ _ _ a.left a.right i (λ j o. c.take_out.ensures.others a.left a.right j a.tied.chain a.tied.apart o) (λ j n o. c.put_last.ensures.others (a.left ++ a.right) j chain1 n o))
    (c.put_last.ensures.len ∙ c.take_out.ensures.len)
    (c.put_last-in-Some.ensures.chain (slots_of a.full.site c.self.inside.names.names a.left ++ slots_of a.full.site c.self.inside.names.names a.right) chain2 (others_apart _ _ _ _ _ _ _ _ _ _ _ a) (here_out _ _ _ _ _ _ _ _ _ _ _ a))
    (kept_own _ _ _ _ _ _ _ _ _ _ _ a _ _ (λ j o. c.take_out-in-Some.ensures.others (slots_of a.full.site c.self.inside.names.names a.left) (slots_of a.full.site c.self.inside.names.names a.right) j hc ha o) (λ j n o. c.put_last-in-Some.ensures.others (slots_of a.full.site c.self.inside.names.names a.left ++ slots_of a.full.site c.self.inside.names.names a.right) j chain2 n o))
    (c.put_last-in-Some.ensures.len ∙ c.take_out-in-Some.ensures.len)
    c.set_ends.ensures.names (λ other. c.set_ends.ensures.ends a.full.site other a.full.name) in
    sym m.found ∙ ap (λ (x : Cached). is_some (find c.args.tag x.entries)) c.self.view_is

pub returns-in-Some-clause-entries : goal.returns-in-Some-clause-entries
returns-in-Some-clause-entries c =
    let i = c.in-Some.field-0.now in
    let found : lookup (nat_eq c.args.tag) c.self.inside.tags.entries ≡ Some c.in-Some.field-0.now = sym c.in-Some.ensures.value in
    let h = c.self.invariant.tied.tagged c.args.tag i found in
    let a = at_slot _ _ _ _ _ _ _ _ _ _ c.self.invariant.tied i h.is_in in
    let l = c.ends_at-ends.ensures.ends a.full.site a.full.name in
    let hc = here_chain _ _ _ _ _ _ _ _ _ _ _ a c.ends_at-ends.result l in
    let ha = here_apart _ _ _ _ _ _ _ _ _ _ _ a in
    let chain1 = c.take_out.ensures.chain a.left a.right a.tied.chain a.tied.apart in
    let chain2 = c.take_out-in-Some.ensures.chain (slots_of a.full.site c.self.inside.names.names a.left) (slots_of a.full.site c.self.inside.names.names a.right) hc ha in
    let m = moved_sound _ _ c.args.tag _ _ c.set_ends.new.self.names _ c.set_ends.new.self.ends _ c.put_last.new.links.items _ c.put_last-in-Some.new.links.items _ c.put_last.new.ends _ c.put_last-in-Some.new.ends _ i c.self.invariant a (tag_at _ _ _ _ _ _ h a.full)
    (c.put_last.ensures.chain (a.left ++ a.right) chain1 (all_apart _ _ _ _ _ _ _ _ _ _ _ a) (all_out _ _ _ _ _ _ _ _ _ _ _ a))
    (both_steps _ _ _ a.left a.right i (λ j o. c.take_out.ensures.others a.left a.right j a.tied.chain a.tied.apart o) (λ j n o. c.put_last.ensures.others (a.left ++ a.right) j chain1 n o))
    (c.put_last.ensures.len ∙ c.take_out.ensures.len)
    (c.put_last-in-Some.ensures.chain (slots_of a.full.site c.self.inside.names.names a.left ++ slots_of a.full.site c.self.inside.names.names a.right) chain2 (others_apart _ _ _ _ _ _ _ _ _ _ _ a) (here_out _ _ _ _ _ _ _ _ _ _ _ a))
    (kept_own _ _ _ _ _ _ _ _ _ _ _ a _ _ (λ j o. c.take_out-in-Some.ensures.others (slots_of a.full.site c.self.inside.names.names a.left) (slots_of a.full.site c.self.inside.names.names a.right) j hc ha o) (λ j n o. c.put_last-in-Some.ensures.others (slots_of a.full.site c.self.inside.names.names a.left ++ slots_of a.full.site c.self.inside.names.names a.right) j chain2 n o))
    (c.put_last-in-Some.ensures.len ∙ c.take_out-in-Some.ensures.len)
    c.set_ends.ensures.names (λ other. c.set_ends.ensures.ends a.full.site other a.full.name) in
    m.entries ∙ ap (λ (x : Cached). moved c.args.tag x.entries) c.self.view_is

pub returns-in-Some-clause-room : goal.returns-in-Some-clause-room
returns-in-Some-clause-room c =
    let i = c.in-Some.field-0.now in
    let found : lookup (nat_eq c.args.tag) c.self.inside.tags.entries ≡ Some c.in-Some.field-0.now = sym c.in-Some.ensures.value in
    let h = c.self.invariant.tied.tagged c.args.tag i found in
    let a = at_slot _ _ _ _ _ _ _ _ _ _ c.self.invariant.tied i h.is_in in
    let l = c.ends_at-ends.ensures.ends a.full.site a.full.name in
    let hc = here_chain _ _ _ _ _ _ _ _ _ _ _ a c.ends_at-ends.result l in
    let ha = here_apart _ _ _ _ _ _ _ _ _ _ _ a in
    let chain1 = c.take_out.ensures.chain a.left a.right a.tied.chain a.tied.apart in
    let chain2 = c.take_out-in-Some.ensures.chain (slots_of a.full.site c.self.inside.names.names a.left) (slots_of a.full.site c.self.inside.names.names a.right) hc ha in
    let m = moved_sound _ _ c.args.tag _ _ c.set_ends.new.self.names _ c.set_ends.new.self.ends _ c.put_last.new.links.items _ c.put_last-in-Some.new.links.items _ c.put_last.new.ends _ c.put_last-in-Some.new.ends _ i c.self.invariant a (tag_at _ _ _ _ _ _ h a.full)
    (c.put_last.ensures.chain (a.left ++ a.right) chain1 (all_apart _ _ _ _ _ _ _ _ _ _ _ a) (all_out _ _ _ _ _ _ _ _ _ _ _ a))
    (both_steps _ _ _ a.left a.right i (λ j o. c.take_out.ensures.others a.left a.right j a.tied.chain a.tied.apart o) (λ j n o. c.put_last.ensures.others (a.left ++ a.right) j chain1 n o))
    (c.put_last.ensures.len ∙ c.take_out.ensures.len)
    (c.put_last-in-Some.ensures.chain (slots_of a.full.site c.self.inside.names.names a.left ++ slots_of a.full.site c.self.inside.names.names a.right) chain2 (others_apart _ _ _ _ _ _ _ _ _ _ _ a) (here_out _ _ _ _ _ _ _ _ _ _ _ a))
    (kept_own _ _ _ _ _ _ _ _ _ _ _ a _ _ (λ j o. c.take_out-in-Some.ensures.others (slots_of a.full.site c.self.inside.names.names a.left) (slots_of a.full.site c.self.inside.names.names a.right) j hc ha o) (λ j n o. c.put_last-in-Some.ensures.others (slots_of a.full.site c.self.inside.names.names a.left ++ slots_of a.full.site c.self.inside.names.names a.right) j chain2 n o))
    (c.put_last-in-Some.ensures.len ∙ c.take_out-in-Some.ensures.len)
    c.set_ends.ensures.names (λ other. c.set_ends.ensures.ends a.full.site other a.full.name) in
    let r = ap (λ (x : Cached). x.room) c.self.view_is in
    let v = ap length m.vacant in
    let n = c.set_ends.ensures.room in
    omega (arith, r, v, n)

pub returns-in-Some-clause-sound : goal.returns-in-Some-clause-sound
returns-in-Some-clause-sound c =
    let i = c.in-Some.field-0.now in
    let found : lookup (nat_eq c.args.tag) c.self.inside.tags.entries ≡ Some c.in-Some.field-0.now = sym c.in-Some.ensures.value in
    let h = c.self.invariant.tied.tagged c.args.tag i found in
    let a = at_slot _ _ _ _ _ _ _ _ _ _ c.self.invariant.tied i h.is_in in
    let l = c.ends_at-ends.ensures.ends a.full.site a.full.name in
    let hc = here_chain _ _ _ _ _ _ _ _ _ _ _ a c.ends_at-ends.result l in
    let ha = here_apart _ _ _ _ _ _ _ _ _ _ _ a in
    let chain1 = c.take_out.ensures.chain a.left a.right a.tied.chain a.tied.apart in
    let chain2 = c.take_out-in-Some.ensures.chain (slots_of a.full.site c.self.inside.names.names a.left) (slots_of a.full.site c.self.inside.names.names a.right) hc ha in
    let m = moved_sound _ _ c.args.tag _ _ c.set_ends.new.self.names _ c.set_ends.new.self.ends _ c.put_last.new.links.items _ c.put_last-in-Some.new.links.items _ c.put_last.new.ends _ c.put_last-in-Some.new.ends _ i c.self.invariant a (tag_at _ _ _ _ _ _ h a.full)
    (c.put_last.ensures.chain (a.left ++ a.right) chain1 (all_apart _ _ _ _ _ _ _ _ _ _ _ a) (all_out _ _ _ _ _ _ _ _ _ _ _ a))
    (both_steps _ _ _ a.left a.right i (λ j o. c.take_out.ensures.others a.left a.right j a.tied.chain a.tied.apart o) (λ j n o. c.put_last.ensures.others (a.left ++ a.right) j chain1 n o))
    (c.put_last.ensures.len ∙ c.take_out.ensures.len)
    (c.put_last-in-Some.ensures.chain (slots_of a.full.site c.self.inside.names.names a.left ++ slots_of a.full.site c.self.inside.names.names a.right) chain2 (others_apart _ _ _ _ _ _ _ _ _ _ _ a) (here_out _ _ _ _ _ _ _ _ _ _ _ a))
    (kept_own _ _ _ _ _ _ _ _ _ _ _ a _ _ (λ j o. c.take_out-in-Some.ensures.others (slots_of a.full.site c.self.inside.names.names a.left) (slots_of a.full.site c.self.inside.names.names a.right) j hc ha o) (λ j n o. c.put_last-in-Some.ensures.others (slots_of a.full.site c.self.inside.names.names a.left ++ slots_of a.full.site c.self.inside.names.names a.right) j chain2 n o))
    (c.put_last-in-Some.ensures.len ∙ c.take_out-in-Some.ensures.len)
    c.set_ends.ensures.names (λ other. c.set_ends.ensures.ends a.full.site other a.full.name) in
    sound_bounded _ _ _ _ _ _ _ _ _ _ _ m.sound

pub returns-in-None-clause-sound : goal.returns-in-None-clause-sound
returns-in-None-clause-sound c = subst IsBounded c.self.view_is (sound_bounded _ _ _ _ _ _ _ _ _ _ _ c.self.invariant)
