use Rattle.std.proofs.Common.{◌≡◌, ◌∙◌, ◌+◌, ℕ, [], ◌∷◌, ◌++◌, length, sym, ap, subst, Option, Some, None, refl, arith, is_some}
use Rattle.std.specs.Prelude.{bytes_eq, if◌then◌else◌}
use Rattle.std.specs.Map.{lookup}
use Rattle.dx_cache.specs.Chain.{IsChain}
use Rattle.dx_cache.specs.Named.{HasName, given_ends, or_no_ends}
use Rattle.dx_cache.specs.declared.slots.Body.{Body}
use Rattle.dx_cache.specs.Cached.{Cached, total, find}
use Rattle.dx_cache.specs.Tied.{slots_of, order_in}
use Rattle.dx_cache.proofs.Tying.{added_chain, site_now_apart, site_new_out, new_out}
use Rattle.dx_cache.proofs.Steps.{stored_sound, first_free, none_free, free_within, free_own_within, free_slot_within, order_kept, rest_kept, named_now, added_own, sound_bounded}
use Rattle.dx_cache.proofs.cache.Cache.store.Goals as goal

pub unreachable-requires : goal.unreachable-requires
unreachable-requires c =
    let none = none_free _ _ _ _ _ _ _ _ _ _ c.self.invariant.tied c.in-None.is in
    let r = ap (λ (x : Cached). x.room) c.self.view_is in
    let l = ap length none in
    let s = c.requires.spare in
    omega (arith, r, l, s)

pub take_out-requires : goal.take_out-requires
take_out-requires c =
    let i = c.in-Some.i in
    let f = first_free _ _ _ _ _ _ _ _ _ _ i c.self.invariant.tied c.in-Some.is in
    record { chain = ([], f.rest, f.tied.free_chain, f.tied.free_apart) }

pub put_last-requires-clause-within : goal.put_last-requires-clause-within
put_last-requires-clause-within c =
    let i = c.in-Some.i in
    let f = first_free _ _ _ _ _ _ _ _ _ _ i c.self.invariant.tied c.in-Some.is in
    let l = c.take_out.ensures.len in
    let w = free_within _ _ _ _ _ _ _ _ _ _ i f.tied in
    omega (arith, l, w)

pub put_last-requires-clause-chain : goal.put_last-requires-clause-chain
put_last-requires-clause-chain c =
    let i = c.in-Some.i in
    let f = first_free _ _ _ _ _ _ _ _ _ _ i c.self.invariant.tied c.in-Some.is in
    let chain1 = order_kept _ _ _ _ _ _ _ _ _ _ i f.tied _ (λ j o. c.take_out.ensures.others [] f.rest j f.tied.free_chain f.tied.free_apart o) in
    (order_in c.self.inside.links.items c.self.inside.slots.items c.self.inside.all, chain1)

pub ends_at-ends-requires : goal.ends_at-ends-requires
ends_at-ends-requires c =
    let i = c.in-Some.i in
    let f = first_free _ _ _ _ _ _ _ _ _ _ i c.self.invariant.tied c.in-Some.is in
    let site = c.args.entry.site in
    let named = subst (λ ns. HasName ns i site) (sym c.add.ensures.names) (named_now _ _ _ _ _ _ _ _ _ _ i f.tied site) in
    record { named = (site, named) }

pub put_last-requires-in-Some-clause-within : goal.put_last-requires-in-Some-clause-within
put_last-requires-in-Some-clause-within c =
    let i = c.in-Some.i in
    let f = first_free _ _ _ _ _ _ _ _ _ _ i c.self.invariant.tied c.in-Some.is in
    free_own_within _ _ _ _ _ _ _ _ _ _ i f.tied

pub put_last-requires-in-Some-clause-chain : goal.put_last-requires-in-Some-clause-chain
put_last-requires-in-Some-clause-chain c =
    let i = c.in-Some.i in
    let f = first_free _ _ _ _ _ _ _ _ _ _ i c.self.invariant.tied c.in-Some.is in
    let site = c.args.entry.site in
    let named = subst (λ ns. HasName ns i site) (sym c.add.ensures.names) (named_now _ _ _ _ _ _ _ _ _ _ i f.tied site) in
    let got : Some c.ends_at-ends.result ≡ Some (or_no_ends (lookup (bytes_eq site) c.self.inside.names.ends)) = sym (c.ends_at-ends.ensures.ends site named) ∙ c.add.ensures.ends site ∙ added_own site (lookup (bytes_eq site) c.self.inside.names.ends) in
    let is : c.ends_at-ends.result ≡ or_no_ends (lookup (bytes_eq site) c.self.inside.names.ends) = cc in
    let chain2 = subst (λ e. IsChain c.self.inside.own.items e (slots_of site c.self.inside.names.names (order_in c.self.inside.links.items c.self.inside.slots.items c.self.inside.all))) (sym is) (added_chain _ _ _ _ _ _ _ _ _ _ i f.tied site) in
    (slots_of site c.self.inside.names.names (order_in c.self.inside.links.items c.self.inside.slots.items c.self.inside.all), chain2)

pub set_ends-requires : goal.set_ends-requires
set_ends-requires c =
    let i = c.in-Some.i in
    let f = first_free _ _ _ _ _ _ _ _ _ _ i c.self.invariant.tied c.in-Some.is in
    let site = c.args.entry.site in
    let named = subst (λ ns. HasName ns i site) (sym c.add.ensures.names) (named_now _ _ _ _ _ _ _ _ _ _ i f.tied site) in
    record { named = (site, named) }

pub fill-requires : goal.fill-requires
fill-requires c =
    let i = c.in-Some.i in
    let f = first_free _ _ _ _ _ _ _ _ _ _ i c.self.invariant.tied c.in-Some.is in
    let w = free_slot_within _ _ _ _ _ _ _ _ _ _ i f.tied in
    omega (arith, w)

pub invariant_of-self : goal.invariant_of-self
invariant_of-self c =
    let i = c.in-Some.i in
    let f = first_free _ _ _ _ _ _ _ _ _ _ i c.self.invariant.tied c.in-Some.is in
    let site = c.args.entry.site in
    let named = subst (λ ns. HasName ns i site) (sym c.add.ensures.names) (named_now _ _ _ _ _ _ _ _ _ _ i f.tied site) in
    let got : Some c.ends_at-ends.result ≡ Some (or_no_ends (lookup (bytes_eq site) c.self.inside.names.ends)) = sym (c.ends_at-ends.ensures.ends site named) ∙ c.add.ensures.ends site ∙ added_own site (lookup (bytes_eq site) c.self.inside.names.ends) in
    let is : c.ends_at-ends.result ≡ or_no_ends (lookup (bytes_eq site) c.self.inside.names.ends) = cc in
    let chain1 = order_kept _ _ _ _ _ _ _ _ _ _ i f.tied _ (λ j o. c.take_out.ensures.others [] f.rest j f.tied.free_chain f.tied.free_apart o) in
    let chain2 = subst (λ e. IsChain c.self.inside.own.items e (slots_of site c.self.inside.names.names (order_in c.self.inside.links.items c.self.inside.slots.items c.self.inside.all))) (sym is) (added_chain _ _ _ _ _ _ _ _ _ _ i f.tied site) in
    let size = ap (λ (x : Cached). total x.entries) c.self.view_is in
    let budget = ap (λ (x : Cached). x.budget) c.self.view_is in
    let fits = c.requires.fits in
    let b : Body = record { tag = c.args.entry.tag; attribute = c.args.entry.attribute; size = c.args.entry.size; outs = c.args.entry.outs } in
    let m = stored_sound _ _ (c.self.inside.used + c.args.entry.size) _ c.fill.new.slots.items _ c.set_ends.new.self.names _ c.set_ends.new.self.ends _ c.put_last.new.links.items _ c.put_last-in-Some.new.links.items _ c.put_last.new.ends _ c.take_out.new.ends c.put_last-in-Some.new.ends _ c.insert.new.self.entries i f.rest b site c.self.invariant f.whole refl (omega (arith, fits, size, budget))
    (subst (λ es. find c.args.entry.tag es ≡ None) (ap (λ (x : Cached). x.entries) (sym c.self.view_is)) c.requires.absent) c.requires.kept c.fill.ensures (c.set_ends.ensures.names ∙ c.add.ensures.names) c.in-Ok.ensures.updates.0 (subst (λ (o : Option ℕ). length c.insert.new.self.entries ≡ length c.self.inside.tags.entries + (if is_some o then 0 else 1)) c.in-Ok.ensures.old c.in-Ok.ensures.len)
    (c.put_last.ensures.chain (order_in c.self.inside.links.items c.self.inside.slots.items c.self.inside.all) chain1 c.self.invariant.tied.apart (new_out _ _ _ _ _ _ _ _ _ _ i f.tied))
    (rest_kept _ _ _ _ _ _ _ _ _ _ i f.tied _ _ _ (λ j n o. c.put_last.ensures.others (order_in c.self.inside.links.items c.self.inside.slots.items c.self.inside.all) j chain1 n o) (c.take_out.ensures.chain [] f.rest f.tied.free_chain f.tied.free_apart))
    (c.put_last.ensures.len ∙ c.take_out.ensures.len)
    (c.put_last-in-Some.ensures.chain (slots_of site c.self.inside.names.names (order_in c.self.inside.links.items c.self.inside.slots.items c.self.inside.all)) chain2 (site_now_apart _ _ _ _ _ _ _ _ _ _ i f.tied site) (site_new_out _ _ _ _ _ _ _ _ _ _ i f.tied site))
    (λ j n o. c.put_last-in-Some.ensures.others (slots_of site c.self.inside.names.names (order_in c.self.inside.links.items c.self.inside.slots.items c.self.inside.all)) j chain2 n o)
    c.put_last-in-Some.ensures.len
    (λ other. c.set_ends.ensures.ends site other named ∙ ap (given_ends site c.put_last-in-Some.new.ends other) (c.add.ensures.ends other)) in
    m.sound

pub returns-clause-entries : goal.returns-clause-entries
returns-clause-entries c =
    let i = c.in-Some.i in
    let f = first_free _ _ _ _ _ _ _ _ _ _ i c.self.invariant.tied c.in-Some.is in
    let site = c.args.entry.site in
    let named = subst (λ ns. HasName ns i site) (sym c.add.ensures.names) (named_now _ _ _ _ _ _ _ _ _ _ i f.tied site) in
    let got : Some c.ends_at-ends.result ≡ Some (or_no_ends (lookup (bytes_eq site) c.self.inside.names.ends)) = sym (c.ends_at-ends.ensures.ends site named) ∙ c.add.ensures.ends site ∙ added_own site (lookup (bytes_eq site) c.self.inside.names.ends) in
    let is : c.ends_at-ends.result ≡ or_no_ends (lookup (bytes_eq site) c.self.inside.names.ends) = cc in
    let chain1 = order_kept _ _ _ _ _ _ _ _ _ _ i f.tied _ (λ j o. c.take_out.ensures.others [] f.rest j f.tied.free_chain f.tied.free_apart o) in
    let chain2 = subst (λ e. IsChain c.self.inside.own.items e (slots_of site c.self.inside.names.names (order_in c.self.inside.links.items c.self.inside.slots.items c.self.inside.all))) (sym is) (added_chain _ _ _ _ _ _ _ _ _ _ i f.tied site) in
    let size = ap (λ (x : Cached). total x.entries) c.self.view_is in
    let budget = ap (λ (x : Cached). x.budget) c.self.view_is in
    let fits = c.requires.fits in
    let b : Body = record { tag = c.args.entry.tag; attribute = c.args.entry.attribute; size = c.args.entry.size; outs = c.args.entry.outs } in
    let m = stored_sound _ _ (c.self.inside.used + c.args.entry.size) _ c.fill.new.slots.items _ c.set_ends.new.self.names _ c.set_ends.new.self.ends _ c.put_last.new.links.items _ c.put_last-in-Some.new.links.items _ c.put_last.new.ends _ c.take_out.new.ends c.put_last-in-Some.new.ends _ c.insert.new.self.entries i f.rest b site c.self.invariant f.whole refl (omega (arith, fits, size, budget))
    (subst (λ es. find c.args.entry.tag es ≡ None) (ap (λ (x : Cached). x.entries) (sym c.self.view_is)) c.requires.absent) c.requires.kept c.fill.ensures (c.set_ends.ensures.names ∙ c.add.ensures.names) c.in-Ok.ensures.updates.0 (subst (λ (o : Option ℕ). length c.insert.new.self.entries ≡ length c.self.inside.tags.entries + (if is_some o then 0 else 1)) c.in-Ok.ensures.old c.in-Ok.ensures.len)
    (c.put_last.ensures.chain (order_in c.self.inside.links.items c.self.inside.slots.items c.self.inside.all) chain1 c.self.invariant.tied.apart (new_out _ _ _ _ _ _ _ _ _ _ i f.tied))
    (rest_kept _ _ _ _ _ _ _ _ _ _ i f.tied _ _ _ (λ j n o. c.put_last.ensures.others (order_in c.self.inside.links.items c.self.inside.slots.items c.self.inside.all) j chain1 n o) (c.take_out.ensures.chain [] f.rest f.tied.free_chain f.tied.free_apart))
    (c.put_last.ensures.len ∙ c.take_out.ensures.len)
    (c.put_last-in-Some.ensures.chain (slots_of site c.self.inside.names.names (order_in c.self.inside.links.items c.self.inside.slots.items c.self.inside.all)) chain2 (site_now_apart _ _ _ _ _ _ _ _ _ _ i f.tied site) (site_new_out _ _ _ _ _ _ _ _ _ _ i f.tied site))
    (λ j n o. c.put_last-in-Some.ensures.others (slots_of site c.self.inside.names.names (order_in c.self.inside.links.items c.self.inside.slots.items c.self.inside.all)) j chain2 n o)
    c.put_last-in-Some.ensures.len
    (λ other. c.set_ends.ensures.ends site other named ∙ ap (given_ends site c.put_last-in-Some.new.ends other) (c.add.ensures.ends other)) in
    m.entries ∙ ap (λ (x : Cached). x.entries ++ c.args.entry ∷ []) c.self.view_is

pub returns-clause-room : goal.returns-clause-room
returns-clause-room c =
    let i = c.in-Some.i in
    let f = first_free _ _ _ _ _ _ _ _ _ _ i c.self.invariant.tied c.in-Some.is in
    let site = c.args.entry.site in
    let named = subst (λ ns. HasName ns i site) (sym c.add.ensures.names) (named_now _ _ _ _ _ _ _ _ _ _ i f.tied site) in
    let got : Some c.ends_at-ends.result ≡ Some (or_no_ends (lookup (bytes_eq site) c.self.inside.names.ends)) = sym (c.ends_at-ends.ensures.ends site named) ∙ c.add.ensures.ends site ∙ added_own site (lookup (bytes_eq site) c.self.inside.names.ends) in
    let is : c.ends_at-ends.result ≡ or_no_ends (lookup (bytes_eq site) c.self.inside.names.ends) = cc in
    let chain1 = order_kept _ _ _ _ _ _ _ _ _ _ i f.tied _ (λ j o. c.take_out.ensures.others [] f.rest j f.tied.free_chain f.tied.free_apart o) in
    let chain2 = subst (λ e. IsChain c.self.inside.own.items e (slots_of site c.self.inside.names.names (order_in c.self.inside.links.items c.self.inside.slots.items c.self.inside.all))) (sym is) (added_chain _ _ _ _ _ _ _ _ _ _ i f.tied site) in
    let size = ap (λ (x : Cached). total x.entries) c.self.view_is in
    let budget = ap (λ (x : Cached). x.budget) c.self.view_is in
    let fits = c.requires.fits in
    let b : Body = record { tag = c.args.entry.tag; attribute = c.args.entry.attribute; size = c.args.entry.size; outs = c.args.entry.outs } in
    let m = stored_sound _ _ (c.self.inside.used + c.args.entry.size) _ c.fill.new.slots.items _ c.set_ends.new.self.names _ c.set_ends.new.self.ends _ c.put_last.new.links.items _ c.put_last-in-Some.new.links.items _ c.put_last.new.ends _ c.take_out.new.ends c.put_last-in-Some.new.ends _ c.insert.new.self.entries i f.rest b site c.self.invariant f.whole refl (omega (arith, fits, size, budget))
    (subst (λ es. find c.args.entry.tag es ≡ None) (ap (λ (x : Cached). x.entries) (sym c.self.view_is)) c.requires.absent) c.requires.kept c.fill.ensures (c.set_ends.ensures.names ∙ c.add.ensures.names) c.in-Ok.ensures.updates.0 (subst (λ (o : Option ℕ). length c.insert.new.self.entries ≡ length c.self.inside.tags.entries + (if is_some o then 0 else 1)) c.in-Ok.ensures.old c.in-Ok.ensures.len)
    (c.put_last.ensures.chain (order_in c.self.inside.links.items c.self.inside.slots.items c.self.inside.all) chain1 c.self.invariant.tied.apart (new_out _ _ _ _ _ _ _ _ _ _ i f.tied))
    (rest_kept _ _ _ _ _ _ _ _ _ _ i f.tied _ _ _ (λ j n o. c.put_last.ensures.others (order_in c.self.inside.links.items c.self.inside.slots.items c.self.inside.all) j chain1 n o) (c.take_out.ensures.chain [] f.rest f.tied.free_chain f.tied.free_apart))
    (c.put_last.ensures.len ∙ c.take_out.ensures.len)
    (c.put_last-in-Some.ensures.chain (slots_of site c.self.inside.names.names (order_in c.self.inside.links.items c.self.inside.slots.items c.self.inside.all)) chain2 (site_now_apart _ _ _ _ _ _ _ _ _ _ i f.tied site) (site_new_out _ _ _ _ _ _ _ _ _ _ i f.tied site))
    (λ j n o. c.put_last-in-Some.ensures.others (slots_of site c.self.inside.names.names (order_in c.self.inside.links.items c.self.inside.slots.items c.self.inside.all)) j chain2 n o)
    c.put_last-in-Some.ensures.len
    (λ other. c.set_ends.ensures.ends site other named ∙ ap (given_ends site c.put_last-in-Some.new.ends other) (c.add.ensures.ends other)) in
    let r = ap (λ (x : Cached). x.room) c.self.view_is in
    let v = m.vacant in
    let t = c.in-Ok.ensures.spare in
    let n = c.add.ensures.room in
    let k = c.set_ends.ensures.room in
    omega (arith, r, v, t, n, k)

pub returns-clause-sound : goal.returns-clause-sound
returns-clause-sound c =
    let i = c.in-Some.i in
    let f = first_free _ _ _ _ _ _ _ _ _ _ i c.self.invariant.tied c.in-Some.is in
    let site = c.args.entry.site in
    let named = subst (λ ns. HasName ns i site) (sym c.add.ensures.names) (named_now _ _ _ _ _ _ _ _ _ _ i f.tied site) in
    let got : Some c.ends_at-ends.result ≡ Some (or_no_ends (lookup (bytes_eq site) c.self.inside.names.ends)) = sym (c.ends_at-ends.ensures.ends site named) ∙ c.add.ensures.ends site ∙ added_own site (lookup (bytes_eq site) c.self.inside.names.ends) in
    let is : c.ends_at-ends.result ≡ or_no_ends (lookup (bytes_eq site) c.self.inside.names.ends) = cc in
    let chain1 = order_kept _ _ _ _ _ _ _ _ _ _ i f.tied _ (λ j o. c.take_out.ensures.others [] f.rest j f.tied.free_chain f.tied.free_apart o) in
    let chain2 = subst (λ e. IsChain c.self.inside.own.items e (slots_of site c.self.inside.names.names (order_in c.self.inside.links.items c.self.inside.slots.items c.self.inside.all))) (sym is) (added_chain _ _ _ _ _ _ _ _ _ _ i f.tied site) in
    let size = ap (λ (x : Cached). total x.entries) c.self.view_is in
    let budget = ap (λ (x : Cached). x.budget) c.self.view_is in
    let fits = c.requires.fits in
    let b : Body = record { tag = c.args.entry.tag; attribute = c.args.entry.attribute; size = c.args.entry.size; outs = c.args.entry.outs } in
    let m = stored_sound _ _ (c.self.inside.used + c.args.entry.size) _ c.fill.new.slots.items _ c.set_ends.new.self.names _ c.set_ends.new.self.ends _ c.put_last.new.links.items _ c.put_last-in-Some.new.links.items _ c.put_last.new.ends _ c.take_out.new.ends c.put_last-in-Some.new.ends _ c.insert.new.self.entries i f.rest b site c.self.invariant f.whole refl (omega (arith, fits, size, budget))
    (subst (λ es. find c.args.entry.tag es ≡ None) (ap (λ (x : Cached). x.entries) (sym c.self.view_is)) c.requires.absent) c.requires.kept c.fill.ensures (c.set_ends.ensures.names ∙ c.add.ensures.names) c.in-Ok.ensures.updates.0 (subst (λ (o : Option ℕ). length c.insert.new.self.entries ≡ length c.self.inside.tags.entries + (if is_some o then 0 else 1)) c.in-Ok.ensures.old c.in-Ok.ensures.len)
    (c.put_last.ensures.chain (order_in c.self.inside.links.items c.self.inside.slots.items c.self.inside.all) chain1 c.self.invariant.tied.apart (new_out _ _ _ _ _ _ _ _ _ _ i f.tied))
    (rest_kept _ _ _ _ _ _ _ _ _ _ i f.tied _ _ _ (λ j n o. c.put_last.ensures.others (order_in c.self.inside.links.items c.self.inside.slots.items c.self.inside.all) j chain1 n o) (c.take_out.ensures.chain [] f.rest f.tied.free_chain f.tied.free_apart))
    (c.put_last.ensures.len ∙ c.take_out.ensures.len)
    (c.put_last-in-Some.ensures.chain (slots_of site c.self.inside.names.names (order_in c.self.inside.links.items c.self.inside.slots.items c.self.inside.all)) chain2 (site_now_apart _ _ _ _ _ _ _ _ _ _ i f.tied site) (site_new_out _ _ _ _ _ _ _ _ _ _ i f.tied site))
    (λ j n o. c.put_last-in-Some.ensures.others (slots_of site c.self.inside.names.names (order_in c.self.inside.links.items c.self.inside.slots.items c.self.inside.all)) j chain2 n o)
    c.put_last-in-Some.ensures.len
    (λ other. c.set_ends.ensures.ends site other named ∙ ap (given_ends site c.put_last-in-Some.new.ends other) (c.add.ensures.ends other)) in
    sound_bounded _ _ _ _ _ _ _ _ _ _ _ m.sound
