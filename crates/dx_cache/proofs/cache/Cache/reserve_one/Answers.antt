use Rattle.std.proofs.Common.{◌≡◌, ◌∙◌, [], ◌∷◌, ◌++◌, length, ap, subst, None, arith}
use Rattle.dx_cache.specs.Chain.{IsChain}
use Rattle.dx_cache.proofs.Steps.{chain_more, new_vacant_out}
use Rattle.dx_cache.specs.Cached.{Cached}
use Rattle.dx_cache.specs.Tied.{order_in}
use Rattle.dx_cache.proofs.Steps.{grown_sound, sound_bounded}
use Rattle.dx_cache.proofs.cache.Cache.reserve_one.Goals as goal

pub put_last-requires-clause-chain : goal.put_last-requires-clause-chain
put_last-requires-clause-chain c =
    let vk = chain_more _ _ _ _ _ c.in_ok-grow.ensures.links_ok c.self.invariant.tied.free_chain in
    ((order_in c.self.inside.links.items c.self.inside.slots.items c.self.inside.free), vk)

pub invariant_of-self-then-is_none : goal.invariant_of-self-then-is_none
invariant_of-self-then-is_none c =
    let vk = chain_more _ _ _ _ _ c.in_ok-grow.ensures.links_ok c.self.invariant.tied.free_chain in
    let i = c.len-i.result in
    let li : c.len-i.result ≡ length c.self.inside.slots.items = (let e = c.len-i.ensures in omega (arith, e)) in
    let out = new_vacant_out _ _ _ _ _ _ _ _ _ _ c.self.invariant.tied i li in
    let ends : c.grow.new.names.ends ≡ c.self.inside.names.ends = c.in_ok-grow.ensures.ends ∙ c.in_ok-reserve_one.ensures.ends in
    let m = grown_sound _ _ _ c.grow.new.slots.items _ c.grow.new.names.names _ _ c.grow.new.links.items c.put_last.new.links.items _ c.grow.new.own.items _ _ c.put_last.new.ends _ _ c.self.invariant c.in_ok-grow.ensures.ok (c.in_ok-grow.ensures.names_ok ∙ ap (λ ns. ns ++ None ∷ []) c.in_ok-reserve_one.ensures.names) c.in_ok-grow.ensures.links_ok c.in_ok-grow.ensures.own_ok
    (subst (λ k. IsChain c.put_last.new.links.items c.put_last.new.ends ((order_in c.self.inside.links.items c.self.inside.slots.items c.self.inside.free) ++ k ∷ [])) li (c.put_last.ensures.chain (order_in c.self.inside.links.items c.self.inside.slots.items c.self.inside.free) vk c.self.invariant.tied.free_apart out))
    (λ j d o. c.put_last.ensures.others (order_in c.self.inside.links.items c.self.inside.slots.items c.self.inside.free) j vk (λ e. d (e ∙ li)) o) c.put_last.ensures.len in
    rw (c.in_ok-reserve.ensures.entries, ends) m.sound

pub invariant_of-self-else-is_none : goal.invariant_of-self-else-is_none
invariant_of-self-else-is_none c =
    rw (c.in_ok-reserve.ensures.entries, c.in_ok-reserve_one.ensures.names, c.in_ok-reserve_one.ensures.ends) c.self.invariant

pub returns-in_ok-grow-clause-entries : goal.returns-in_ok-grow-clause-entries
returns-in_ok-grow-clause-entries c =
    let vk = chain_more _ _ _ _ _ c.in_ok-grow.ensures.links_ok c.self.invariant.tied.free_chain in
    let i = c.len-i.result in
    let li : c.len-i.result ≡ length c.self.inside.slots.items = (let e = c.len-i.ensures in omega (arith, e)) in
    let out = new_vacant_out _ _ _ _ _ _ _ _ _ _ c.self.invariant.tied i li in
    let ends : c.grow.new.names.ends ≡ c.self.inside.names.ends = c.in_ok-grow.ensures.ends ∙ c.in_ok-reserve_one.ensures.ends in
    let m = grown_sound _ _ _ c.grow.new.slots.items _ c.grow.new.names.names _ _ c.grow.new.links.items c.put_last.new.links.items _ c.grow.new.own.items _ _ c.put_last.new.ends _ _ c.self.invariant c.in_ok-grow.ensures.ok (c.in_ok-grow.ensures.names_ok ∙ ap (λ ns. ns ++ None ∷ []) c.in_ok-reserve_one.ensures.names) c.in_ok-grow.ensures.links_ok c.in_ok-grow.ensures.own_ok
    (subst (λ k. IsChain c.put_last.new.links.items c.put_last.new.ends ((order_in c.self.inside.links.items c.self.inside.slots.items c.self.inside.free) ++ k ∷ [])) li (c.put_last.ensures.chain (order_in c.self.inside.links.items c.self.inside.slots.items c.self.inside.free) vk c.self.invariant.tied.free_apart out))
    (λ j d o. c.put_last.ensures.others (order_in c.self.inside.links.items c.self.inside.slots.items c.self.inside.free) j vk (λ e. d (e ∙ li)) o) c.put_last.ensures.len in
    m.entries ∙ ap (λ (x : Cached). x.entries) c.self.view_is

pub returns-in_ok-grow-clause-room : goal.returns-in_ok-grow-clause-room
returns-in_ok-grow-clause-room c =
    let vk = chain_more _ _ _ _ _ c.in_ok-grow.ensures.links_ok c.self.invariant.tied.free_chain in
    let i = c.len-i.result in
    let li : c.len-i.result ≡ length c.self.inside.slots.items = (let e = c.len-i.ensures in omega (arith, e)) in
    let out = new_vacant_out _ _ _ _ _ _ _ _ _ _ c.self.invariant.tied i li in
    let ends : c.grow.new.names.ends ≡ c.self.inside.names.ends = c.in_ok-grow.ensures.ends ∙ c.in_ok-reserve_one.ensures.ends in
    let m = grown_sound _ _ _ c.grow.new.slots.items _ c.grow.new.names.names _ _ c.grow.new.links.items c.put_last.new.links.items _ c.grow.new.own.items _ _ c.put_last.new.ends _ _ c.self.invariant c.in_ok-grow.ensures.ok (c.in_ok-grow.ensures.names_ok ∙ ap (λ ns. ns ++ None ∷ []) c.in_ok-reserve_one.ensures.names) c.in_ok-grow.ensures.links_ok c.in_ok-grow.ensures.own_ok
    (subst (λ k. IsChain c.put_last.new.links.items c.put_last.new.ends ((order_in c.self.inside.links.items c.self.inside.slots.items c.self.inside.free) ++ k ∷ [])) li (c.put_last.ensures.chain (order_in c.self.inside.links.items c.self.inside.slots.items c.self.inside.free) vk c.self.invariant.tied.free_apart out))
    (λ j d o. c.put_last.ensures.others (order_in c.self.inside.links.items c.self.inside.slots.items c.self.inside.free) j vk (λ e. d (e ∙ li)) o) c.put_last.ensures.len in
    let r = ap (λ (x : Cached). x.room) c.self.view_is in
    let v = m.vacant in
    let t = c.in_ok-reserve.ensures.room.0 in
    let k = c.in_ok-grow.ensures.room in
    let z = c.in_ok-reserve_one.ensures.room in
    omega (arith, r, v, t, k, z)

pub returns-in_ok-grow-clause-spare : goal.returns-in_ok-grow-clause-spare
returns-in_ok-grow-clause-spare c =
    let vk = chain_more _ _ _ _ _ c.in_ok-grow.ensures.links_ok c.self.invariant.tied.free_chain in
    let i = c.len-i.result in
    let li : c.len-i.result ≡ length c.self.inside.slots.items = (let e = c.len-i.ensures in omega (arith, e)) in
    let out = new_vacant_out _ _ _ _ _ _ _ _ _ _ c.self.invariant.tied i li in
    let ends : c.grow.new.names.ends ≡ c.self.inside.names.ends = c.in_ok-grow.ensures.ends ∙ c.in_ok-reserve_one.ensures.ends in
    let m = grown_sound _ _ _ c.grow.new.slots.items _ c.grow.new.names.names _ _ c.grow.new.links.items c.put_last.new.links.items _ c.grow.new.own.items _ _ c.put_last.new.ends _ _ c.self.invariant c.in_ok-grow.ensures.ok (c.in_ok-grow.ensures.names_ok ∙ ap (λ ns. ns ++ None ∷ []) c.in_ok-reserve_one.ensures.names) c.in_ok-grow.ensures.links_ok c.in_ok-grow.ensures.own_ok
    (subst (λ k. IsChain c.put_last.new.links.items c.put_last.new.ends ((order_in c.self.inside.links.items c.self.inside.slots.items c.self.inside.free) ++ k ∷ [])) li (c.put_last.ensures.chain (order_in c.self.inside.links.items c.self.inside.slots.items c.self.inside.free) vk c.self.invariant.tied.free_apart out))
    (λ j d o. c.put_last.ensures.others (order_in c.self.inside.links.items c.self.inside.slots.items c.self.inside.free) j vk (λ e. d (e ∙ li)) o) c.put_last.ensures.len in
    let v = m.vacant in
    let t = c.in_ok-reserve.ensures.ok in
    let k = c.in_ok-grow.ensures.room in
    let z = c.in_ok-reserve_one.ensures.spare in
    omega (arith, v, t, k, z)

pub returns-in_ok-grow-clause-sound : goal.returns-in_ok-grow-clause-sound
returns-in_ok-grow-clause-sound c =
    let vk = chain_more _ _ _ _ _ c.in_ok-grow.ensures.links_ok c.self.invariant.tied.free_chain in
    let i = c.len-i.result in
    let li : c.len-i.result ≡ length c.self.inside.slots.items = (let e = c.len-i.ensures in omega (arith, e)) in
    let out = new_vacant_out _ _ _ _ _ _ _ _ _ _ c.self.invariant.tied i li in
    let ends : c.grow.new.names.ends ≡ c.self.inside.names.ends = c.in_ok-grow.ensures.ends ∙ c.in_ok-reserve_one.ensures.ends in
    let m = grown_sound _ _ _ c.grow.new.slots.items _ c.grow.new.names.names _ _ c.grow.new.links.items c.put_last.new.links.items _ c.grow.new.own.items _ _ c.put_last.new.ends _ _ c.self.invariant c.in_ok-grow.ensures.ok (c.in_ok-grow.ensures.names_ok ∙ ap (λ ns. ns ++ None ∷ []) c.in_ok-reserve_one.ensures.names) c.in_ok-grow.ensures.links_ok c.in_ok-grow.ensures.own_ok
    (subst (λ k. IsChain c.put_last.new.links.items c.put_last.new.ends ((order_in c.self.inside.links.items c.self.inside.slots.items c.self.inside.free) ++ k ∷ [])) li (c.put_last.ensures.chain (order_in c.self.inside.links.items c.self.inside.slots.items c.self.inside.free) vk c.self.invariant.tied.free_apart out))
    (λ j d o. c.put_last.ensures.others (order_in c.self.inside.links.items c.self.inside.slots.items c.self.inside.free) j vk (λ e. d (e ∙ li)) o) c.put_last.ensures.len in
    sound_bounded _ _ _ _ _ _ _ _ _ _ _ m.sound
