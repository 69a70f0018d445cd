use Rattle.std.proofs.Common.{◌≡◌, ◌∙◌, length, sym, ap, subst, Some, None, refl, arith}
use Rattle.std.specs.Prelude.{slice_get}
use Rattle.dx_cache.specs.Cached.{Cached, IsTagAt}
use Rattle.dx_cache.specs.Chain.{along}
use Rattle.dx_cache.specs.Tied.{order_in, entries_at, entry_at, tag_in}
use Rattle.dx_cache.proofs.ChainLaws.{along_leads}
use Rattle.dx_cache.proofs.Orders.{length_map, has_place}
use Rattle.dx_cache.proofs.Steps.{at_place, tag_place}
use Rattle.dx_cache.proofs.cache.Cache.tag_at.Goals as goal

pub returns-in-None : goal.returns-in-None
returns-in-None c =
    let tied = c.self.invariant.tied in
    let order = order_in c.self.inside.links.items c.self.inside.slots.items c.self.inside.all in
    let w = c.requires.within in
    let len = ap (λ (x : Cached). length x.entries) c.self.view_is in
    let same = length_map (entry_at c.self.inside.slots.items c.self.inside.names.names) order in
    let at : None ≡ slice_get order c.args.i = c.in-None.ensures ∙ ap (λ ls. along ls c.args.i c.self.inside.all.first) c.deref.ensures.value ∙ ap (along c.self.inside.links.items c.args.i) tied.chain.first ∙ along_leads c.self.inside.links.items None order c.args.i tied.chain.leads in
    absurd (has_place order c.args.i (omega (arith, w, len, same)) (sym at))

pub returns-in-Some : goal.returns-in-Some
returns-in-Some c =
    let tied = c.self.invariant.tied in
    let order = order_in c.self.inside.links.items c.self.inside.slots.items c.self.inside.all in
    let i = c.in-Some.slot in
    let at : Some c.in-Some.slot ≡ slice_get order c.args.i = c.in-Some.ensures ∙ ap (λ ls. along ls c.args.i c.self.inside.all.first) c.deref.ensures.value ∙ ap (along c.self.inside.links.items c.args.i) tied.chain.first ∙ along_leads c.self.inside.links.items None order c.args.i tied.chain.leads in
    let found = at_place _ _ _ _ _ _ _ _ _ _ tied c.args.i i (sym at) in
    let a = found.0 in
    let tag : c.tag_of.result ≡ Some a.full.body.tag = c.tag_of.ensures ∙ ap (λ xs. tag_in (slice_get xs i)) c.deref-in-Some.ensures.value ∙ ap tag_in a.full.at in
    let here = tag_place _ _ _ _ _ _ _ _ _ _ _ a a.full.body.tag c.self.invariant.kept refl in
    subst (λ (x : Cached). IsTagAt (Some c.args.i) x.entries c.tag_of.result) c.self.view_is
    (subst (λ r. IsTagAt (Some c.args.i) (entries_at c.self.inside.slots.items c.self.inside.names.names order) r) (sym tag) (length a.left, ap Some (sym found.1), here))
