use Rattle.std.proofs.Common.{◌≡◌, ◌∙◌, ◌<◌, inl, ℕ, List, ◌∷◌, ◌++◌, sym, ap, subst, None, refl, length, arith, get_or, vec_len}
use Rattle.std.specs.Prelude.{IfSome}
use Rattle.std.proofs.lemmas.Option.{get_or_from_slice_get}
use Rattle.dx_cache.specs.declared.chains.Link.{Link}
use Rattle.dx_cache.specs.declared.chains.Ends.{Ends}
use Rattle.dx_cache.specs.Changed.{detached, detached_ends}
use Rattle.dx_cache.specs.Chain.{IsChain, first_or, last_or}
use Rattle.dx_cache.proofs.SlotLaws.{in_right}
use Rattle.dx_cache.proofs.ChainLaws.{chain_within, link_middle, chain_detached, detached_elsewhere, before_within, after_within}
use Rattle.dx_cache.proofs.chains.take_out.Goals as goal

-- the link that is read is the one in the middle
link_is : (links : List Link) (e : Ends) (xs ys : List ℕ) (i : ℕ) (l : Link) (d : Link) → IsChain links e (xs ++ i ∷ ys) → l ≡ get_or links i d → l ≡ record { before = last_or None xs; after = first_or ys None }
link_is links e xs ys i l d c g =
    let m = link_middle links e xs ys i c in
    g ∙ get_or_from_slice_get links i (record { before = last_or None xs; after = first_or ys None }) d m

pub index-link-requires : goal.index-link-requires
index-link-requires c =
    let r = c.requires.chain in
    let w = chain_within c.args.links.now.items c.args.ends.now (r.0 ++ c.args.i ∷ r.1) c.args.i r.2 (in_right c.args.i r.0 (c.args.i ∷ r.1) (inl refl)) in
    omega (arith, w)

pub detach-requires-clause-before : goal.detach-requires-clause-before
detach-requires-clause-before c =
    let r = c.requires.chain in
    let link = link_is c.args.links.now.items c.args.ends.now r.0 r.1 c.args.i c.index-link.result.now c.index-link.result.now r.2 c.index-link.ensures in
    let b = before_within c.args.links.now.items c.args.ends.now r.0 r.1 c.args.i r.2 r.3 in
    let same : length c.args.links.now.items ≡ vec_len c.args.links.now = omega arith in
    subst (λ n. IfSome c.index-link.result.now.before (λ b. b < n)) same (subst (λ o. IfSome o (λ b. b < length c.args.links.now.items)) (ap (λ (l : Link). l.before) (sym link)) b)

pub detach-requires-clause-after : goal.detach-requires-clause-after
detach-requires-clause-after c =
    let r = c.requires.chain in
    let link = link_is c.args.links.now.items c.args.ends.now r.0 r.1 c.args.i c.index-link.result.now c.index-link.result.now r.2 c.index-link.ensures in
    let b = after_within c.args.links.now.items c.args.ends.now r.0 r.1 c.args.i r.2 r.3 in
    let same : length c.args.links.now.items ≡ vec_len c.args.links.now = omega arith in
    subst (λ n. IfSome c.index-link.result.now.after (λ b. b < n)) same (subst (λ o. IfSome o (λ b. b < length c.args.links.now.items)) (ap (λ (l : Link). l.after) (sym link)) b)

pub returns-clause-chain : goal.returns-clause-chain
returns-clause-chain c =
    λ xs ys h p.
    let link = link_is c.args.links.now.items c.args.ends.now xs ys c.args.i c.index-link.result.now c.index-link.result.now h c.index-link.ensures in
    let links = c.detach.ensures.links ∙ ap (detached c.args.links.now.items) link in
    let ends = c.detach.ensures.ends ∙ ap (detached_ends c.args.ends.now) link in
    rw (links, ends) (chain_detached c.args.links.now.items c.args.ends.now xs ys c.args.i h p)

pub returns-clause-others : goal.returns-clause-others
returns-clause-others c =
    λ xs ys j h p o.
    let link = link_is c.args.links.now.items c.args.ends.now xs ys c.args.i c.index-link.result.now c.index-link.result.now h c.index-link.ensures in
    let links = c.detach.ensures.links ∙ ap (detached c.args.links.now.items) link in
    rw links (detached_elsewhere c.args.links.now.items c.args.ends.now xs ys c.args.i h p j o)
