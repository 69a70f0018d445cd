use Rattle.std.proofs.Common.{◌≡◌, ◌<◌, subst, length, arith, vec_len}
use Rattle.std.specs.Prelude.{IfSome}
use Rattle.dx_cache.proofs.ChainLaws.{chain_attached, attached_elsewhere, chain_last}
use Rattle.dx_cache.proofs.chains.put_last.Goals as goal

pub attach-requires-clause-last : goal.attach-requires-clause-last
attach-requires-clause-last c =
    let r = c.requires.chain in
    let same : length c.args.links.now.items ≡ vec_len c.args.links.now = omega arith in
    subst (λ n. IfSome c.args.ends.now.last (λ l. l < n)) same (chain_last c.args.links.now.items c.args.ends.now r.0 r.1)

pub returns-clause-chain : goal.returns-clause-chain
returns-clause-chain c =
    λ xs h p o. rw (c.attach.ensures.links, c.attach.ensures.ends) (chain_attached c.args.links.now.items c.args.ends.now xs h c.args.i p o c.requires.within)

pub returns-clause-others : goal.returns-clause-others
returns-clause-others c =
    λ xs j h n o. rw c.attach.ensures.links (attached_elsewhere c.args.links.now.items c.args.ends.now xs h c.args.i j n o)
