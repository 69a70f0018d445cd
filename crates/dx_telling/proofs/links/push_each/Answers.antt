use Rattle.std.proofs.Common.{◌≡◌, ◌++◌, ◌≤◌, ℕ, subst}
use Rattle.dx_base.specs.Object.{Tree as Object}
use Rattle.dx_links.specs.Holding.{holding_of}
use Rattle.dx_telling.specs.Behind.{link_text}
use Rattle.dx_telling.proofs.LinkTexts.{links_from, link_next, link_end}
use Rattle.dx_telling.proofs.links.push_each.Goals as goal

pub loop-i-preserved : goal.loop-i-preserved
loop-i-preserved c =
    link_next c.args.links.now.links c.loop-i.i (c.at.result.0.now, holding_of c.at.result.1) c.loop-i.out.items c.push_link.new.out.items (c.args.out.now.items ++ links_from c.args.links.now.links 0)
    c.at.ensures.at c.loop-i.invariant
    (subst (λ (o : Object). c.push_link.new.out.items ≡ c.loop-i.out.items ++ link_text c.at.result.0.now o) c.deref.ensures c.in_ok-push_link.ensures)

pub returns : goal.returns
returns c = link_end c.args.links.now.links c.loop-i.i c.loop-i.out.items (c.args.out.now.items ++ links_from c.args.links.now.links 0) (subst (λ (n : ℕ). n ≤ c.loop-i.i) c.len-i-end.ensures c.loop-i-test.false) c.loop-i.invariant
