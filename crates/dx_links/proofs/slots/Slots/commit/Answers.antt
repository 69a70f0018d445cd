use Rattle.std.proofs.Common.{◌≡◌, ◌∷◌, length, ap, sym, ◌∙◌, arith}
use Rattle.std.specs.Vec.Iter.{into_iter_items}
use Rattle.dx_links.specs.LinkMap.{after}
use Rattle.dx_links.proofs.slots.Slots.commit.Goals as goal

pub loop-change-preserved : goal.loop-change-preserved
loop-change-preserved c =
    let at = c.loop-change in
    let rest = into_iter_items c.next.new.self in
    let steps : into_iter_items at.change-iterator ≡ c.in-Some.change ∷ rest = c.in-Some.ensures.steps.0 in
    let short = ap length steps in
    record {
      can = tt;
      finite = tt;
      len = (let was = at.invariant.len in let gone = c.in-Some.ensures.steps.1 in omega (arith, short));
      room = (let was = at.invariant.room in let more = c.put.ensures.room in omega (arith, short, was, more));
      so_far = ap (λ links. after links rest) c.put.ensures.made ∙ ap (after at.self.links) (sym steps) ∙ at.invariant.so_far;
    }
