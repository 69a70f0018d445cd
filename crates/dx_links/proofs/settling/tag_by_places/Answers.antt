use Rattle.std.proofs.Common.{◌≡◌, ◌<◌, suc, ◌+◌, length, ap, ap₂, ◌∙◌, arith}
use Rattle.dx_links.specs.Emptied.{front_held, held_tag}
use Rattle.dx_links.specs.LinkMap.{tag_at}
use Rattle.dx_links.proofs.EmptiedLaws.{front_length, front_more}
use Rattle.dx_links.proofs.settling.tag_by_places.Goals as goal

pub set_tag-requires : goal.set_tag-requires
set_tag-requires c =
    let a = c.loop-k-test.true in
    let b = c.len-k-end.ensures in
    let d = ap length c.loop-k.invariant.links in
    let e = front_length c.loop-k.k 0 c.args.slots.now.links in
    record { within = omega (arith, a, b, d, e) }

pub loop-k-preserved : goal.loop-k-preserved
loop-k-preserved c =
    let links = c.args.slots.now.links in
    let k = c.loop-k.k in
    let a = c.loop-k-test.true in
    let b = c.len-k-end.ensures in
    let within : k < length links = omega (arith, a, b) in
    let place : k ≡ 0 + k = omega arith in
    let next : suc k ≡ k + 1 = omega arith in
    let more = c.set_tag.ensures.room in
    let was = c.loop-k.invariant.room in
    record {
      links =
          c.set_tag.ensures.links
          ∙ ap₂ (λ ls t. tag_at ls k t) c.loop-k.invariant.links (c.tag_of_place.ensures ∙ ap held_tag place)
          ∙ front_more k 0 links within
          ∙ ap (λ n. front_held n 0 links) next;
      room = omega (arith, more, was);
    }
