use Rattle.std.proofs.Common.{◌≡◌, ◌∷◌, [], List, length, refl, ap, sym, ◌∙◌, subst, arith}
use Rattle.std.specs.Vec.Iter.{into_iter_items}
use Rattle.dx_links.specs.LinkMap.{LinkMap, after}
use Rattle.dx_ending.specs.declared.in_place.Ready.{Ready}
use Rattle.dx_ending.specs.InPlace.{AreShared, ComeFrom, changes_in}
use Rattle.dx_ending.proofs.CountLaws.{count_put, come_more, come_none}
use Rattle.dx_ending.proofs.ReadyLaws.{none_left}
use Rattle.dx_ending.proofs.in_place.change_in_place.Goals as goal

pub loop-change-init : goal.loop-change-init
loop-change-init c =
    let gives = c.into_iter-change-iterator.ensures.into_iter_gives in
    let same = ap length gives.0 in
    let has = c.requires.ready.has in
    record {
      can = tt;
      finite = tt;
      len = (let lens = gives.1 in let whole = c.args.ready.changes.ok.0 in omega (arith, lens, whole, same));
      room = record {
        room = (let room = has.room in omega (arith, room, same));
        values_room = (let room = has.values_room in omega (arith, room, same));
        few = (let few = has.few in omega (arith, few, same));
        sorted = has.sorted;
      };
      shared = subst AreShared (sym gives.0) c.requires.ready.shared;
      bound = c.requires.bound;
      so_far = ap (λ (rs : List Ready). after c.args.links.now.links (changes_in rs)) gives.0;
      from = λ new from. subst (λ (rs : List Ready). ComeFrom (changes_in rs) c.args.bound.now.pairs new) gives.0 from;
      held = refl;
      kept_from = refl;
    }

pub change_one-requires : goal.change_one-requires
change_one-requires c =
    let at = c.loop-change in
    let rest = into_iter_items c.next.new.self in
    let steps : into_iter_items at.change-iterator ≡ c.in-Some.change ∷ rest = c.in-Some.ensures.steps.0 in
    let short = ap length steps in
    let has = at.invariant.room in
    record {
      bound = at.invariant.bound;
      room = record {
        room = (let room = has.room in omega (arith, room, short));
        values_room = (let room = has.values_room in omega (arith, room, short));
        few = (let few = has.few in omega (arith, few, short));
        sorted = has.sorted;
      };
      shared = (subst AreShared steps at.invariant.shared).0;
    }

pub loop-change-preserved : goal.loop-change-preserved
loop-change-preserved c =
    let at = c.loop-change in
    let change = c.in-Some.change.change in
    let rest = into_iter_items c.next.new.self in
    let steps : into_iter_items at.change-iterator ≡ c.in-Some.change ∷ rest = c.in-Some.ensures.steps.0 in
    let short = ap length steps in
    let has = at.invariant.room in
    let made = c.change_one.ensures in
    record {
      can = tt;
      finite = tt;
      len = (let was = at.invariant.len in let gone = c.in-Some.ensures.steps.1 in omega (arith, short));
      room = record {
        room = (let was = has.room in let less = made.room in omega (arith, short, was, less));
        values_room = (let was = has.values_room in let less = made.values_room in omega (arith, short, was, less));
        few = (let was = has.few in
            let put = ap length made.links in
            let more = count_put at.links.links change.key change.held in
            omega (arith, short, was, put, more));
        sorted = made.sorted;
      };
      shared = (subst AreShared steps at.invariant.shared).1;
      bound = made.bound;
      so_far = ap (λ (ls : LinkMap). after ls (changes_in rest)) made.links ∙ ap (λ (rs : List Ready). after at.links.links (changes_in rs)) (sym steps) ∙ at.invariant.so_far;
      from = λ new from. at.invariant.from new
          (subst (λ (rs : List Ready). ComeFrom (changes_in rs) at.bound.pairs new) (sym steps)
          (come_more change (changes_in rest) at.bound.pairs c.change_one.new.bound.pairs new made.values from));
      held = made.held ∙ at.invariant.held;
      kept_from = made.from ∙ at.invariant.kept_from;
    }

pub returns : goal.returns
returns c =
    let at = c.loop-change in
    let none = c.in-None.ensures.steps.0 in
    let len = at.invariant.len in
    let over : into_iter_items at.change-iterator ≡ [] = none_left (into_iter_items at.change-iterator) (sym len ∙ none) in
    record {
      links = ap (λ (rs : List Ready). after at.links.links (changes_in rs)) (sym over) ∙ at.invariant.so_far;
      bound = at.invariant.bound;
      values = at.invariant.from at.bound.pairs (subst (λ (rs : List Ready). ComeFrom (changes_in rs) at.bound.pairs at.bound.pairs) (sym over) (come_none at.bound.pairs));
      held = at.invariant.held;
      from = at.invariant.kept_from;
    }
