use Rattle.std.proofs.Common.{◌≡◌, ◌∷◌, ◌++◌, [], List, length, ap, sym, ◌∙◌, subst, append_assoc, append-nil, arith}
use Rattle.std.specs.Vec.Iter.{into_iter_items}
use Rattle.dx_links.specs.declared.held.Change.{Change}
use Rattle.dx_links.proofs.LinkLaws.{nothing_left}
use Rattle.dx_ending.specs.declared.in_place.Ready.{Ready}
use Rattle.dx_ending.specs.InPlace.{AreShared, changes_in}
use Rattle.dx_ending.proofs.ReadyLaws.{changes_more, shared_more}
use Rattle.dx_ending.proofs.in_place.all_shared.Goals as goal

pub loop-change-init : goal.loop-change-init
loop-change-init c =
    let gives = c.into_iter-change-iterator.ensures.into_iter_gives in
    let same = ap length gives.0 in
    let none = c.in_ok-ready.ensures.items in
    record {
      can = tt;
      finite = tt;
      len = (let lens = gives.1 in let whole = c.into_vec-change-items.result.ok.0 in omega (arith, lens, whole, same));
      so_far = ap (λ (rs : List Ready). changes_in rs ++ into_iter_items c.into_iter-change-iterator.result) none ∙ gives.0 ∙ c.into_vec-change-items.ensures;
      shared = subst AreShared (sym none) tt;
    }

pub loop-change-preserved : goal.loop-change-preserved
loop-change-preserved c =
    let at = c.loop-change in
    let rest = into_iter_items c.next.new.self in
    let steps : into_iter_items at.change-iterator ≡ c.in-Some.change ∷ rest = c.in-Some.ensures.steps.0 in
    let short = ap length steps in
    let ready : Ready = record { change = c.in-Some.change; value = c.in_ok-value.value } in
    let items : c.push.new.self.items ≡ at.ready.items ++ ready ∷ [] = c.in_ok-push.ensures.items in
    record {
      can = tt;
      finite = tt;
      len = (let was = at.invariant.len in let gone = c.in-Some.ensures.steps.1 in omega (arith, short));
      so_far = ap (λ (rs : List Ready). changes_in rs ++ rest) items
          ∙ ap (λ (cs : List Change). cs ++ rest) (changes_more at.ready.items ready)
          ∙ append_assoc (changes_in at.ready.items) (c.in-Some.change ∷ []) rest
          ∙ ap (λ (cs : List Change). changes_in at.ready.items ++ cs) (sym steps)
          ∙ at.invariant.so_far;
      shared = subst AreShared (sym items) (shared_more at.ready.items ready at.invariant.shared c.in_ok-value.ensures);
    }

pub returns-clause-changes : goal.returns-clause-changes
returns-clause-changes c =
    let at = c.loop-change in
    let none = c.in-None.ensures.steps.0 in
    let len = at.invariant.len in
    sym (append-nil (changes_in at.ready.items))
    ∙ ap (λ (cs : List Change). changes_in at.ready.items ++ cs) (sym (nothing_left (into_iter_items at.change-iterator) (sym len ∙ none)))
    ∙ at.invariant.so_far
