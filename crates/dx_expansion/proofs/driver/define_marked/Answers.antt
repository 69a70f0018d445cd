use Rattle.std.proofs.Common.{◌≡◌, ◌∙◌, ◌<◌, ◌+◌, ℕ, List, [], ◌∷◌, ◌++◌, length, refl, sym, ap, subst, arith, length-append}
use Rattle.std.specs.Prelude.{is_some}
use Rattle.std.specs.Borrow.{Bor}
use Rattle.std.specs.Ordering.{nat_cmp}
use Rattle.std.specs.List.Sorted.{IsStrictlySortedBy}
use Rattle.std.proofs.lemmas.List.{length-map}
use Rattle.std.proofs.lemmas.Map.Iter.{iter_turn, iter_end}
use Rattle.dx_expansion.proofs.Driving.{same_on}
use Rattle.dx_base.specs.Places.{flags}
use Rattle.dx_graph.specs.GraphView.{graph_of}
use Rattle.dx_texts.specs.Expanding.{dictionary_in}
use Rattle.dx_expansion.proofs.Counted.{AreCounted, next_few, next_counted, all_are_counted, same_calls}
use Rattle.dx_expansion.proofs.Marked.{AreDone, ArePositionsOf, got, next_below, next_walked, one_done, all_done}
use Rattle.dx_expansion.proofs.driver.define_marked.Goals as goal

abbrev shown : Bor ℕ → ℕ
shown p = p.now

pub define-requires-clause-below : goal.define-requires-clause-below
define-requires-clause-below c =
    let places = c.into_iter-position-iterator.result in
    let start = c.into_iter-position-iterator.ensures.into_iter_gives in
    let are = subst (λ (ks : List ℕ). ArePositionsOf ks c.args.marks.now) (sym start) c.places-position-items.ensures.all in
    let turn = iter_turn shown places c.loop-position.yielded _ _ _ _ refl c.loop-position.yielded_by c.in-Some.position c.in-Some.is c.next.ensures.steps in
    let here = got places (length c.loop-position.yielded) c.in-Some.position.now turn.1 in
    let below = next_below c.args.marks.now places (length c.loop-position.yielded) c.in-Some.position.now are turn.0 here in
    omega (arith, below, ap length c.requires.walked.is, c.requires.walked.count, length-map c.args.marks.now is_some, c.requires.rests.places, c.loop-position.invariant.same.places)

pub define-requires-clause-walked : goal.define-requires-clause-walked
define-requires-clause-walked c =
    let places = c.into_iter-position-iterator.result in
    let start = c.into_iter-position-iterator.ensures.into_iter_gives in
    let are = subst (λ (ks : List ℕ). ArePositionsOf ks c.args.marks.now) (sym start) c.places-position-items.ensures.all in
    let turn = iter_turn shown places c.loop-position.yielded _ _ _ _ refl c.loop-position.yielded_by c.in-Some.position c.in-Some.is c.next.ensures.steps in
    let here = got places (length c.loop-position.yielded) c.in-Some.position.now turn.1 in
    next_walked c.args.w.now c.loop-position.w c.args.marks.now places (length c.loop-position.yielded) c.in-Some.position.now c.loop-position.invariant.same c.requires.walked
    (subst (IsStrictlySortedBy nat_cmp) (sym start) c.places-position-items.ensures.ascending) are turn.0 here c.loop-position.invariant.done

pub define-requires-clause-few : goal.define-requires-clause-few
define-requires-clause-few c =
    let places = c.into_iter-position-iterator.result in
    let start = c.into_iter-position-iterator.ensures.into_iter_gives in
    let are = subst (λ (ks : List ℕ). ArePositionsOf ks c.args.marks.now) (sym start) c.places-position-items.ensures.all in
    let sorted = subst (IsStrictlySortedBy nat_cmp) (sym start) c.places-position-items.ensures.ascending in
    let turn = iter_turn shown places c.loop-position.yielded _ _ _ _ refl c.loop-position.yielded_by c.in-Some.position c.in-Some.is c.next.ensures.steps in
    let here = got places (length c.loop-position.yielded) c.in-Some.position.now turn.1 in
    let few = next_few (dictionary_in c.args.w.now) c.args.marks.now places (length (graph_of c.args.graph.now).nodes) (length (graph_of c.loop-position.graph).nodes) (length c.loop-position.yielded) c.in-Some.position.now
    sorted are turn.0 here c.loop-position.invariant.counted (sym (length-map c.args.marks.now is_some) ∙ c.requires.walked.count) c.requires.few in
    omega (arith, few, same_calls c.args.w.now c.loop-position.w c.in-Some.position.now c.loop-position.invariant.same)

pub returns-clause-adds : goal.returns-clause-adds
returns-clause-adds c =
    let places = c.into_iter-position-iterator.result in
    let start = c.into_iter-position-iterator.ensures.into_iter_gives in
    let are = subst (λ (ks : List ℕ). ArePositionsOf ks c.args.marks.now) (sym start) c.places-position-items.ensures.all in
    let end = iter_end shown places c.loop-position.yielded _ _ _ _ refl c.loop-position.yielded_by c.in-None.is c.next.ensures.steps in
    all_are_counted (dictionary_in c.args.w.now) c.args.marks.now places (length (graph_of c.args.graph.now).nodes) (length (graph_of c.loop-position.graph).nodes) (length c.loop-position.yielded)
    are (omega (arith, end.1)) (sym (length-map c.args.marks.now is_some) ∙ c.requires.walked.count) c.loop-position.invariant.counted

pub loop-position-preserved : goal.loop-position-preserved
loop-position-preserved c =
    let places = c.into_iter-position-iterator.result in
    let start = c.into_iter-position-iterator.ensures.into_iter_gives in
    let are = subst (λ (ks : List ℕ). ArePositionsOf ks c.args.marks.now) (sym start) c.places-position-items.ensures.all in
    let turn = iter_turn shown places c.loop-position.yielded _ _ _ _ refl c.loop-position.yielded_by c.in-Some.position c.in-Some.is c.next.ensures.steps in
    let here = got places (length c.loop-position.yielded) c.in-Some.position.now turn.1 in
    let below = next_below c.args.marks.now places (length c.loop-position.yielded) c.in-Some.position.now are turn.0 here in
    let fits : c.in-Some.position.now < length c.loop-position.w.memo =
    omega (arith, below, c.requires.walked.count, length-map c.args.marks.now is_some, c.requires.rests.places, c.loop-position.invariant.same.places) in
    let one : length c.loop-position.yielded + 1 ≡ length (c.loop-position.yielded ++ c.in-Some.position ∷ []) = omega (arith, length-append c.loop-position.yielded (c.in-Some.position ∷ [])) in
    record {
      rests = c.in_ok-define.ensures.rests;
      same = same_on c.args.w.now c.loop-position.w c.define.new.w c.loop-position.invariant.same c.in_ok-define.ensures.same;
      counted = subst (λ (n : ℕ). AreCounted (dictionary_in c.args.w.now) (flags c.args.marks.now) places n (length (graph_of c.args.graph.now).nodes) (length (graph_of c.define.new.graph).nodes)) one
          (next_counted (dictionary_in c.args.w.now) c.args.marks.now places (length (graph_of c.args.graph.now).nodes) (length (graph_of c.loop-position.graph).nodes) (length c.loop-position.yielded) c.in-Some.position.now
          (subst (IsStrictlySortedBy nat_cmp) (sym start) c.places-position-items.ensures.ascending) are turn.0 here c.loop-position.invariant.counted (length (graph_of c.define.new.graph).nodes)
          (omega (arith, c.in_ok-define.ensures.adds, same_calls c.args.w.now c.loop-position.w c.in-Some.position.now c.loop-position.invariant.same)));
      done = subst (AreDone c.define.new.w.memo places) one (one_done c.loop-position.w.memo c.define.new.w.memo places (length c.loop-position.yielded) c.in-Some.position.now c.in_ok-define.ensures.learned fits here c.loop-position.invariant.done);
    }

pub returns-clause-known : goal.returns-clause-known
returns-clause-known c =
    let places = c.into_iter-position-iterator.result in
    let start = c.into_iter-position-iterator.ensures.into_iter_gives in
    let are = subst (λ (ks : List ℕ). ArePositionsOf ks c.args.marks.now) (sym start) c.places-position-items.ensures.all in
    let end = iter_end shown places c.loop-position.yielded _ _ _ _ refl c.loop-position.yielded_by c.in-None.is c.next.ensures.steps in
    all_done c.loop-position.w.memo c.args.marks.now places (length c.loop-position.yielded) are (omega (arith, end.1)) c.loop-position.invariant.done
