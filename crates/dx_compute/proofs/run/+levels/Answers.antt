use Rattle.std.proofs.Common.{rules, arith, ◌≡◌, ◌+◌, ◌-◌, ◌++◌, ◌∷◌, [], ℕ, Ok, Err, length, sym, ap, subst, ◌∙◌, length-append}
use Rattle.std.specs.Prelude.{map}
use Rattle.std.specs.List.{range_with_len}
use Rattle.dx_base.specs.Answers.{Answers}
use Rattle.dx_base.specs.Object.{Tree, part_count}
use Rattle.dx_objects.proofs.PartsLaws.{part_count_is}
use Rattle.dx_expr_eval.proofs.Answering.{passed_on}
use Rattle.dx_compute_meaning.specs.Answered.{Answered, collected}
use Rattle.dx_compute_meaning.specs.Compute.{answer_within, in_limits, remade}
use Rattle.dx_compute_meaning.specs.Operands.{all_given, are_all, groups, member_count, all_at_place}
use Rattle.dx_compute_meaning.specs.Shown.{shown, shown_one, objects_of, behind, code_in}
use Rattle.dx_compute_meaning.proofs.Codes.{answered_first, refused_first, collected_next, collected_fails, either_err, some_to}
use Rattle.dx_compute_meaning.proofs.Levels.{step_none, step_unlike, step_groups, member_list, first_group_is}
use Rattle.dx_compute_meaning.proofs.Places.{objects_push}
use Rattle.dx_compute.proofs.run.+levels.Goals as goal

pub answer_within-returns-in_default : goal.answer_within-returns-in_default
answer_within-returns-in_default t c =
    let vs = shown c.args.operands.now in
    subst (λ t. Answers code_in t c.over_arrays-in_default.result)
    (sym (step_none c.args.levels c.args.e.now vs (ap (λ k. all_given k vs) (sym c.requires.used) ∙ sym c.if-not-all_given.ensures) (sym c.first_group.ensures ∙ ap shown_one c.in_default.is)))
    c.over_arrays-in_default.ensures

pub answer_within-returns-then-not-are_alike : goal.answer_within-returns-then-not-are_alike
answer_within-returns-then-not-are_alike t c =
    let vs = shown c.args.operands.now in
    let count : member_count c.in-Some.group.now ≡ length c.parts-count.result.now = ap part_count (sym c.parts-count.ensures) ∙ part_count_is c.parts-count.result.now in
    step_unlike c.args.levels c.args.e.now vs c.in-Some.group.now (search rules) (ap (λ k. all_given k vs) (sym c.requires.used) ∙ sym c.if-not-all_given.ensures) (sym c.in-Some.ensures)
    (ap (λ k. are_all k (map member_count (groups vs))) count ∙ sym c.if-not-are_alike.ensures)

pub answer_within-returns-in_err-members : goal.answer_within-returns-in_err-members
answer_within-returns-in_err-members t c =
    let vs = shown c.args.operands.now in
    let e = c.args.e.now in
    let g = c.in-Some.group.now in
    let count : member_count g ≡ length c.parts-count.result.now = ap part_count (sym c.parts-count.ensures) ∙ part_count_is c.parts-count.result.now in
    let step = step_groups c.args.levels e vs g (search rules) (ap (λ k. all_given k vs) (sym c.requires.used) ∙ sym c.if-not-all_given.ensures) (sym c.in-Some.ensures)
    (ap (λ k. are_all k (map member_count (groups vs))) count ∙ sym c.if-not-are_alike.ensures) in
    passed_on code_in (member_list (c.args.levels - 1) e vs (length c.parts-count.result.now)) (answer_within c.args.levels e vs) c.in_err-members.field-0.0 c.from_residual.result (search rules)
    (λ code is. step ∙ refused_first (member_list (c.args.levels - 1) e vs (member_count g)) (λ ts. in_limits (remade g ts)) code (ap (λ n. member_list (c.args.levels - 1) e vs n) count ∙ is))
    c.in_err-members.ensures.answers

pub answer_within-remade-requires : goal.answer_within-remade-requires
answer_within-remade-requires t c = first_group_is (shown c.args.operands.now) c.in-Some.group.now (sym c.in-Some.ensures)

pub answer_within-returns : goal.answer_within-returns
answer_within-returns t c =
    let vs = shown c.args.operands.now in
    let e = c.args.e.now in
    let g = c.in-Some.group.now in
    let count : member_count g ≡ length c.parts-count.result.now = ap part_count (sym c.parts-count.ensures) ∙ part_count_is c.parts-count.result.now in
    let step = step_groups c.args.levels e vs g (search rules) (ap (λ k. all_given k vs) (sym c.requires.used) ∙ sym c.if-not-all_given.ensures) (sym c.in-Some.ensures)
    (ap (λ k. are_all k (map member_count (groups vs))) count ∙ sym c.if-not-are_alike.ensures) in
    subst (λ t. Answers code_in t c.remade.result)
    (sym (step ∙ answered_first (member_list (c.args.levels - 1) e vs (member_count g)) (λ ts. in_limits (remade g ts)) (objects_of c.in_ok-members.members) (ap (λ n. member_list (c.args.levels - 1) e vs n) count ∙ c.in_ok-members.ensures.answers)
    ∙ ap (λ os. in_limits (remade g (objects_of os))) (sym c.as_slice.ensures)))
    c.remade.ensures

pub member_answers-returns-in_err-object-clause-answers : goal.member_answers-returns-in_err-object-clause-answers
member_answers-returns-in_err-object-clause-answers t c =
    let vs = shown c.args.operands.now in
    let f : ℕ → Answered Tree = λ i. answer_within c.args.levels c.args.e.now (all_at_place i vs) in
    let same : f c.loop-i.i ≡ answer_within c.args.levels c.args.e.now (shown c.as_slice.result.now) = ap (answer_within c.args.levels c.args.e.now) (sym c.in_ok-members.ensures ∙ ap shown (sym c.as_slice.ensures.value)) in
    either_err code_in (λ os. collected (map f (range_with_len 0 c.args.count)) ≡ Ok (objects_of os)) (λ code. collected (map f (range_with_len 0 c.args.count)) ≡ Err code) c.in_err-object.field-0.0 c.from_residual-in_err-object.result (search rules)
    (some_to (λ code. answer_within c.args.levels c.args.e.now (shown c.as_slice.result.now) ≡ Err code) (λ code. collected (map f (range_with_len 0 c.args.count)) ≡ Err code) (code_in c.in_err-object.field-0.0)
    (λ code is. sym c.loop-i.invariant.rest ∙ collected_fails f (objects_of c.loop-i.found) c.loop-i.i c.args.count (search rules) code (same ∙ is))
    c.in_err-object.ensures)

pub member_answers-loop-i-preserved : goal.member_answers-loop-i-preserved
member_answers-loop-i-preserved t c =
    let vs = shown c.args.operands.now in
    let f : ℕ → Answered Tree = λ i. answer_within c.args.levels c.args.e.now (all_at_place i vs) in
    let found = c.loop-i.found in
    let rest = collected (map f (range_with_len (c.loop-i.i + 1) (c.args.count - (c.loop-i.i + 1)))) in
    let same : f c.loop-i.i ≡ answer_within c.args.levels c.args.e.now (shown c.as_slice.result.now) = ap (answer_within c.args.levels c.args.e.now) (sym c.in_ok-members.ensures ∙ ap shown (sym c.as_slice.ensures.value)) in
    record {
      rest = ap (λ l. behind l rest) (ap objects_of c.in_ok-push.ensures.ok ∙ objects_push found c.in_ok-shared.field-0 ∙ ap (λ v. objects_of found ++ v ∷ []) c.in_ok-shared.ensures)
          ∙ sym (collected_next f (objects_of found) c.loop-i.i c.args.count (search rules) c.in_ok-object.object (same ∙ c.in_ok-object.ensures)) ∙ c.loop-i.invariant.rest;
      count = omega (arith, ap length c.in_ok-push.ensures.ok, length-append found (c.in_ok-shared.field-0 ∷ []), c.loop-i.invariant.count);
    }
