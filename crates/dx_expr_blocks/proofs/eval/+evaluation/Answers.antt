use Rattle.std.proofs.Common.{◌≡◌, Bool, true, false, None, length, take, replicate, refl, rules, arith, sym, ap, subst, ◌∙◌}
use mir.Val.{SFits}
use Rattle.std.proofs.Common.{w32, w64, to_z-of_z}
use Rattle.std.specs.Prelude.{IfOk}
use Rattle.dx_expr_grammar.specs.declared.tree.Binary.TheVariants as binary
use Rattle.dx_expr_grammar.specs.declared.tree.Expression.TheVariants as expression
use Rattle.dx_expr.specs.Shape.{shape_of}
use Rattle.dx_expr.specs.declared.operators.Sides.TheVariants as sides
use Rattle.dx_expr.specs.Value.{checked, binary_value, sides_of}
use Rattle.dx_expr.proofs.Evaluating.{same_binary}
use Rattle.dx_expr.proofs.Fitting.{is_vectors}
use Rattle.dx_expr.proofs.Fitting as fitting
use Rattle.dx_expr.proofs.Nodes as nodes
use Rattle.dx_expr_blocks.specs.Block.{block_of, run_of, picked, passes, looking_where, up_to, both}
use Rattle.dx_expr_blocks.specs.Found.{IsFound, run_found}
use Rattle.dx_expr_blocks.specs.Items.{items_of, all_below}
use Rattle.dx_expr_blocks.proofs.Evaluation as evaluation
use Rattle.dx_expr_blocks.proofs.Same as same
use Rattle.dx_expr_blocks.proofs.eval.+evaluation.Goals as goal

pub evaluate-input_run-requires-clause-single : goal.evaluate-input_run-requires-clause-single
evaluate-input_run-requires-clause-single g t c =
    fitting.fit_input (g.I.Inputs.given c.args.inputs.now).shape c.args.e.now c.in-Input.k c.in-Input.is c.requires.single

pub evaluate-evaluate-requires : goal.evaluate-evaluate-requires
evaluate-evaluate-requires g t c κs within =
    (omega (arith, c.decreases, nodes.in_unary c.args.e.now c.in-Unary.operator c.in-Unary.a c.get.result.now c.in-Unary.is c.get.ensures), (search rules, (fitting.fit_unary (g.I.Inputs.given c.args.inputs.now).shape c.args.e.now c.in-Unary.operator c.in-Unary.a c.get.result.now c.in-Unary.is c.get.ensures c.requires.single, c.requires.within)))

pub evaluate-decision_run-requires : goal.evaluate-decision_run-requires
evaluate-decision_run-requires g t c κs within =
    let this = same_binary c.args.e.now c.in-Binary.operator binary.Or c.in-Binary.a c.in-Binary.b c.get-in-Or.result.now c.get-in-Or-2.result.now c.in-Binary.is (sym c.in-Or.is) c.get-in-Or.ensures c.get-in-Or-2.ensures in
    (omega (arith, c.decreases, ap nodes.nodes this), (search rules, (ap (shape_of (g.I.Inputs.given c.args.inputs.now).shape) this ∙ c.requires.single, c.requires.within)))

pub evaluate-decision_run-requires-in-And : goal.evaluate-decision_run-requires-in-And
evaluate-decision_run-requires-in-And g t c κs within =
    let this = same_binary c.args.e.now c.in-Binary.operator binary.And c.in-Binary.a c.in-Binary.b c.get-in-And.result.now c.get-in-And-2.result.now c.in-Binary.is (sym c.in-And.is) c.get-in-And.ensures c.get-in-And-2.ensures in
    (omega (arith, c.decreases, ap nodes.nodes this), (search rules, (ap (shape_of (g.I.Inputs.given c.args.inputs.now).shape) this ∙ c.requires.single, c.requires.within)))

pub evaluate-operator_run-requires : goal.evaluate-operator_run-requires
evaluate-operator_run-requires g t c κs within =
    let this = same_binary c.args.e.now c.in-Binary.operator c.in-Binary.operator c.in-Binary.a c.in-Binary.b c.get-in_default.result.now c.get-in_default-2.result.now c.in-Binary.is refl c.get-in_default.ensures c.get-in_default-2.ensures in
    (omega (arith, c.decreases, ap nodes.nodes this), (search rules, (evaluation.both_of c.in-Binary.operator c.in_default.not-Or c.in_default.not-And c.in_default.not-Dot, (ap (shape_of (g.I.Inputs.given c.args.inputs.now).shape) this ∙ c.requires.single, c.requires.within))))

pub evaluate-choice_run-requires : goal.evaluate-choice_run-requires
evaluate-choice_run-requires g t c κs within =
    let this = evaluation.same_choice c.args.e.now c.in-Choice.condition c.in-Choice.a c.in-Choice.b c.get-in-Choice.result.now c.get-in-Choice-2.result.now c.get-in-Choice-3.result.now c.in-Choice.is c.get-in-Choice.ensures c.get-in-Choice-2.ensures c.get-in-Choice-3.ensures in
    (omega (arith, c.decreases, ap nodes.nodes this), (search rules, (ap (shape_of (g.I.Inputs.given c.args.inputs.now).shape) this ∙ c.requires.single, c.requires.within)))

pub evaluate-unreachable-requires : goal.evaluate-unreachable-requires
evaluate-unreachable-requires g t c =
    fitting.fit_nothing (g.I.Inputs.given c.args.inputs.now).shape c.args.e.now c.in-Vector.field-0 c.in-Vector.is c.requires.single

pub evaluate-returns-in-Number : goal.evaluate-returns-in-Number
evaluate-returns-in-Number g t c =
    let fits : SFits w64 c.from.result = search rules in
    subst (λ run. IfOk c.constant.result (λ found. IsFound run found)) (ap (λ v. up_to (replicate c.count.result (checked v))) (to_z-of_z fits ∙ c.from.ensures) ∙ evaluation.at_number (g.I.Inputs.given c.args.inputs.now) (items_of c.args.block) c.args.e.now c.in-Number.n c.count.result c.in-Number.is c.count.ensures) c.constant.ensures

pub evaluate-returns-in-Input : goal.evaluate-returns-in-Input
evaluate-returns-in-Input g t c =
    subst (λ run. IfOk c.input_run.result (λ found. IsFound run found)) (evaluation.at_input (g.I.Inputs.given c.args.inputs.now) (items_of c.args.block) c.args.e.now c.in-Input.k c.in-Input.is (fitting.fit_input (g.I.Inputs.given c.args.inputs.now).shape c.args.e.now c.in-Input.k c.in-Input.is c.requires.single)) c.input_run.ensures

pub evaluate-returns-in_ok-found-in-Unary : goal.evaluate-returns-in_ok-found-in-Unary
evaluate-returns-in_ok-found-in-Unary g t c =
    sym (evaluation.at_unary (g.I.Inputs.given c.args.inputs.now) (items_of c.args.block) c.args.e.now c.in-Unary.operator c.in-Unary.a c.get.result.now (run_found c.in_ok-found-in-Unary.found) c.in-Unary.is c.get.ensures (fitting.fit_unary (g.I.Inputs.given c.args.inputs.now).shape c.args.e.now c.in-Unary.operator c.in-Unary.a c.get.result.now c.in-Unary.is c.get.ensures c.requires.single) c.in_ok-found-in-Unary.ensures) ∙ c.on_each.ensures

pub evaluate-returns-in-Or : goal.evaluate-returns-in-Or
evaluate-returns-in-Or g t c =
    subst (λ x. IfOk c.decision_run.result (λ found. IsFound (block_of (g.I.Inputs.given c.args.inputs.now) x (items_of c.args.block)) found))
    (same_binary c.args.e.now c.in-Binary.operator binary.Or c.in-Binary.a c.in-Binary.b c.get-in-Or.result.now c.get-in-Or-2.result.now c.in-Binary.is (sym c.in-Or.is) c.get-in-Or.ensures c.get-in-Or-2.ensures)
    c.decision_run.ensures

pub evaluate-returns-in-And : goal.evaluate-returns-in-And
evaluate-returns-in-And g t c =
    subst (λ x. IfOk c.decision_run-in-And.result (λ found. IsFound (block_of (g.I.Inputs.given c.args.inputs.now) x (items_of c.args.block)) found))
    (same_binary c.args.e.now c.in-Binary.operator binary.And c.in-Binary.a c.in-Binary.b c.get-in-And.result.now c.get-in-And-2.result.now c.in-Binary.is (sym c.in-And.is) c.get-in-And.ensures c.get-in-And-2.ensures)
    c.decision_run-in-And.ensures

pub evaluate-returns-in_default : goal.evaluate-returns-in_default
evaluate-returns-in_default g t c =
    subst (λ x. IfOk c.operator_run.result (λ found. IsFound (block_of (g.I.Inputs.given c.args.inputs.now) x (items_of c.args.block)) found))
    (same_binary c.args.e.now c.in-Binary.operator c.in-Binary.operator c.in-Binary.a c.in-Binary.b c.get-in_default.result.now c.get-in_default-2.result.now c.in-Binary.is refl c.get-in_default.ensures c.get-in_default-2.ensures)
    c.operator_run.ensures

pub evaluate-returns-in-Choice : goal.evaluate-returns-in-Choice
evaluate-returns-in-Choice g t c =
    subst (λ x. IfOk c.choice_run.result (λ found. IsFound (block_of (g.I.Inputs.given c.args.inputs.now) x (items_of c.args.block)) found))
    (evaluation.same_choice c.args.e.now c.in-Choice.condition c.in-Choice.a c.in-Choice.b c.get-in-Choice.result.now c.get-in-Choice-2.result.now c.get-in-Choice-3.result.now c.in-Choice.is c.get-in-Choice.ensures c.get-in-Choice-2.ensures c.get-in-Choice-3.ensures)
    c.choice_run.ensures

-- ---- an operator of two values

pub operator_run-evaluate-requires : goal.operator_run-evaluate-requires
operator_run-evaluate-requires g t c κs within =
    let this = expression.Binary c.args.operator c.args.a.now c.args.b.now in
    (omega (arith, c.decreases, nodes.in_left this c.args.operator c.args.a.now c.args.b.now c.args.a.now refl refl), (search rules, (fitting.fit_left (g.I.Inputs.given c.args.inputs.now).shape this sides.Both c.args.operator c.args.a.now c.args.b.now c.args.a.now refl (sym c.requires.both) refl refl c.requires.single, c.requires.within)))

pub operator_run-same_value-requires : goal.operator_run-same_value-requires
operator_run-same_value-requires g t c =
    let this = expression.Binary c.args.operator c.args.a.now c.args.b.now in
    fitting.fit_right (g.I.Inputs.given c.args.inputs.now).shape this sides.Both c.args.operator c.args.a.now c.args.b.now c.args.b.now refl (sym c.requires.both) refl refl c.requires.single

pub operator_run-first-reached-requires : goal.operator_run-first-reached-requires
operator_run-first-reached-requires g t c =
    let n : c.len.result ≡ length c.in_ok-left.left.values.items = omega (arith, c.len.ensures, c.in_ok-left.left.values.ok.0) in
    omega (arith, n, evaluation.reached_le (g.I.Inputs.given c.args.inputs.now) c.args.a.now (items_of c.args.block) (run_found c.in_ok-left.left) c.in_ok-left.left.values.items c.in_ok-left.ensures refl)

pub operator_run-evaluate-requires-2 : goal.operator_run-evaluate-requires-2
operator_run-evaluate-requires-2 g t c κs within =
    let this = expression.Binary c.args.operator c.args.a.now c.args.b.now in
    (omega (arith, c.decreases, nodes.in_right this c.args.operator c.args.a.now c.args.b.now c.args.b.now refl refl), (search rules, (fitting.fit_right (g.I.Inputs.given c.args.inputs.now).shape this sides.Both c.args.operator c.args.a.now c.args.b.now c.args.b.now refl (sym c.requires.both) refl refl c.requires.single, evaluation.first_below (g.I.Inputs.items c.args.inputs.now) c.len.result (items_of c.args.block) (items_of c.first-reached.result) c.requires.within c.first-reached.ensures)))

pub operator_run-returns-in-Some : goal.operator_run-returns-in-Some
operator_run-returns-in-Some g t c =
    let inputs = g.I.Inputs.given c.args.inputs.now in
    let items = items_of c.args.block in
    let this = expression.Binary c.args.operator c.args.a.now c.args.b.now in
    let left = run_found c.in_ok-left.left in
    let reached = take (length left.values) items in
    let fits : SFits w32 c.in-Some.value = search rules in
    let below : all_below (g.I.Inputs.items c.args.inputs.now) reached = evaluation.first_below (g.I.Inputs.items c.args.inputs.now) (length left.values) items reached c.requires.within refl in
    let beside = same.beside_left inputs c.args.a.now c.args.b.now items left c.in-Some.value c.in_ok-left.ensures (c.in-Some.ensures reached below) in
    sym (evaluation.at_both inputs items c.args.operator c.args.a.now c.args.b.now left (run_of (replicate (length left.values) c.in-Some.value) None) reached c.requires.both (fitting.fit_left inputs.shape this sides.Both c.args.operator c.args.a.now c.args.b.now c.args.a.now refl (sym c.requires.both) refl refl c.requires.single) (fitting.fit_right inputs.shape this sides.Both c.args.operator c.args.a.now c.args.b.now c.args.b.now refl (sym c.requires.both) refl refl c.requires.single) c.in_ok-left.ensures refl beside)
    ∙ ap (λ v. both (binary_value c.args.operator) left (run_of (replicate (length left.values) v) None)) (sym (to_z-of_z fits))
    ∙ c.on_one_value.ensures

pub operator_run-returns : goal.operator_run-returns
operator_run-returns g t c =
    let inputs = g.I.Inputs.given c.args.inputs.now in
    let items = items_of c.args.block in
    let this = expression.Binary c.args.operator c.args.a.now c.args.b.now in
    let n : c.len.result ≡ length c.in_ok-left.left.values.items = omega (arith, c.len.ensures, c.in_ok-left.left.values.ok.0) in
    subst (λ run. IfOk c.on_both.result (λ found. IsFound run found)) (evaluation.at_both inputs items c.args.operator c.args.a.now c.args.b.now (run_found c.in_ok-left.left) (run_found c.in_ok-right.right) (items_of c.first-reached.result) c.requires.both (fitting.fit_left inputs.shape this sides.Both c.args.operator c.args.a.now c.args.b.now c.args.a.now refl (sym c.requires.both) refl refl c.requires.single) (fitting.fit_right inputs.shape this sides.Both c.args.operator c.args.a.now c.args.b.now c.args.b.now refl (sym c.requires.both) refl refl c.requires.single) c.in_ok-left.ensures (c.first-reached.ensures ∙ ap (λ n. take n items) n) c.in_ok-right.ensures) c.on_both.ensures

-- ---- && and ||

-- the operators look at their sides in order
in_order : (wanted : Bool) → is_vectors (sides_of (looking_where wanted)) ≡ false
in_order true = refl
in_order false = refl

pub decision_run-evaluate-requires : goal.decision_run-evaluate-requires
decision_run-evaluate-requires g t c κs within =
    let o = looking_where c.args.wanted in
    let this = expression.Binary o c.args.a.now c.args.b.now in
    (omega (arith, c.decreases, nodes.in_left this o c.args.a.now c.args.b.now c.args.a.now refl refl), (search rules, (fitting.fit_left (g.I.Inputs.given c.args.inputs.now).shape this (sides_of o) o c.args.a.now c.args.b.now c.args.a.now refl refl (in_order c.args.wanted) refl c.requires.single, c.requires.within)))

pub decision_run-picks-requires : goal.decision_run-picks-requires
decision_run-picks-requires g t c =
    evaluation.reached_le (g.I.Inputs.given c.args.inputs.now) c.args.a.now (items_of c.args.block) (run_found c.in_ok-left.left) c.as_slice.result.now c.in_ok-left.ensures c.as_slice.ensures.value

pub decision_run-evaluate-requires-2 : goal.decision_run-evaluate-requires-2
decision_run-evaluate-requires-2 g t c κs within =
    let o = looking_where c.args.wanted in
    let this = expression.Binary o c.args.a.now c.args.b.now in
    (omega (arith, c.decreases, nodes.in_right this o c.args.a.now c.args.b.now c.args.b.now refl refl), (search rules, (fitting.fit_right (g.I.Inputs.given c.args.inputs.now).shape this (sides_of o) o c.args.a.now c.args.b.now c.args.b.now refl refl (in_order c.args.wanted) refl c.requires.single, evaluation.listed_below (g.I.Inputs.items c.args.inputs.now) (passes c.args.wanted) c.in_ok-left.left.values.items (items_of c.args.block) c.as_slice-2.result.now c.requires.within (c.as_slice-2.ensures.value ∙ c.in_ok-items.ensures ∙ ap (λ s. picked (passes c.args.wanted) s (items_of c.args.block)) c.as_slice.ensures.value))))

pub decision_run-returns-in_ok-fixed : goal.decision_run-returns-in_ok-fixed
decision_run-returns-in_ok-fixed g t c =
    let items = items_of c.args.block in
    subst (λ run. IfOk c.chosen.result (λ found. IsFound run found))
    (evaluation.at_and (g.I.Inputs.given c.args.inputs.now) items c.args.wanted c.args.a.now c.args.b.now (run_found c.in_ok-left.left) (run_found c.in_ok-right.right) (run_found c.decisions-looked.result) (run_found c.in_ok-fixed.fixed) c.as_slice-2.result.now c.saturating_sub-rest.result c.if-wanted.true
    c.in_ok-left.ensures (c.as_slice-2.ensures.value ∙ c.in_ok-items.ensures ∙ ap (λ s. picked (passes c.args.wanted) s items) c.as_slice.ensures.value) c.in_ok-right.ensures c.decisions-looked.ensures
    (omega (arith, c.saturating_sub-rest.ensures, c.len.ensures, c.len-2.ensures, c.as_slice.ensures.len, ap length c.as_slice.ensures.value, c.as_slice-2.ensures.len)) c.in_ok-fixed.ensures)
    c.chosen.ensures

pub decision_run-returns-in_ok-fixed-2 : goal.decision_run-returns-in_ok-fixed-2
decision_run-returns-in_ok-fixed-2 g t c =
    let items = items_of c.args.block in
    subst (λ run. IfOk c.chosen-else-wanted.result (λ found. IsFound run found))
    (evaluation.at_or (g.I.Inputs.given c.args.inputs.now) items c.args.wanted c.args.a.now c.args.b.now (run_found c.in_ok-left.left) (run_found c.in_ok-right.right) (run_found c.decisions-looked.result) (run_found c.in_ok-fixed-2.fixed) c.as_slice-2.result.now c.saturating_sub-rest.result c.if-wanted.false
    c.in_ok-left.ensures (c.as_slice-2.ensures.value ∙ c.in_ok-items.ensures ∙ ap (λ s. picked (passes c.args.wanted) s items) c.as_slice.ensures.value) c.in_ok-right.ensures c.decisions-looked.ensures
    (omega (arith, c.saturating_sub-rest.ensures, c.len.ensures, c.len-2.ensures, c.as_slice.ensures.len, ap length c.as_slice.ensures.value, c.as_slice-2.ensures.len)) c.in_ok-fixed-2.ensures)
    c.chosen-else-wanted.ensures

-- ---- a choice

pub choice_run-evaluate-requires : goal.choice_run-evaluate-requires
choice_run-evaluate-requires g t c κs within =
    let this = expression.Choice c.args.condition.now c.args.a.now c.args.b.now in
    (omega (arith, c.decreases, nodes.in_condition this c.args.condition.now c.args.a.now c.args.b.now c.args.condition.now refl refl), (search rules, (fitting.fit_condition (g.I.Inputs.given c.args.inputs.now).shape this c.args.condition.now c.args.a.now c.args.b.now c.args.condition.now refl refl c.requires.single, c.requires.within)))

pub choice_run-picks-requires : goal.choice_run-picks-requires
choice_run-picks-requires g t c =
    evaluation.reached_le (g.I.Inputs.given c.args.inputs.now) c.args.condition.now (items_of c.args.block) (run_found c.in_ok-conditions.conditions) c.as_slice.result.now c.in_ok-conditions.ensures c.as_slice.ensures.value

pub choice_run-evaluate-requires-2 : goal.choice_run-evaluate-requires-2
choice_run-evaluate-requires-2 g t c κs within =
    let this = expression.Choice c.args.condition.now c.args.a.now c.args.b.now in
    (omega (arith, c.decreases, nodes.in_one this c.args.condition.now c.args.a.now c.args.b.now c.args.a.now refl refl), (search rules, (fitting.fit_one (g.I.Inputs.given c.args.inputs.now).shape this c.args.condition.now c.args.a.now c.args.b.now c.args.a.now refl refl c.requires.single, evaluation.listed_below (g.I.Inputs.items c.args.inputs.now) (passes true) c.in_ok-conditions.conditions.values.items (items_of c.args.block) c.as_slice-2.result.now c.requires.within (c.as_slice-2.ensures.value ∙ c.in_ok-one_items.ensures ∙ ap (λ s. picked (passes true) s (items_of c.args.block)) c.as_slice.ensures.value))))

pub choice_run-picks-requires-2 : goal.choice_run-picks-requires-2
choice_run-picks-requires-2 g t c =
    evaluation.reached_le (g.I.Inputs.given c.args.inputs.now) c.args.condition.now (items_of c.args.block) (run_found c.in_ok-conditions.conditions) c.as_slice-3.result.now c.in_ok-conditions.ensures c.as_slice-3.ensures.value

pub choice_run-evaluate-requires-3 : goal.choice_run-evaluate-requires-3
choice_run-evaluate-requires-3 g t c κs within =
    let this = expression.Choice c.args.condition.now c.args.a.now c.args.b.now in
    (omega (arith, c.decreases, nodes.in_other this c.args.condition.now c.args.a.now c.args.b.now c.args.b.now refl refl), (search rules, (fitting.fit_other (g.I.Inputs.given c.args.inputs.now).shape this c.args.condition.now c.args.a.now c.args.b.now c.args.b.now refl refl c.requires.single, evaluation.listed_below (g.I.Inputs.items c.args.inputs.now) (passes false) c.in_ok-conditions.conditions.values.items (items_of c.args.block) c.as_slice-4.result.now c.requires.within (c.as_slice-4.ensures.value ∙ c.in_ok-other_items.ensures ∙ ap (λ s. picked (passes false) s (items_of c.args.block)) c.as_slice-3.ensures.value))))

pub choice_run-returns : goal.choice_run-returns
choice_run-returns g t c =
    let items = items_of c.args.block in
    subst (λ run. IfOk c.chosen.result (λ found. IsFound run found))
    (evaluation.at_choice (g.I.Inputs.given c.args.inputs.now) items c.args.condition.now c.args.a.now c.args.b.now (run_found c.in_ok-conditions.conditions) (run_found c.in_ok-ones.ones) (run_found c.in_ok-others.others) c.as_slice-2.result.now c.as_slice-4.result.now
    c.in_ok-conditions.ensures (c.as_slice-2.ensures.value ∙ c.in_ok-one_items.ensures ∙ ap (λ s. picked (passes true) s items) c.as_slice.ensures.value) c.in_ok-ones.ensures (c.as_slice-4.ensures.value ∙ c.in_ok-other_items.ensures ∙ ap (λ s. picked (passes false) s items) c.as_slice-3.ensures.value) c.in_ok-others.ensures)
    c.chosen.ensures
