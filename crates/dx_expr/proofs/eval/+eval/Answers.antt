use Rattle.std.proofs.Common.{pos, rules, arith, [], ◌∷◌, refl, sym, ap, ◌∙◌}
use Rattle.std.specs.Prelude.{slice_index_or, map}
use mir.Val.{SFits}
use Rattle.std.proofs.Common.{w32, to_z-of_z}
use Rattle.dx_expr.specs.Shape.{shape_of}
use Rattle.dx_expr_grammar.specs.declared.tree.Expression.TheVariants as expression
use Rattle.dx_expr.specs.declared.operators.Sides.TheVariants as sides
use Rattle.dx_expr.specs.Value.{value_of, values_by, dot_product, side_by_side, binary_value, after, each, unary_value, alone, joined, ◌>>=◌}
use Rattle.dx_expr.proofs.Equations.{value_number, value_input, value_unary, value_part, value_vector}
use Rattle.dx_expr.proofs.Fitting as fitting
use Rattle.dx_expr.proofs.Evaluating as evaluating
use Rattle.dx_expr.proofs.Nodes as nodes
use Rattle.dx_expr.proofs.eval.+eval.Goals as goal

pub single_value-single_input-requires-clause-single : goal.single_value-single_input-requires-clause-single
single_value-single_input-requires-clause-single g t c =
    fitting.fit_input (g.I.Inputs.given c.args.inputs.now).shape c.args.e.now c.in-Input.k c.in-Input.is c.requires.single

pub single_value-single_value-requires : goal.single_value-single_value-requires
single_value-single_value-requires g t c =
    λ κs lives. (omega (arith, c.decreases, nodes.in_unary c.args.e.now c.in-Unary.operator c.in-Unary.a c.get.result.now c.in-Unary.is c.get.ensures), (search rules, (fitting.fit_unary (g.I.Inputs.given c.args.inputs.now).shape c.args.e.now c.in-Unary.operator c.in-Unary.a c.get.result.now c.in-Unary.is c.get.ensures c.requires.single, c.requires.item)))

pub single_value-operator_value-requires : goal.single_value-operator_value-requires
single_value-operator_value-requires g t c =
    let this = evaluating.same_binary c.args.e.now c.in-Binary.operator c.in-Binary.operator c.in-Binary.a c.in-Binary.b c.get-in-Binary.result.now c.get-in-Binary-2.result.now c.in-Binary.is refl c.get-in-Binary.ensures c.get-in-Binary-2.ensures in
    λ κs lives. (omega (arith, c.decreases, ap nodes.nodes this), (search rules, (ap (shape_of (g.I.Inputs.given c.args.inputs.now).shape) this ∙ c.requires.single, c.requires.item)))

pub single_value-returns-in-Binary : goal.single_value-returns-in-Binary
single_value-returns-in-Binary g t c =
    evaluating.single_along c.operator_value.result _ _ (ap (value_of (g.I.Inputs.given c.args.inputs.now) c.args.item) (sym (evaluating.same_binary c.args.e.now c.in-Binary.operator c.in-Binary.operator c.in-Binary.a c.in-Binary.b c.get-in-Binary.result.now c.get-in-Binary-2.result.now c.in-Binary.is refl c.get-in-Binary.ensures c.get-in-Binary-2.ensures))) c.operator_value.ensures

pub single_value-single_value-requires-in-Choice : goal.single_value-single_value-requires-in-Choice
single_value-single_value-requires-in-Choice g t c =
    λ κs lives. (omega (arith, c.decreases, nodes.in_condition c.args.e.now c.in-Choice.condition c.in-Choice.a c.in-Choice.b c.get-in-Choice.result.now c.in-Choice.is c.get-in-Choice.ensures), (search rules, (fitting.fit_condition (g.I.Inputs.given c.args.inputs.now).shape c.args.e.now c.in-Choice.condition c.in-Choice.a c.in-Choice.b c.get-in-Choice.result.now c.in-Choice.is c.get-in-Choice.ensures c.requires.single, c.requires.item)))

pub single_value-returns-in_err-c-in-Choice : goal.single_value-returns-in_err-c-in-Choice
single_value-returns-in_err-c-in-Choice g t c =
    evaluating.single_fails c.from_residual.result _ c.in_err-c-in-Choice.field-0.0 (search rules) (evaluating.fails_choice (g.I.Inputs.given c.args.inputs.now) c.args.item c.args.e.now c.in-Choice.condition c.in-Choice.a c.in-Choice.b c.get-in-Choice.result.now c.in_err-c-in-Choice.field-0.0 c.in-Choice.is c.get-in-Choice.ensures c.in_err-c-in-Choice.ensures)

pub single_value-single_value-requires-then-c-eq0 : goal.single_value-single_value-requires-then-c-eq0
single_value-single_value-requires-then-c-eq0 g t c =
    λ κs lives. (omega (arith, c.decreases, nodes.in_other c.args.e.now c.in-Choice.condition c.in-Choice.a c.in-Choice.b c.get-then-c-eq0.result.now c.in-Choice.is c.get-then-c-eq0.ensures), (search rules, (fitting.fit_other (g.I.Inputs.given c.args.inputs.now).shape c.args.e.now c.in-Choice.condition c.in-Choice.a c.in-Choice.b c.get-then-c-eq0.result.now c.in-Choice.is c.get-then-c-eq0.ensures c.requires.single, c.requires.item)))

pub single_value-single_value-requires-else-c-eq0 : goal.single_value-single_value-requires-else-c-eq0
single_value-single_value-requires-else-c-eq0 g t c =
    λ κs lives. (omega (arith, c.decreases, nodes.in_one c.args.e.now c.in-Choice.condition c.in-Choice.a c.in-Choice.b c.get-else-c-eq0.result.now c.in-Choice.is c.get-else-c-eq0.ensures), (search rules, (fitting.fit_one (g.I.Inputs.given c.args.inputs.now).shape c.args.e.now c.in-Choice.condition c.in-Choice.a c.in-Choice.b c.get-else-c-eq0.result.now c.in-Choice.is c.get-else-c-eq0.ensures c.requires.single, c.requires.item)))

pub single_value-returns-then-c-eq0 : goal.single_value-returns-then-c-eq0
single_value-returns-then-c-eq0 g t c =
    evaluating.single_along c.single_value-then-c-eq0.result _ _ (evaluating.at_other (g.I.Inputs.given c.args.inputs.now) c.args.item c.args.e.now c.in-Choice.condition c.in-Choice.a c.in-Choice.b c.get-in-Choice.result.now c.get-then-c-eq0.result.now c.in_ok-c-in-Choice.c c.in-Choice.is c.get-in-Choice.ensures c.get-then-c-eq0.ensures c.in_ok-c-in-Choice.ensures (evaluating.is_zero-is c.in_ok-c-in-Choice.c (search rules))) c.single_value-then-c-eq0.ensures

pub single_value-returns-else-c-eq0 : goal.single_value-returns-else-c-eq0
single_value-returns-else-c-eq0 g t c =
    evaluating.single_along c.single_value-else-c-eq0.result _ _ (evaluating.at_one (g.I.Inputs.given c.args.inputs.now) c.args.item c.args.e.now c.in-Choice.condition c.in-Choice.a c.in-Choice.b c.get-in-Choice.result.now c.get-else-c-eq0.result.now c.in_ok-c-in-Choice.c c.in-Choice.is c.get-in-Choice.ensures c.get-else-c-eq0.ensures c.in_ok-c-in-Choice.ensures (evaluating.is_zero-not c.in_ok-c-in-Choice.c (search rules))) c.single_value-else-c-eq0.ensures

pub single_value-all_values-requires : goal.single_value-all_values-requires
single_value-all_values-requires g t c =
    λ κs lives. (omega (arith, c.decreases, nodes.in_part c.args.e.now c.in-Part.a c.in-Part.k c.get-in-Part.result.now c.in-Part.is c.get-in-Part.ensures), (search rules, (fitting.fits_part (g.I.Inputs.given c.args.inputs.now).shape c.args.e.now c.in-Part.a c.in-Part.k c.get-in-Part.result.now c.in-Part.is c.get-in-Part.ensures (fitting.fit_some (g.I.Inputs.given c.args.inputs.now).shape c.args.e.now c.requires.single), c.requires.item)))

pub single_value-unreachable-requires : goal.single_value-unreachable-requires
single_value-unreachable-requires g t c =
    fitting.fit_nothing (g.I.Inputs.given c.args.inputs.now).shape c.args.e.now c.in-Vector.field-0 c.in-Vector.is c.requires.single

pub single_value-returns-in-Number : goal.single_value-returns-in-Number
single_value-returns-in-Number g t c =
    evaluating.single_along c.number.result _ _ (ap (value_of (g.I.Inputs.given c.args.inputs.now) c.args.item) c.in-Number.is ∙ value_number (g.I.Inputs.given c.args.inputs.now) c.args.item c.in-Number.n) c.number.ensures

pub single_value-returns-in-Input : goal.single_value-returns-in-Input
single_value-returns-in-Input g t c =
    evaluating.single_along c.single_input.result _ _ (ap (value_of (g.I.Inputs.given c.args.inputs.now) c.args.item) c.in-Input.is ∙ value_input (g.I.Inputs.given c.args.inputs.now) c.args.item c.in-Input.k) c.single_input.ensures

pub single_value-returns-in-Unary : goal.single_value-returns-in-Unary
single_value-returns-in-Unary g t c =
    evaluating.single_along c.on_one.result _ _ (ap (value_of (g.I.Inputs.given c.args.inputs.now) c.args.item) c.in-Unary.is ∙ value_unary (g.I.Inputs.given c.args.inputs.now) c.args.item c.in-Unary.operator c.in-Unary.a ∙ ap (after (each (unary_value c.in-Unary.operator))) (ap (value_of (g.I.Inputs.given c.args.inputs.now) c.args.item) (sym c.get.ensures))) (c.on_one.ensures ((value_of (g.I.Inputs.given c.args.inputs.now) c.args.item) c.get.result.now) c.single_value.ensures)

pub single_value-returns-in-Part : goal.single_value-returns-in-Part
single_value-returns-in-Part g t c =
    evaluating.single_along c.part_of.result _ _ (ap (value_of (g.I.Inputs.given c.args.inputs.now) c.args.item) c.in-Part.is ∙ value_part (g.I.Inputs.given c.args.inputs.now) c.args.item c.in-Part.a c.in-Part.k ∙ ap (after (λ x. alone (slice_index_or x c.in-Part.k (pos 0)))) (ap (value_of (g.I.Inputs.given c.args.inputs.now) c.args.item) (sym c.get-in-Part.ensures))) (c.part_of.ensures ((value_of (g.I.Inputs.given c.args.inputs.now) c.args.item) c.get-in-Part.result.now) c.all_values.ensures)

pub operator_value-single_value-requires : goal.operator_value-single_value-requires
operator_value-single_value-requires g t c =
    λ κs lives. (omega (arith, c.decreases, nodes.in_left (expression.Binary c.args.operator c.args.a.now c.args.b.now) c.args.operator c.args.a.now c.args.b.now c.args.a.now refl refl), (search rules, (fitting.fit_left (g.I.Inputs.given c.args.inputs.now).shape (expression.Binary c.args.operator c.args.a.now c.args.b.now) sides.UnlessTrue c.args.operator c.args.a.now c.args.b.now c.args.a.now refl c.in-UnlessTrue.ensures refl refl c.requires.single, c.requires.item)))

pub operator_value-single_value-requires-in-UnlessTrue : goal.operator_value-single_value-requires-in-UnlessTrue
operator_value-single_value-requires-in-UnlessTrue g t c =
    λ κs lives. (omega (arith, c.decreases, nodes.in_right (expression.Binary c.args.operator c.args.a.now c.args.b.now) c.args.operator c.args.a.now c.args.b.now c.args.b.now refl refl), (search rules, (fitting.fit_right (g.I.Inputs.given c.args.inputs.now).shape (expression.Binary c.args.operator c.args.a.now c.args.b.now) sides.UnlessTrue c.args.operator c.args.a.now c.args.b.now c.args.b.now refl c.in-UnlessTrue.ensures refl refl c.requires.single, c.requires.item)))

pub operator_value-single_value-requires-in-IfTrue : goal.operator_value-single_value-requires-in-IfTrue
operator_value-single_value-requires-in-IfTrue g t c =
    λ κs lives. (omega (arith, c.decreases, nodes.in_left (expression.Binary c.args.operator c.args.a.now c.args.b.now) c.args.operator c.args.a.now c.args.b.now c.args.a.now refl refl), (search rules, (fitting.fit_left (g.I.Inputs.given c.args.inputs.now).shape (expression.Binary c.args.operator c.args.a.now c.args.b.now) sides.IfTrue c.args.operator c.args.a.now c.args.b.now c.args.a.now refl c.in-IfTrue.ensures refl refl c.requires.single, c.requires.item)))

pub operator_value-single_value-requires-in-IfTrue-2 : goal.operator_value-single_value-requires-in-IfTrue-2
operator_value-single_value-requires-in-IfTrue-2 g t c =
    λ κs lives. (omega (arith, c.decreases, nodes.in_right (expression.Binary c.args.operator c.args.a.now c.args.b.now) c.args.operator c.args.a.now c.args.b.now c.args.b.now refl refl), (search rules, (fitting.fit_right (g.I.Inputs.given c.args.inputs.now).shape (expression.Binary c.args.operator c.args.a.now c.args.b.now) sides.IfTrue c.args.operator c.args.a.now c.args.b.now c.args.b.now refl c.in-IfTrue.ensures refl refl c.requires.single, c.requires.item)))

pub operator_value-single_value-requires-in-Both : goal.operator_value-single_value-requires-in-Both
operator_value-single_value-requires-in-Both g t c =
    λ κs lives. (omega (arith, c.decreases, nodes.in_left (expression.Binary c.args.operator c.args.a.now c.args.b.now) c.args.operator c.args.a.now c.args.b.now c.args.a.now refl refl), (search rules, (fitting.fit_left (g.I.Inputs.given c.args.inputs.now).shape (expression.Binary c.args.operator c.args.a.now c.args.b.now) sides.Both c.args.operator c.args.a.now c.args.b.now c.args.a.now refl c.in-Both.ensures refl refl c.requires.single, c.requires.item)))

pub operator_value-single_value-requires-in-Both-2 : goal.operator_value-single_value-requires-in-Both-2
operator_value-single_value-requires-in-Both-2 g t c =
    λ κs lives. (omega (arith, c.decreases, nodes.in_right (expression.Binary c.args.operator c.args.a.now c.args.b.now) c.args.operator c.args.a.now c.args.b.now c.args.b.now refl refl), (search rules, (fitting.fit_right (g.I.Inputs.given c.args.inputs.now).shape (expression.Binary c.args.operator c.args.a.now c.args.b.now) sides.Both c.args.operator c.args.a.now c.args.b.now c.args.b.now refl c.in-Both.ensures refl refl c.requires.single, c.requires.item)))

pub operator_value-returns-in_err-x-in-UnlessTrue : goal.operator_value-returns-in_err-x-in-UnlessTrue
operator_value-returns-in_err-x-in-UnlessTrue g t c =
    evaluating.single_fails c.from_residual.result _ c.in_err-x-in-UnlessTrue.field-0.0 (search rules) (evaluating.fails_along _ _ c.in_err-x-in-UnlessTrue.field-0.0 (evaluating.at_binary (g.I.Inputs.given c.args.inputs.now) c.args.item (expression.Binary c.args.operator c.args.a.now c.args.b.now) sides.UnlessTrue c.args.operator c.args.a.now c.args.b.now c.args.a.now c.args.b.now refl c.in-UnlessTrue.ensures refl refl) (evaluating.fails_by sides.UnlessTrue c.args.operator ((value_of (g.I.Inputs.given c.args.inputs.now) c.args.item) c.args.a.now) ((value_of (g.I.Inputs.given c.args.inputs.now) c.args.item) c.args.b.now) c.in_err-x-in-UnlessTrue.field-0.0 c.in_err-x-in-UnlessTrue.ensures))

pub operator_value-returns-in_err-x-in-IfTrue : goal.operator_value-returns-in_err-x-in-IfTrue
operator_value-returns-in_err-x-in-IfTrue g t c =
    evaluating.single_fails c.from_residual-in_err-x-in-IfTrue.result _ c.in_err-x-in-IfTrue.field-0.0 (search rules) (evaluating.fails_along _ _ c.in_err-x-in-IfTrue.field-0.0 (evaluating.at_binary (g.I.Inputs.given c.args.inputs.now) c.args.item (expression.Binary c.args.operator c.args.a.now c.args.b.now) sides.IfTrue c.args.operator c.args.a.now c.args.b.now c.args.a.now c.args.b.now refl c.in-IfTrue.ensures refl refl) (evaluating.fails_by sides.IfTrue c.args.operator ((value_of (g.I.Inputs.given c.args.inputs.now) c.args.item) c.args.a.now) ((value_of (g.I.Inputs.given c.args.inputs.now) c.args.item) c.args.b.now) c.in_err-x-in-IfTrue.field-0.0 c.in_err-x-in-IfTrue.ensures))

pub operator_value-returns-in_err-x-in-Vectors : goal.operator_value-returns-in_err-x-in-Vectors
operator_value-returns-in_err-x-in-Vectors g t c =
    evaluating.single_fails c.from_residual-in_err-x-in-Vectors.result _ c.in_err-x-in-Vectors.field-0.0 (search rules) (evaluating.fails_along _ _ c.in_err-x-in-Vectors.field-0.0 (evaluating.at_binary (g.I.Inputs.given c.args.inputs.now) c.args.item (expression.Binary c.args.operator c.args.a.now c.args.b.now) sides.Vectors c.args.operator c.args.a.now c.args.b.now c.args.a.now c.args.b.now refl c.in-Vectors.ensures refl refl) (evaluating.fails_by sides.Vectors c.args.operator ((value_of (g.I.Inputs.given c.args.inputs.now) c.args.item) c.args.a.now) ((value_of (g.I.Inputs.given c.args.inputs.now) c.args.item) c.args.b.now) c.in_err-x-in-Vectors.field-0.0 c.in_err-x-in-Vectors.ensures))

pub operator_value-returns-in_err-x-in-Both : goal.operator_value-returns-in_err-x-in-Both
operator_value-returns-in_err-x-in-Both g t c =
    evaluating.single_fails c.from_residual-in_err-x-in-Both.result _ c.in_err-x-in-Both.field-0.0 (search rules) (evaluating.fails_along _ _ c.in_err-x-in-Both.field-0.0 (evaluating.at_binary (g.I.Inputs.given c.args.inputs.now) c.args.item (expression.Binary c.args.operator c.args.a.now c.args.b.now) sides.Both c.args.operator c.args.a.now c.args.b.now c.args.a.now c.args.b.now refl c.in-Both.ensures refl refl) (evaluating.fails_by sides.Both c.args.operator ((value_of (g.I.Inputs.given c.args.inputs.now) c.args.item) c.args.a.now) ((value_of (g.I.Inputs.given c.args.inputs.now) c.args.item) c.args.b.now) c.in_err-x-in-Both.field-0.0 c.in_err-x-in-Both.ensures))

pub operator_value-returns-then-x-ne0 : goal.operator_value-returns-then-x-ne0
operator_value-returns-then-x-ne0 g t c =
    evaluating.at_binary (g.I.Inputs.given c.args.inputs.now) c.args.item (expression.Binary c.args.operator c.args.a.now c.args.b.now) sides.UnlessTrue c.args.operator c.args.a.now c.args.b.now c.args.a.now c.args.b.now refl c.in-UnlessTrue.ensures refl refl ∙ evaluating.then_unless c.args.operator ((value_of (g.I.Inputs.given c.args.inputs.now) c.args.item) c.args.a.now) ((value_of (g.I.Inputs.given c.args.inputs.now) c.args.item) c.args.b.now) c.in_ok-x-in-UnlessTrue.x c.in_ok-x-in-UnlessTrue.ensures (search rules)

pub operator_value-returns-then-x-eq0 : goal.operator_value-returns-then-x-eq0
operator_value-returns-then-x-eq0 g t c =
    evaluating.at_binary (g.I.Inputs.given c.args.inputs.now) c.args.item (expression.Binary c.args.operator c.args.a.now c.args.b.now) sides.IfTrue c.args.operator c.args.a.now c.args.b.now c.args.a.now c.args.b.now refl c.in-IfTrue.ensures refl refl ∙ evaluating.then_if c.args.operator ((value_of (g.I.Inputs.given c.args.inputs.now) c.args.item) c.args.a.now) ((value_of (g.I.Inputs.given c.args.inputs.now) c.args.item) c.args.b.now) c.in_ok-x-in-IfTrue.x c.in_ok-x-in-IfTrue.ensures (search rules)

pub operator_value-returns-else-x-ne0 : goal.operator_value-returns-else-x-ne0
operator_value-returns-else-x-ne0 g t c =
    evaluating.single_along c.decided.result _ _ (evaluating.at_binary (g.I.Inputs.given c.args.inputs.now) c.args.item (expression.Binary c.args.operator c.args.a.now c.args.b.now) sides.UnlessTrue c.args.operator c.args.a.now c.args.b.now c.args.a.now c.args.b.now refl c.in-UnlessTrue.ensures refl refl ∙ evaluating.else_unless c.args.operator ((value_of (g.I.Inputs.given c.args.inputs.now) c.args.item) c.args.a.now) ((value_of (g.I.Inputs.given c.args.inputs.now) c.args.item) c.args.b.now) c.in_ok-x-in-UnlessTrue.x c.in_ok-x-in-UnlessTrue.ensures (search rules)) (c.decided.ensures ((value_of (g.I.Inputs.given c.args.inputs.now) c.args.item) c.args.b.now) c.single_value-in-UnlessTrue.ensures)

pub operator_value-returns-else-x-eq0 : goal.operator_value-returns-else-x-eq0
operator_value-returns-else-x-eq0 g t c =
    evaluating.single_along c.decided-in-IfTrue.result _ _ (evaluating.at_binary (g.I.Inputs.given c.args.inputs.now) c.args.item (expression.Binary c.args.operator c.args.a.now c.args.b.now) sides.IfTrue c.args.operator c.args.a.now c.args.b.now c.args.a.now c.args.b.now refl c.in-IfTrue.ensures refl refl ∙ evaluating.else_if c.args.operator ((value_of (g.I.Inputs.given c.args.inputs.now) c.args.item) c.args.a.now) ((value_of (g.I.Inputs.given c.args.inputs.now) c.args.item) c.args.b.now) c.in_ok-x-in-IfTrue.x c.in_ok-x-in-IfTrue.ensures (search rules)) (c.decided-in-IfTrue.ensures ((value_of (g.I.Inputs.given c.args.inputs.now) c.args.item) c.args.b.now) c.single_value-in-IfTrue-2.ensures)

pub operator_value-all_values-requires : goal.operator_value-all_values-requires
operator_value-all_values-requires g t c =
    λ κs lives. (omega (arith, c.decreases, nodes.in_left (expression.Binary c.args.operator c.args.a.now c.args.b.now) c.args.operator c.args.a.now c.args.b.now c.args.a.now refl refl), (search rules, (fitting.fits_left (g.I.Inputs.given c.args.inputs.now).shape (expression.Binary c.args.operator c.args.a.now c.args.b.now) c.args.operator c.args.a.now c.args.b.now c.args.a.now refl refl (fitting.fit_some (g.I.Inputs.given c.args.inputs.now).shape (expression.Binary c.args.operator c.args.a.now c.args.b.now) c.requires.single), c.requires.item)))

pub operator_value-all_values-requires-in-Vectors : goal.operator_value-all_values-requires-in-Vectors
operator_value-all_values-requires-in-Vectors g t c =
    λ κs lives. (omega (arith, c.decreases, nodes.in_right (expression.Binary c.args.operator c.args.a.now c.args.b.now) c.args.operator c.args.a.now c.args.b.now c.args.b.now refl refl), (search rules, (fitting.fits_right (g.I.Inputs.given c.args.inputs.now).shape (expression.Binary c.args.operator c.args.a.now c.args.b.now) c.args.operator c.args.a.now c.args.b.now c.args.b.now refl refl (fitting.fit_some (g.I.Inputs.given c.args.inputs.now).shape (expression.Binary c.args.operator c.args.a.now c.args.b.now) c.requires.single), c.requires.item)))

pub operator_value-returns-in_ok-x-in-Vectors : goal.operator_value-returns-in_ok-x-in-Vectors
operator_value-returns-in_ok-x-in-Vectors g t c =
    evaluating.single_along c.dot_product.result _ _ (evaluating.at_binary (g.I.Inputs.given c.args.inputs.now) c.args.item (expression.Binary c.args.operator c.args.a.now c.args.b.now) sides.Vectors c.args.operator c.args.a.now c.args.b.now c.args.a.now c.args.b.now refl c.in-Vectors.ensures refl refl ∙ ap (λ q. values_by sides.Vectors c.args.operator q ((value_of (g.I.Inputs.given c.args.inputs.now) c.args.item) c.args.b.now)) c.in_ok-x-in-Vectors.ensures ∙ ap (λ l. ((value_of (g.I.Inputs.given c.args.inputs.now) c.args.item) c.args.b.now) >>= λ y. dot_product l y) (sym c.as_slice.ensures)) (c.dot_product.ensures ((value_of (g.I.Inputs.given c.args.inputs.now) c.args.item) c.args.b.now) c.all_values-in-Vectors.ensures)

pub operator_value-returns-in_ok-x-in-Both : goal.operator_value-returns-in_ok-x-in-Both
operator_value-returns-in_ok-x-in-Both g t c =
    let fits : SFits w32 c.in_ok-x-in-Both.x = search rules in
    evaluating.single_along c.on_two.result _ _ (evaluating.at_binary (g.I.Inputs.given c.args.inputs.now) c.args.item (expression.Binary c.args.operator c.args.a.now c.args.b.now) sides.Both c.args.operator c.args.a.now c.args.b.now c.args.a.now c.args.b.now refl c.in-Both.ensures refl refl ∙ ap (λ q. values_by sides.Both c.args.operator q ((value_of (g.I.Inputs.given c.args.inputs.now) c.args.item) c.args.b.now)) c.in_ok-x-in-Both.ensures ∙ ap (λ z. (value_of (g.I.Inputs.given c.args.inputs.now) c.args.item c.args.b.now) >>= λ y. side_by_side (binary_value c.args.operator) (z ∷ []) y) (sym (to_z-of_z fits))) (c.on_two.ensures ((value_of (g.I.Inputs.given c.args.inputs.now) c.args.item) c.args.b.now) c.single_value-in-Both-2.ensures)

pub all_values-single_value-requires : goal.all_values-single_value-requires
all_values-single_value-requires g t c =
    λ κs lives. (omega (arith, c.decreases), (search rules, (fitting.number_single (g.I.Inputs.given c.args.inputs.now).shape c.args.e.now c.in-Number.field-0 c.in-Number.is, c.requires.item)))

pub all_values-all_values-requires : goal.all_values-all_values-requires
all_values-all_values-requires g t c =
    λ κs lives. (omega (arith, c.decreases, nodes.in_unary c.args.e.now c.in-Unary.operator c.in-Unary.a c.get.result.now c.in-Unary.is c.get.ensures), (search rules, (fitting.fits_unary (g.I.Inputs.given c.args.inputs.now).shape c.args.e.now c.in-Unary.operator c.in-Unary.a c.get.result.now c.in-Unary.is c.get.ensures c.requires.fits, c.requires.item)))

pub all_values-all_values-requires-in-Both : goal.all_values-all_values-requires-in-Both
all_values-all_values-requires-in-Both g t c =
    λ κs lives. (omega (arith, c.decreases, nodes.in_left c.args.e.now c.in-Binary.operator c.in-Binary.a c.in-Binary.b c.get-in-Both.result.now c.in-Binary.is c.get-in-Both.ensures), (search rules, (fitting.fits_left (g.I.Inputs.given c.args.inputs.now).shape c.args.e.now c.in-Binary.operator c.in-Binary.a c.in-Binary.b c.get-in-Both.result.now c.in-Binary.is c.get-in-Both.ensures c.requires.fits, c.requires.item)))

pub all_values-all_values-requires-in-Both-2 : goal.all_values-all_values-requires-in-Both-2
all_values-all_values-requires-in-Both-2 g t c =
    λ κs lives. (omega (arith, c.decreases, nodes.in_right c.args.e.now c.in-Binary.operator c.in-Binary.a c.in-Binary.b c.get-in-Both-2.result.now c.in-Binary.is c.get-in-Both-2.ensures), (search rules, (fitting.fits_right (g.I.Inputs.given c.args.inputs.now).shape c.args.e.now c.in-Binary.operator c.in-Binary.a c.in-Binary.b c.get-in-Both-2.result.now c.in-Binary.is c.get-in-Both-2.ensures c.requires.fits, c.requires.item)))

pub all_values-returns-in_err-x-in-Both : goal.all_values-returns-in_err-x-in-Both
all_values-returns-in_err-x-in-Both g t c =
    evaluating.values_fail c.from_residual.result _ c.in_err-x-in-Both.field-0.0 (search rules) (evaluating.fails_along _ _ c.in_err-x-in-Both.field-0.0 (evaluating.at_binary (g.I.Inputs.given c.args.inputs.now) c.args.item c.args.e.now sides.Both c.in-Binary.operator c.in-Binary.a c.in-Binary.b c.get-in-Both.result.now c.in-Binary.b c.in-Binary.is c.in-Both.ensures c.get-in-Both.ensures refl) (evaluating.fails_by sides.Both c.in-Binary.operator ((value_of (g.I.Inputs.given c.args.inputs.now) c.args.item) c.get-in-Both.result.now) ((value_of (g.I.Inputs.given c.args.inputs.now) c.args.item) c.in-Binary.b) c.in_err-x-in-Both.field-0.0 c.in_err-x-in-Both.ensures))

pub all_values-single_value-requires-in_default : goal.all_values-single_value-requires-in_default
all_values-single_value-requires-in_default g t c =
    λ κs lives. (omega (arith, c.decreases), (search rules, (fitting.fits_sides (g.I.Inputs.given c.args.inputs.now).shape c.args.e.now c.sides_of.result c.in-Binary.operator c.in-Binary.a c.in-Binary.b c.in-Binary.is c.sides_of.ensures (fitting.no_both (g.I.Inputs.given c.args.inputs.now).shape c.args.e.now c.sides_of.result c.in_default.not-Both) c.requires.fits, c.requires.item)))

pub all_values-single_value-requires-in-Choice : goal.all_values-single_value-requires-in-Choice
all_values-single_value-requires-in-Choice g t c =
    λ κs lives. (omega (arith, c.decreases, nodes.in_condition c.args.e.now c.in-Choice.condition c.in-Choice.a c.in-Choice.b c.get-in-Choice.result.now c.in-Choice.is c.get-in-Choice.ensures), (search rules, (fitting.fits_condition (g.I.Inputs.given c.args.inputs.now).shape c.args.e.now c.in-Choice.condition c.in-Choice.a c.in-Choice.b c.get-in-Choice.result.now c.in-Choice.is c.get-in-Choice.ensures c.requires.fits, c.requires.item)))

pub all_values-returns-in_err-c-in-Choice : goal.all_values-returns-in_err-c-in-Choice
all_values-returns-in_err-c-in-Choice g t c =
    evaluating.values_fail c.from_residual-in_err-c-in-Choice.result _ c.in_err-c-in-Choice.field-0.0 (search rules) (evaluating.fails_choice (g.I.Inputs.given c.args.inputs.now) c.args.item c.args.e.now c.in-Choice.condition c.in-Choice.a c.in-Choice.b c.get-in-Choice.result.now c.in_err-c-in-Choice.field-0.0 c.in-Choice.is c.get-in-Choice.ensures c.in_err-c-in-Choice.ensures)

pub all_values-all_values-requires-then-c-eq0 : goal.all_values-all_values-requires-then-c-eq0
all_values-all_values-requires-then-c-eq0 g t c =
    λ κs lives. (omega (arith, c.decreases, nodes.in_other c.args.e.now c.in-Choice.condition c.in-Choice.a c.in-Choice.b c.get-then-c-eq0.result.now c.in-Choice.is c.get-then-c-eq0.ensures), (search rules, (fitting.fits_other (g.I.Inputs.given c.args.inputs.now).shape c.args.e.now c.in-Choice.condition c.in-Choice.a c.in-Choice.b c.get-then-c-eq0.result.now c.in-Choice.is c.get-then-c-eq0.ensures c.requires.fits, c.requires.item)))

pub all_values-all_values-requires-else-c-eq0 : goal.all_values-all_values-requires-else-c-eq0
all_values-all_values-requires-else-c-eq0 g t c =
    λ κs lives. (omega (arith, c.decreases, nodes.in_one c.args.e.now c.in-Choice.condition c.in-Choice.a c.in-Choice.b c.get-else-c-eq0.result.now c.in-Choice.is c.get-else-c-eq0.ensures), (search rules, (fitting.fits_one (g.I.Inputs.given c.args.inputs.now).shape c.args.e.now c.in-Choice.condition c.in-Choice.a c.in-Choice.b c.get-else-c-eq0.result.now c.in-Choice.is c.get-else-c-eq0.ensures c.requires.fits, c.requires.item)))

pub all_values-returns-then-c-eq0 : goal.all_values-returns-then-c-eq0
all_values-returns-then-c-eq0 g t c =
    evaluating.values_along c.all_values-then-c-eq0.result _ _ (evaluating.at_other (g.I.Inputs.given c.args.inputs.now) c.args.item c.args.e.now c.in-Choice.condition c.in-Choice.a c.in-Choice.b c.get-in-Choice.result.now c.get-then-c-eq0.result.now c.in_ok-c-in-Choice.c c.in-Choice.is c.get-in-Choice.ensures c.get-then-c-eq0.ensures c.in_ok-c-in-Choice.ensures (evaluating.is_zero-is c.in_ok-c-in-Choice.c (search rules))) c.all_values-then-c-eq0.ensures

pub all_values-returns-else-c-eq0 : goal.all_values-returns-else-c-eq0
all_values-returns-else-c-eq0 g t c =
    evaluating.values_along c.all_values-else-c-eq0.result _ _ (evaluating.at_one (g.I.Inputs.given c.args.inputs.now) c.args.item c.args.e.now c.in-Choice.condition c.in-Choice.a c.in-Choice.b c.get-in-Choice.result.now c.get-else-c-eq0.result.now c.in_ok-c-in-Choice.c c.in-Choice.is c.get-in-Choice.ensures c.get-else-c-eq0.ensures c.in_ok-c-in-Choice.ensures (evaluating.is_zero-not c.in_ok-c-in-Choice.c (search rules))) c.all_values-else-c-eq0.ensures

pub all_values-single_value-requires-in-Part : goal.all_values-single_value-requires-in-Part
all_values-single_value-requires-in-Part g t c =
    λ κs lives. (omega (arith, c.decreases), (search rules, (fitting.part_single (g.I.Inputs.given c.args.inputs.now).shape c.args.e.now c.in-Part.field-0 c.in-Part.field-1 c.in-Part.is c.requires.fits, c.requires.item)))

pub all_values-vector_values-requires : goal.all_values-vector_values-requires
all_values-vector_values-requires g t c =
    λ κs lives. (omega (arith, c.decreases, nodes.in_vector c.args.e.now c.in-Vector.parts c.as_slice-in-Vector.result.now c.in-Vector.is c.as_slice-in-Vector.ensures), (search rules, (fitting.fits_parts (g.I.Inputs.given c.args.inputs.now).shape c.args.e.now c.in-Vector.parts c.as_slice-in-Vector.result.now c.in-Vector.is c.as_slice-in-Vector.ensures c.requires.fits, c.requires.item)))

pub all_values-returns-in-Number : goal.all_values-returns-in-Number
all_values-returns-in-Number g t c =
    c.as_values.ensures ((value_of (g.I.Inputs.given c.args.inputs.now) c.args.item) c.args.e.now) c.single_value.ensures

pub all_values-returns-in-Input : goal.all_values-returns-in-Input
all_values-returns-in-Input g t c =
    evaluating.values_along c.input_values.result _ _ (ap (value_of (g.I.Inputs.given c.args.inputs.now) c.args.item) c.in-Input.is ∙ value_input (g.I.Inputs.given c.args.inputs.now) c.args.item c.in-Input.k) c.input_values.ensures

pub all_values-returns-in-Unary : goal.all_values-returns-in-Unary
all_values-returns-in-Unary g t c =
    evaluating.values_along c.on_each.result _ _ (ap (value_of (g.I.Inputs.given c.args.inputs.now) c.args.item) c.in-Unary.is ∙ value_unary (g.I.Inputs.given c.args.inputs.now) c.args.item c.in-Unary.operator c.in-Unary.a ∙ ap (after (each (unary_value c.in-Unary.operator))) (ap (value_of (g.I.Inputs.given c.args.inputs.now) c.args.item) (sym c.get.ensures))) (c.on_each.ensures ((value_of (g.I.Inputs.given c.args.inputs.now) c.args.item) c.get.result.now) c.all_values.ensures)

pub all_values-returns-in_default : goal.all_values-returns-in_default
all_values-returns-in_default g t c =
    c.as_values-in_default.ensures ((value_of (g.I.Inputs.given c.args.inputs.now) c.args.item) c.args.e.now) c.single_value-in_default.ensures

pub all_values-returns-in_ok-x-in-Both : goal.all_values-returns-in_ok-x-in-Both
all_values-returns-in_ok-x-in-Both g t c =
    evaluating.values_along c.on_both.result _ _ (evaluating.at_binary (g.I.Inputs.given c.args.inputs.now) c.args.item c.args.e.now sides.Both c.in-Binary.operator c.in-Binary.a c.in-Binary.b c.get-in-Both.result.now c.get-in-Both-2.result.now c.in-Binary.is c.in-Both.ensures c.get-in-Both.ensures c.get-in-Both-2.ensures ∙ ap (λ q. values_by sides.Both c.in-Binary.operator q ((value_of (g.I.Inputs.given c.args.inputs.now) c.args.item) c.get-in-Both-2.result.now)) c.in_ok-x-in-Both.ensures ∙ ap (λ l. ((value_of (g.I.Inputs.given c.args.inputs.now) c.args.item) c.get-in-Both-2.result.now) >>= λ y. side_by_side (binary_value c.in-Binary.operator) l y) (sym c.as_slice.ensures)) (c.on_both.ensures ((value_of (g.I.Inputs.given c.args.inputs.now) c.args.item) c.get-in-Both-2.result.now) c.all_values-in-Both-2.ensures)

pub all_values-returns-in-Part : goal.all_values-returns-in-Part
all_values-returns-in-Part g t c =
    c.as_values-in-Part.ensures ((value_of (g.I.Inputs.given c.args.inputs.now) c.args.item) c.args.e.now) c.single_value-in-Part.ensures

pub all_values-returns-in-Vector : goal.all_values-returns-in-Vector
all_values-returns-in-Vector g t c =
    evaluating.values_along c.vector_values.result _ _ (ap (value_of (g.I.Inputs.given c.args.inputs.now) c.args.item) c.in-Vector.is ∙ value_vector (g.I.Inputs.given c.args.inputs.now) c.args.item c.in-Vector.parts ∙ ap (λ l. joined (map (value_of (g.I.Inputs.given c.args.inputs.now) c.args.item) l)) (sym c.as_slice-in-Vector.ensures)) c.vector_values.ensures

pub vector_values-single_value-requires : goal.vector_values-single_value-requires
vector_values-single_value-requires g t c =
    let s = (g.I.Inputs.given c.args.inputs.now).shape in
    λ κs lives. (omega (arith, c.decreases, nodes.in_parts c.args.parts.now c.loop-part.part-index c.part-item.result c.part-item.result c.loop-part-test.true c.part-item.is), (search rules, (ap (shape_of s) c.part-item.is ∙ fitting.single_at s c.args.parts.now c.loop-part.part-index c.part-item.result c.loop-part-test.true c.requires.fit, c.requires.item)))
