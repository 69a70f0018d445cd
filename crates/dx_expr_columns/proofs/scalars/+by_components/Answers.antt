use Rattle.std.proofs.Common.{rules, ◌≡◌}
use Rattle.dx_expr_grammar.specs.declared.tree.Expression.TheVariants as e
use Rattle.dx_expr_columns.proofs.SameValues.{unary_has, binary_has, choice_has, along_equal}
use Rattle.dx_expr_columns.proofs.scalars.+by_components.Goals as goal

pub returns-in_ok-new-in-Unary : goal.returns-in_ok-new-in-Unary
returns-in_ok-new-in-Unary g t c =
    let inputs = g.I.Inputs.given c.args.inputs.now in
    let o = c.in-Unary.operator in
    let a = c.in_ok-a-in-Unary.a in
    let found : e.Unary o c.in_ok-new-in-Unary.field-0 ≡ e.Unary o a = search rules in
    let whole : c.args.e.now ≡ e.Unary o c.get.result.now = search rules in
    along_equal inputs (e.Unary o c.in_ok-new-in-Unary.field-0) (e.Unary o a) c.args.e.now (e.Unary o c.get.result.now) found whole
    (unary_has inputs o a c.get.result.now c.in_ok-a-in-Unary.ensures)

pub returns-in_ok-new-in_default : goal.returns-in_ok-new-in_default
returns-in_ok-new-in_default g t c =
    let inputs = g.I.Inputs.given c.args.inputs.now in
    let o = c.in-Binary.operator in
    let a = c.in_ok-a-in_default.a in
    let b = c.in_ok-b-in_default.b in
    let found : e.Binary o c.in_ok-a-in_default-2.a c.in_ok-new-in_default.field-0 ≡ e.Binary o a b = search rules in
    let whole : c.args.e.now ≡ e.Binary o c.get-in_default.result.now c.get-in_default-2.result.now = search rules in
    along_equal inputs (e.Binary o c.in_ok-a-in_default-2.a c.in_ok-new-in_default.field-0) (e.Binary o a b) c.args.e.now (e.Binary o c.get-in_default.result.now c.get-in_default-2.result.now) found whole
    (binary_has inputs o a b c.get-in_default.result.now c.get-in_default-2.result.now c.in_ok-a-in_default.ensures c.in_ok-b-in_default.ensures)

pub returns-in_ok-new-in-Choice : goal.returns-in_ok-new-in-Choice
returns-in_ok-new-in-Choice g t c =
    let inputs = g.I.Inputs.given c.args.inputs.now in
    let d = c.in_ok-condition-in-Choice.condition in
    let a = c.in_ok-a-in-Choice.a in
    let b = c.in_ok-b-in-Choice.b in
    let found : e.Choice c.condition.inside.inner.value c.in_ok-a-in-Choice-2.a c.in_ok-new-in-Choice.field-0 ≡ e.Choice d a b = search rules in
    let whole : c.args.e.now ≡ e.Choice c.get-in-Choice.result.now c.get-in-Choice-2.result.now c.get-in-Choice-3.result.now = search rules in
    along_equal inputs (e.Choice c.condition.inside.inner.value c.in_ok-a-in-Choice-2.a c.in_ok-new-in-Choice.field-0) (e.Choice d a b) c.args.e.now (e.Choice c.get-in-Choice.result.now c.get-in-Choice-2.result.now c.get-in-Choice-3.result.now) found whole
    (choice_has inputs d a b c.get-in-Choice.result.now c.get-in-Choice-2.result.now c.get-in-Choice-3.result.now c.in_ok-condition-in-Choice.ensures c.in_ok-a-in-Choice.ensures c.in_ok-b-in-Choice.ensures)
