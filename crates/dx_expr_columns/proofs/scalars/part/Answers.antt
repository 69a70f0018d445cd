use Rattle.std.proofs.Common.{◌≡◌, ◌<◌, Result, Ok, Err, ap, subst, arith}
use Rattle.std.specs.Prelude.{IfOk}
use Rattle.dx_expr_grammar.specs.declared.tree.Expression.{Expression}
use Rattle.dx_expr_grammar.specs.declared.tree.Expression.TheVariants as e
use Rattle.dx_expr.specs.Shape.{shape_of}
use Rattle.dx_expr_columns.specs.Scalars.{HasValuesOf, component_beside}
use Rattle.dx_expr_columns.proofs.SameValues.{component_has, found_has}
use Rattle.dx_expr_columns.proofs.scalars.part.Goals as goal

pub returns : goal.returns
returns g c =
    let inputs = g.I.Inputs.given c.args.inputs.now in
    let n = c.width_of-count.result in
    let below : c.args.place < n = omega (arith, c.if-count-from.false, c.from.ensures) in
    found_has inputs c.component_beside.result (component_beside inputs.shape n c.args.a.now c.args.place) (e.Part c.args.a.now c.args.place) c.component_beside.ensures
    (component_has inputs c.args.a.now n c.args.place below (c.width_of-count.ensures.shape (omega (arith, below))))
