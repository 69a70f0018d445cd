use Rattle.std.proofs.Common.{◌≡◌, ◌<◌, ◌∷◌, [], Some, ap, ◌∙◌, arith}
use Rattle.dx_expr_grammar.specs.declared.tree.Binary.TheVariants as binary
use Rattle.dx_expr_grammar.specs.declared.tree.Expression.TheVariants as e
use Rattle.dx_expr.specs.Shape.{shape_of}
use Rattle.dx_expr_columns.specs.Scalars.{sum_of_products}
use Rattle.dx_expr_columns.proofs.SameValues.{products_have, found_has}
use Rattle.dx_expr_columns.proofs.scalars.scalar_product.Goals as goal

pub returns : goal.returns
returns g c =
    let inputs = g.I.Inputs.given c.args.inputs.now in
    let n = c.width_of-count.result in
    let some : 0 < n = omega (arith, c.if-count-eq0.false) in
    let same : c.width_of.result ≡ n = omega (arith, c.if-width_of-count.false) in
    found_has inputs c.sum_of_products.result (sum_of_products inputs.shape n c.args.a.now c.args.b.now) (e.Binary binary.Dot c.args.a.now c.args.b.now) c.sum_of_products.ensures
    (products_have inputs c.args.a.now c.args.b.now n (omega (arith, some)) (c.width_of-count.ensures.shape some) (c.width_of.ensures.shape (omega (arith, some, same)) ∙ ap (λ k. Some (k ∷ [])) same))
