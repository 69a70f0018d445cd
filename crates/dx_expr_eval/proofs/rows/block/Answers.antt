use Rattle.std.proofs.Common.{rules, ◌≡◌, ◌<◌, ◌+◌, ◌-◌, ◌++◌, Ok, arith, sym, ap, ◌∙◌}
use Rattle.dx_expr.specs.Value.{value_of}
use Rattle.dx_expr_eval.specs.Rows.{Fails}
use Rattle.dx_expr_eval.proofs.InRows.{columns_single, rows_joined, item_more, item_fails, either_fails}
use Rattle.dx_expr_eval.proofs.rows.block.Goals as goal

pub component_rows-requires-clause-singles : goal.component_rows-requires-clause-singles
component_rows-requires-clause-singles g c = columns_single (g.I.Inputs.given c.args.inputs.now) c.args.e.now c.args.columns.now c.requires.columns

pub returns-then-found-to : goal.returns-then-found-to
returns-then-found-to g c =
    let found = c.in_ok-found.found in (
      omega (arith, c.if-found-to.true, c.requires.order),
      c.in_ok-found.ensures.count,
      rows_joined (g.I.Inputs.given c.args.inputs.now) c.args.e.now c.args.columns.now c.requires.columns c.args.from found.count found.values.items c.in_ok-found.ensures.length c.in_ok-found.ensures.values,
    )

pub returns-in_err-values : goal.returns-in_err-values
returns-in_err-values g c =
    let inputs = g.I.Inputs.given c.args.inputs.now in
    let found = c.in_ok-found.found in
    let rows = rows_joined inputs c.args.e.now c.args.columns.now c.requires.columns c.args.from found.count found.values.items c.in_ok-found.ensures.length c.in_ok-found.ensures.values in
    let below : found.count < c.args.to - c.args.from = omega (arith, c.if-found-to.false, c.in_ok-found.ensures.count) in
    either_fails _ (Fails inputs c.args.e.now c.args.from c.args.to) (value_of inputs (c.args.from + found.count) c.args.e.now) c.from_residual-in_err-values.result c.in_err-values.field-0.0 (search rules)
    (λ fault is. item_fails inputs c.args.e.now c.args.from found.count c.args.to found.values.items fault below rows is) c.in_err-values.ensures.values

pub returns : goal.returns
returns g c =
    let inputs = g.I.Inputs.given c.args.inputs.now in
    let found = c.in_ok-found.found in
    let vs = c.in_ok-values.values in
    let rows = rows_joined inputs c.args.e.now c.args.columns.now c.requires.columns c.args.from found.count found.values.items c.in_ok-found.ensures.length c.in_ok-found.ensures.values in
    let added : c.extend_from_slice.new.self.items ≡ found.values.items ++ vs = c.in_ok-extend_from_slice.ensures.items ∙ ap (λ l. found.values.items ++ l) c.as_slice.ensures in (
      omega arith,
      omega (arith, c.if-found-to.false, c.in_ok-found.ensures.count),
      item_more inputs c.args.e.now c.args.from found.count found.values.items vs rows c.in_ok-values.ensures.values ∙ ap (λ l. Ok l) (sym added),
    )
