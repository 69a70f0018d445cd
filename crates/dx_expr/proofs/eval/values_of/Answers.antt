use Rattle.std.proofs.Common.{◌≡◌, length}
use Rattle.dx_expr.specs.Value.{value_of, size}
use Rattle.dx_expr.proofs.Evaluating.{of_values}
use Rattle.dx_expr.proofs.Lengths.{value_count}
use Rattle.dx_expr.proofs.eval.values_of.Goals as goal

pub returns-clause-count : goal.returns-clause-count
returns-clause-count g c =
    let inputs = g.I.Inputs.given c.args.inputs.now in
    λ s fits. of_values (λ vs. length vs ≡ size s) (value_of inputs c.args.item c.args.e.now) c.all_values.result (λ vs h. value_count inputs c.args.item c.args.e.now s vs fits h) c.all_values.ensures
