use Rattle.std.proofs.Common.{arith, ◌≤◌, ◌+◌, sym, ◌∙◌}
use Rattle.dx_expr_eval.proofs.InRows.{items_clear}
use Rattle.dx_expr_eval.proofs.components.find_fault_of_components.Goals as goal

pub turns-preserved : goal.turns-preserved
turns-preserved g c =
    let inputs = g.I.Inputs.given c.args.inputs.now in
    let first = c.turns.first in
    let count = c.in_ok-rows.rows.count in
    let within : first + count ≤ c.args.to = omega (arith, c.in_ok-rows.ensures.1, c.saturating_add.ensures, c.min-behind.ensures, c.turns-test.true) in
    record {
      within = within;
      rest = sym (items_clear inputs c.args.e.now first count c.args.to c.in_ok-rows.rows.values.items within c.in_ok-rows.ensures.2) ∙ c.turns.invariant.rest;
    }
