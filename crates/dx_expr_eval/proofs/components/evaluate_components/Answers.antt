use Rattle.std.proofs.Common.{arith, ◌≡◌, ◌≤◌, ◌-◌, ◌+◌, ◌++◌, sym, ap, ◌∙◌}
use Rattle.std.specs.Prelude.{map}
use Rattle.std.specs.List.{range_with_len}
use Rattle.dx_expr.specs.Value.{joined, value_of}
use Rattle.dx_expr.specs.Evaluated.{behind}
use Rattle.dx_expr_eval.proofs.InRows.{items_done}
use Rattle.dx_expr_eval.proofs.components.evaluate_components.Goals as goal

pub turns-preserved : goal.turns-preserved
turns-preserved g c =
    let inputs = g.I.Inputs.given c.args.inputs.now in
    let from = c.turns.from in
    let count = c.in_ok-rows.rows.count in
    let vs = c.in_ok-rows.rows.values.items in
    let within : from + count ≤ c.args.items = omega (arith, c.in_ok-rows.ensures.1, c.saturating_add.ensures, c.min-to.ensures, c.turns-test.true) in
    let added : c.extend_from_slice.new.self.items ≡ c.turns.found.items ++ vs = c.in_ok-extend_from_slice.ensures.items ∙ ap (λ l. c.turns.found.items ++ l) c.as_slice.ensures.value in
    record {
      within = within;
      rest = ap (λ l. behind l (joined (map (λ item. value_of inputs item c.args.e.now) (range_with_len (from + count) (c.args.items - (from + count)))))) added
          ∙ sym (items_done inputs c.args.e.now c.turns.found.items from count c.args.items vs within c.in_ok-rows.ensures.2) ∙ c.turns.invariant.rest;
    }
