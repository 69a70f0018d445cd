use Rattle.std.proofs.Common.{arith, ◌≤◌, sym, ap, ◌∙◌}
use Rattle.dx_expr_blocks.specs.Block.{run_of}
use Rattle.dx_expr_eval.specs.Items.{faultless}
use Rattle.dx_expr_eval.proofs.Blocks.{rest_fails, rest_clear}
use Rattle.dx_expr_eval.proofs.numbers.find_fault_of_numbers.Goals as goal

pub returns-in-Some : goal.returns-in-Some
returns-in-Some g c =
    let inputs = g.I.Inputs.given c.args.inputs.now in
    let vs = c.in_ok-block.block.values.items in
    sym c.turns.invariant.rest
    ∙ ap faultless (rest_fails inputs c.args.e.now c.requires.single c.turns.first c.min-behind.result c.args.to
    (omega (arith, c.saturating_add.ensures, c.min-behind.ensures, c.turns-test.true)) (omega (arith, c.min-behind.ensures)) vs c.in-Some.fault (c.in_ok-block.ensures ∙ ap (λ f. run_of vs f) c.in-Some.is))

pub turns-preserved : goal.turns-preserved
turns-preserved g c =
    let inputs = g.I.Inputs.given c.args.inputs.now in
    let vs = c.in_ok-block.block.values.items in
    let up : c.turns.first ≤ c.min-behind.result = omega (arith, c.saturating_add.ensures, c.min-behind.ensures, c.turns-test.true) in
    let within : c.min-behind.result ≤ c.args.to = omega (arith, c.min-behind.ensures) in
    record {
      within = within;
      rest = sym (rest_clear inputs c.args.e.now c.requires.single c.turns.first c.min-behind.result c.args.to up within vs c.in_ok-block.block.fault c.in_default.is c.in_ok-block.ensures) ∙ c.turns.invariant.rest;
    }
