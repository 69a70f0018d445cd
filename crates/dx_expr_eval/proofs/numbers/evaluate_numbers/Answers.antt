use Rattle.std.proofs.Common.{arith, ◌≡◌, ◌≤◌, ◌-◌, ◌++◌, length, sym, ap, ◌∙◌, length-append}
use Rattle.std.specs.Prelude.{map}
use Rattle.std.specs.List.{range_with_len}
use Rattle.dx_expr.specs.Value.{joined, value_of}
use Rattle.dx_expr.specs.Evaluated.{behind}
use Rattle.dx_expr_blocks.specs.Block.{run_of}
use Rattle.dx_expr_eval.proofs.Blocks.{block_done, block_fails, block_full}
use Rattle.dx_expr_eval.proofs.numbers.evaluate_numbers.Goals as goal

pub returns-in-Some-clause-values : goal.returns-in-Some-clause-values
returns-in-Some-clause-values g c =
    let inputs = g.I.Inputs.given c.args.inputs.now in
    let vs = c.in_ok-block.block.values.items in
    sym c.turns.invariant.rest
    ∙ block_fails inputs c.args.e.now c.requires.single c.turns.found.items c.turns.from c.min-to.result c.args.items
    (omega (arith, c.saturating_add.ensures, c.min-to.ensures, c.turns-test.true)) (omega (arith, c.min-to.ensures)) vs c.in-Some.fault (c.in_ok-block.ensures ∙ ap (λ f. run_of vs f) c.in-Some.is)

pub turns-preserved : goal.turns-preserved
turns-preserved g c =
    let inputs = g.I.Inputs.given c.args.inputs.now in
    let vs = c.in_ok-block.block.values.items in
    let from = c.turns.from in
    let to = c.min-to.result in
    let up : from ≤ to = omega (arith, c.saturating_add.ensures, c.min-to.ensures, c.turns-test.true) in
    let within : to ≤ c.args.items = omega (arith, c.min-to.ensures) in
    let added : c.extend_from_slice.new.self.items ≡ c.turns.found.items ++ vs = c.in_ok-extend_from_slice.ensures.items ∙ ap (λ l. c.turns.found.items ++ l) c.as_slice.ensures.value in
    let full : length vs ≡ to - from = block_full inputs c.args.e.now c.requires.single from to vs c.in_ok-block.block.fault c.in_default.is c.in_ok-block.ensures in
    record {
      within = within;
      rest = ap (λ l. behind l (joined (map (λ item. value_of inputs item c.args.e.now) (range_with_len to (c.args.items - to))))) added
          ∙ sym (block_done inputs c.args.e.now c.requires.single c.turns.found.items from to c.args.items up within vs c.in_ok-block.block.fault c.in_default.is c.in_ok-block.ensures) ∙ c.turns.invariant.rest;
      count = omega (arith, ap length added, length-append c.turns.found.items vs, full, up, c.turns.invariant.count);
    }
