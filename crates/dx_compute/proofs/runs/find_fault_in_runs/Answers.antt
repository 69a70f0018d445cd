use Rattle.std.proofs.Common.{◌≡◌, ◌≤◌, sym, ap, ◌∙◌, arith, rules}
use Rattle.dx_base.specs.Answers.{refused}
use Rattle.dx_expr_eval.specs.Items.{all_values, values_from, faultless}
use Rattle.dx_expr_eval.proofs.Answering.{passed_on}
use Rattle.dx_expr_eval.proofs.Runs.{run_clear, run_fails, none_left, from_zero}
use Rattle.dx_compute_meaning.specs.Arrays.{given}
use Rattle.dx_compute_meaning.specs.Shown.{shown_arrays}
use Rattle.dx_compute.proofs.runs.find_fault_in_runs.Goals as goal

pub turns-preserved : goal.turns-preserved
turns-preserved c =
    let inputs = given (shown_arrays c.args.inputs.now.arrays.now) in
    let up : c.turns.first ≤ c.min-behind.result = omega (arith, c.saturating_add.ensures, c.min-behind.ensures, c.turns-test.true) in
    let within : c.min-behind.result ≤ c.args.inputs.now.items = omega (arith, c.min-behind.ensures) in
    record {
      within = within;
      rest = sym (run_clear inputs c.args.e.now c.turns.first c.min-behind.result c.args.inputs.now.items up within c.in_ok-find_fault_in_long_run.ensures) ∙ c.turns.invariant.rest;
    }

pub returns-in_err-find_fault_in_long_run : goal.returns-in_err-find_fault_in_long_run
returns-in_err-find_fault_in_long_run c =
    let inputs = given (shown_arrays c.args.inputs.now.arrays.now) in
    let up : c.turns.first ≤ c.min-behind.result = omega (arith, c.saturating_add.ensures, c.min-behind.ensures, c.turns-test.true) in
    let within : c.min-behind.result ≤ c.args.inputs.now.items = omega (arith, c.min-behind.ensures) in
    passed_on refused (faultless (values_from inputs c.args.e.now c.turns.first c.min-behind.result)) (faultless (all_values inputs c.args.e.now c.args.inputs.now.items))
    c.in_err-find_fault_in_long_run.field-0.0 c.from_residual.result (search rules)
    (λ fault is. sym (ap faultless (from_zero inputs c.args.e.now c.args.inputs.now.items)) ∙ sym c.turns.invariant.rest ∙ run_fails inputs c.args.e.now c.turns.first c.min-behind.result c.args.inputs.now.items fault up within is)
    c.in_err-find_fault_in_long_run.ensures

pub returns : goal.returns
returns c =
    let inputs = given (shown_arrays c.args.inputs.now.arrays.now) in
    let same : c.turns.first ≡ c.args.inputs.now.items = omega (arith, c.turns.invariant.within, c.turns-test.false) in
    sym (ap faultless (from_zero inputs c.args.e.now c.args.inputs.now.items)) ∙ sym c.turns.invariant.rest ∙ ap (λ k. faultless (values_from inputs c.args.e.now k c.args.inputs.now.items)) same ∙ none_left inputs c.args.e.now c.args.inputs.now.items
