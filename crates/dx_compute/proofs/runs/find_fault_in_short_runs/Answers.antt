use Rattle.std.proofs.Common.{◌≡◌, ◌≤◌, sym, ap, ◌∙◌, arith, rules}
use Rattle.dx_base.specs.Answers.{refused}
use Rattle.dx_expr_eval.specs.Items.{values_from, faultless}
use Rattle.dx_expr_eval.proofs.Answering.{passed_on}
use Rattle.dx_expr_eval.proofs.Runs.{run_clear, run_fails, none_left}
use Rattle.dx_compute_meaning.specs.Arrays.{given}
use Rattle.dx_compute_meaning.specs.Shown.{shown_arrays}
use Rattle.dx_compute.proofs.runs.find_fault_in_short_runs.Goals as goal

pub turns-preserved : goal.turns-preserved
turns-preserved c =
    let inputs = given (shown_arrays c.args.inputs.now.arrays.now) in
    let up : c.turns.first ≤ c.min-behind.result = omega (arith, c.saturating_add.ensures, c.min-behind.ensures, c.turns-test.true) in
    let within : c.min-behind.result ≤ c.args.to = omega (arith, c.min-behind.ensures) in
    record {
      within = within;
      rest = sym (run_clear inputs c.args.e.now c.turns.first c.min-behind.result c.args.to up within c.in_ok-find_fault_in_short_run.ensures) ∙ c.turns.invariant.rest;
    }

pub returns-in_err-find_fault_in_short_run : goal.returns-in_err-find_fault_in_short_run
returns-in_err-find_fault_in_short_run c =
    let inputs = given (shown_arrays c.args.inputs.now.arrays.now) in
    let up : c.turns.first ≤ c.min-behind.result = omega (arith, c.saturating_add.ensures, c.min-behind.ensures, c.turns-test.true) in
    let within : c.min-behind.result ≤ c.args.to = omega (arith, c.min-behind.ensures) in
    passed_on refused (faultless (values_from inputs c.args.e.now c.turns.first c.min-behind.result)) (faultless (values_from inputs c.args.e.now c.args.from c.args.to))
    c.in_err-find_fault_in_short_run.field-0.0 c.from_residual.result (search rules)
    (λ fault is. sym c.turns.invariant.rest ∙ run_fails inputs c.args.e.now c.turns.first c.min-behind.result c.args.to fault up within is)
    c.in_err-find_fault_in_short_run.ensures

pub returns : goal.returns
returns c =
    let inputs = given (shown_arrays c.args.inputs.now.arrays.now) in
    let same : c.turns.first ≡ c.args.to = omega (arith, c.turns.invariant.within, c.turns-test.false) in
    sym c.turns.invariant.rest ∙ ap (λ k. faultless (values_from inputs c.args.e.now k c.args.to)) same ∙ none_left inputs c.args.e.now c.args.to
