use Rattle.std.proofs.Common.{rules, ℕ, ◌≡◌, ◌+◌, ◌-◌, ◌++◌, length, sym, ap, ◌∙◌, arith, length-append}
use Rattle.std.specs.Prelude.{map}
use Rattle.std.specs.List.{range_with_len}
use Rattle.dx_base.specs.Answers.{refused}
use Rattle.dx_expr.specs.Value.{Outcome, Values, value_of, size, joined}
use Rattle.dx_expr.specs.Evaluated.{behind}
use Rattle.dx_expr_eval.specs.Items.{all_values}
use Rattle.dx_expr_eval.proofs.Answering.{passed_on}
use Rattle.dx_expr_eval.proofs.Joining.{item_next, item_fails, next_row}
use Rattle.dx_expr_eval.proofs.vectors.evaluate_vectors.Goals as goal

pub returns-in_err-values-clause-values : goal.returns-in_err-values-clause-values
returns-in_err-values-clause-values g c =
    let inputs = g.I.Inputs.given c.args.inputs.now in
    passed_on refused (value_of inputs c.loop-item.item c.args.e.now) (all_values inputs c.args.e.now c.args.items) c.in_err-values.field-0.0 c.from_residual.result (search rules)
    (λ fault is. sym c.loop-item.invariant.rest ∙ item_fails (λ item. value_of inputs item c.args.e.now) c.loop-item.found.items c.loop-item.item c.args.items (search rules) fault is)
    c.in_err-values.ensures.values

pub loop-item-preserved : goal.loop-item-preserved
loop-item-preserved g c =
    let inputs = g.I.Inputs.given c.args.inputs.now in
    let f : ℕ → Outcome Values = λ item. value_of inputs item c.args.e.now in
    let before = c.loop-item.found.items in
    let vs = c.in_ok-values.values in
    let added : c.extend_from_slice.new.self.items ≡ before ++ vs = c.in_ok-extend_from_slice.ensures.items ∙ ap (λ l. before ++ l) (search rules) in
    record {
      rest = ap (λ l. behind l (joined (map f (range_with_len (c.loop-item.item + 1) (c.args.items - (c.loop-item.item + 1)))))) added
          ∙ sym (item_next f before c.loop-item.item c.args.items (search rules) vs c.in_ok-values.ensures.values) ∙ c.loop-item.invariant.rest;
      count = λ s fits. omega (arith, ap length added, length-append before vs, c.loop-item.invariant.count s fits, c.in_ok-values.ensures.count s fits, next_row c.loop-item.item (size s));
    }
