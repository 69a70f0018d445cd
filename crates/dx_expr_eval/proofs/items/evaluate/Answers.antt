use Rattle.dx_expr_eval.proofs.InRows.{all_count}
use Rattle.dx_expr_eval.proofs.Ints.{all_ints}
use Rattle.dx_expr_eval.proofs.items.evaluate.Goals as goal

pub returns-then-not-is_empty-clause-count : goal.returns-then-not-is_empty-clause-count
returns-then-not-is_empty-clause-count g c = λ s is. all_count (g.I.Inputs.given c.args.inputs.now) c.args.e.now c.args.items s is c.evaluate_components.result c.evaluate_components.ensures

pub returns-then-not-is_empty-clause-ints : goal.returns-then-not-is_empty-clause-ints
returns-then-not-is_empty-clause-ints g c = all_ints (g.I.Inputs.given c.args.inputs.now) c.args.e.now c.args.items c.evaluate_components.result c.evaluate_components.ensures

pub returns-then-is_number-2-clause-ints : goal.returns-then-is_number-2-clause-ints
returns-then-is_number-2-clause-ints g c = all_ints (g.I.Inputs.given c.args.inputs.now) c.args.e.now c.args.items c.evaluate_numbers.result c.evaluate_numbers.ensures.values

pub returns-clause-ints : goal.returns-clause-ints
returns-clause-ints g c = all_ints (g.I.Inputs.given c.args.inputs.now) c.args.e.now c.args.items c.evaluate_vectors.result c.evaluate_vectors.ensures.values
