use Rattle.std.proofs.Common.{rules, ◌≡◌, ◌∷◌, [], drop, Some, Ok, Err, sym, ap, ◌∙◌}
use Rattle.dx_base.specs.ObjectLimits.{max_levels}
use Rattle.dx_objects.specs.Values.{value_at}
use Rattle.dx_compute_laws.proofs.Steps.{answer_steps}
use Rattle.dx_compute_meaning.specs.Answered.{◌>>=◌}
use Rattle.dx_compute_meaning.specs.Compute.{answer, answer_within}
use Rattle.dx_compute_meaning.specs.Expressions.{expression_in}
use Rattle.dx_compute_meaning.specs.Operands.{occurring}
use Rattle.dx_compute_meaning.specs.Shown.{shown, code_in}
use Rattle.dx_compute_meaning.proofs.Codes.{answered_first, refused_first, gives_err, some_to}
use Rattle.dx_compute.proofs.run.run_compute.Goals as goal

pub returns-in_err-object-clause-answer : goal.returns-in_err-object-clause-answer
returns-in_err-object-clause-answer c =
    let inputs = c.args.inputs.now in
    let e = c.in_ok-e.e in
    let same : answer_within max_levels e (occurring e 0 (drop 1 inputs)) ≡ answer_within max_levels e (shown c.deref-2.result.now) =
    ap (answer_within max_levels e) (ap (occurring e 0) (sym c.further.ensures.values) ∙ sym c.in_ok-operands.ensures ∙ ap shown (sym c.deref-2.ensures.value)) in
    gives_err (answer inputs) c.in_err-object.field-0.0 c.from_residual-in_err-object.result (search rules)
    (some_to (λ code. answer_within max_levels e (shown c.deref-2.result.now) ≡ Err code) (λ code. answer inputs ≡ Err code) (code_in c.in_err-object.field-0.0)
    (λ code is. answered_first (expression_in (value_at inputs 0)) (λ x. answer_within max_levels x (occurring x 0 (drop 1 inputs)) >>= λ t. Ok (Some t ∷ [])) e c.in_ok-e.ensures.answer
    ∙ refused_first (answer_within max_levels e (occurring e 0 (drop 1 inputs))) (λ t. Ok (Some t ∷ [])) code (same ∙ is))
    c.in_err-object.ensures)

pub returns-clause-answer : goal.returns-clause-answer
returns-clause-answer c =
    let inputs = c.args.inputs.now in
    let e = c.in_ok-e.e in
    let same : answer_within max_levels e (occurring e 0 (drop 1 inputs)) ≡ answer_within max_levels e (shown c.deref-2.result.now) =
    ap (answer_within max_levels e) (ap (occurring e 0) (sym c.further.ensures.values) ∙ sym c.in_ok-operands.ensures ∙ ap shown (sym c.deref-2.ensures.value)) in
    answered_first (expression_in (value_at inputs 0)) (λ x. answer_within max_levels x (occurring x 0 (drop 1 inputs)) >>= λ t. Ok (Some t ∷ [])) e c.in_ok-e.ensures.answer
    ∙ answered_first (answer_within max_levels e (occurring e 0 (drop 1 inputs))) (λ t. Ok (Some t ∷ [])) c.in_ok-object.object (same ∙ c.in_ok-object.ensures)
    ∙ ap (λ outs. Ok outs) (sym c.in_ok-results.ensures)

pub returns-clause-steps : goal.returns-clause-steps
returns-clause-steps c = λ h.
    answer_steps c.args.inputs.now c.in_ok-results.results h
    (let inputs = c.args.inputs.now in
    let e = c.in_ok-e.e in
    let same : answer_within max_levels e (occurring e 0 (drop 1 inputs)) ≡ answer_within max_levels e (shown c.deref-2.result.now) =
    ap (answer_within max_levels e) (ap (occurring e 0) (sym c.further.ensures.values) ∙ sym c.in_ok-operands.ensures ∙ ap shown (sym c.deref-2.ensures.value)) in
    answered_first (expression_in (value_at inputs 0)) (λ x. answer_within max_levels x (occurring x 0 (drop 1 inputs)) >>= λ t. Ok (Some t ∷ [])) e c.in_ok-e.ensures.answer
    ∙ answered_first (answer_within max_levels e (occurring e 0 (drop 1 inputs))) (λ t. Ok (Some t ∷ [])) c.in_ok-object.object (same ∙ c.in_ok-object.ensures)
    ∙ ap (λ outs. Ok outs) (sym c.in_ok-results.ensures))
