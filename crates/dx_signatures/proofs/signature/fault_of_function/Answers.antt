use Rattle.std.proofs.Common.{◌∙◌, sym, ap, length, Bor, List, ℕ}
use Rattle.std.proofs.lemmas.List.{length-map}
use Rattle.dx_ast.specs.Plain.{plain_args}
use Rattle.dx_signatures.specs.Callees.{signature_of_function}
use Rattle.dx_signatures.specs.Faults.{arg_names}
use Rattle.dx_signatures.proofs.Fits.{length-args}
use Rattle.dx_signatures.proofs.signature.fault_of_function.Goals as goal

pub returns : goal.returns
returns c =
    let now : Bor (List ℕ) → List ℕ = λ n. n.now in
    c.fault_of_signature.ensures (signature_of_function c.args.f) (arg_names (plain_args c.args.args.now))
    (sym (ap length c.params-named.ensures) ∙ length-map c.params-named.result.now now) (sym c.more.ensures) (sym c.results.ensures) (length-args c.args.args.now) (sym c.in_ok-fit.ensures)
