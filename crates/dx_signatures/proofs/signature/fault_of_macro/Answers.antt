use Rattle.std.proofs.Common.{◌∙◌, ◌≡◌, sym, ap, ap₂, refl, ℕ, Option, arith}
use Rattle.dx_signatures.specs.declared.fault.StaticFault.{StaticFault}
use Rattle.dx_signatures.specs.Faults.{or_nesting}
use Rattle.dx_signatures.proofs.Fits.{macro_fault, nested_some, nested_none}
use Rattle.dx_signatures.proofs.signature.fault_of_macro.Goals as goal

pub returns-in-Some : goal.returns-in-Some
returns-in-Some c =
    let told = macro_fault c.args.m.now c.as_slice-params.result.now _ c.len.result _ c.in_ok-fit.fit c.args.args.now c.args.left c.args.targets c.fault_of_signature.result c.as_slice-params.ensures refl c.len.ensures refl c.in_ok-fit.ensures c.fault_of_signature.ensures in
    sym (told ∙ ap (or_nesting c.args.left) c.in-Some.is ∙ nested_some c.args.left c.in-Some.fault)

pub returns-then-left-eq0 : goal.returns-then-left-eq0
returns-then-left-eq0 c =
    let told = macro_fault c.args.m.now c.as_slice-params.result.now _ c.len.result _ c.in_ok-fit.fit c.args.args.now c.args.left c.args.targets c.fault_of_signature.result c.as_slice-params.ensures refl c.len.ensures refl c.in_ok-fit.ensures c.fault_of_signature.ensures in
    let zero : c.args.left ≡ 0 = omega arith in
    sym (told ∙ ap₂ (λ (n : ℕ) (f : Option StaticFault). or_nesting n f) zero c.in-None.is)

pub returns-else-left-eq0 : goal.returns-else-left-eq0
returns-else-left-eq0 c =
    let told = macro_fault c.args.m.now c.as_slice-params.result.now _ c.len.result _ c.in_ok-fit.fit c.args.args.now c.args.left c.args.targets c.fault_of_signature.result c.as_slice-params.ensures refl c.len.ensures refl c.in_ok-fit.ensures c.fault_of_signature.ensures in
    sym (told ∙ ap (or_nesting c.args.left) c.in-None.is ∙ nested_none c.args.left (omega arith))
