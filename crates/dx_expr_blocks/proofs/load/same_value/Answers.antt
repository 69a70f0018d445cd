use Rattle.std.proofs.Common.{◌≡◌, ℕ, ℤ, List, length, replicate, None, rules, ap, sym, subst, ◌∙◌, w64, to_z-of_z}
use mir.Val.{SFits}
use Rattle.std.specs.Prelude.{IfSome}
use Rattle.dx_expr.specs.Value.{checked}
use Rattle.dx_expr.proofs.Fitting.{fit_input}
use Rattle.dx_expr_blocks.specs.Block.{block_of, run_of}
use Rattle.dx_expr_blocks.specs.Items.{all_below}
use Rattle.dx_expr_blocks.proofs.Same.{of_ok, same_number, same_input}
use Rattle.dx_expr_blocks.proofs.load.same_value.Goals as goal

pub source-requires : goal.source-requires
source-requires g c = fit_input (g.I.Inputs.given c.args.inputs.now).shape c.args.e.now c.in-Input.k c.in-Input.is c.requires

pub returns-in-Number : goal.returns-in-Number
returns-in-Number g c =
    let inputs = g.I.Inputs.given c.args.inputs.now in
    let fits : SFits w64 c.from.result = search rules in
    let same : ℤ → Type 0 = λ v. (items : List ℕ) → all_below (g.I.Inputs.items c.args.inputs.now) items → block_of inputs c.args.e.now items ≡ run_of (replicate (length items) v) None in
    subst (λ o. IfSome o same) (sym c.ok.ensures.value)
    (of_ok same c.checked.result (λ v is items below. same_number inputs c.args.e.now items c.in-Number.n v c.in-Number.is (ap checked (sym (to_z-of_z fits ∙ c.from.ensures)) ∙ sym c.checked.ensures ∙ is)))

pub returns-in-Same : goal.returns-in-Same
returns-in-Same g c =
    let inputs = g.I.Inputs.given c.args.inputs.now in
    let fits : SFits w64 c.in-Same.v = search rules in
    let single = fit_input inputs.shape c.args.e.now c.in-Input.k c.in-Input.is c.requires in
    let same : ℤ → Type 0 = λ v. (items : List ℕ) → all_below (g.I.Inputs.items c.args.inputs.now) items → block_of inputs c.args.e.now items ≡ run_of (replicate (length items) v) None in
    subst (λ o. IfSome o same) (sym c.ok-in-Same.ensures.value)
    (of_ok same c.checked-in-Same.result (λ v is items below. same_input inputs c.args.e.now items c.in-Input.k (g.I.Inputs.items c.args.inputs.now) c.in-Same.v v c.in-Input.is single below c.in-Same.ensures (ap checked (sym (to_z-of_z fits)) ∙ sym c.checked-in-Same.ensures ∙ is)))
