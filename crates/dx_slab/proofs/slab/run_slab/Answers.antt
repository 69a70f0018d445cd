use Rattle.std.proofs.Common.{sym, ap, subst, ◌∙◌}
use Rattle.dx_base.specs.Object.{parts}
use Rattle.dx_slab.specs.Inputs.{counts_in}
use Rattle.dx_slab.specs.Lawful.{PlayRoles}
use Rattle.dx_slab.proofs.Asking.{asked_of, counts_of}
use Rattle.dx_slab.proofs.slab.run_slab.Goals as goal

pub made-requires-clause-asked : goal.made-requires-clause-asked
made-requires-clause-asked c =
    let known = counts_of c.in-Some.whole.now.value c.in-Ok.counts.now c.in-Some.ensures.kind c.in-Some.ensures.lawful (ap counts_in (sym c.deref.ensures) ∙ c.in-Ok.ensures) in
    asked_of c.in-Ok.counts.now c.args.inputs.now c.in-Some-asked_in.asked known.0 (sym c.in-Some-asked_in.ensures)

pub made-requires-clause-roles : goal.made-requires-clause-roles
made-requires-clause-roles c =
    let known = counts_of c.in-Some.whole.now.value c.in-Ok.counts.now c.in-Some.ensures.kind c.in-Some.ensures.lawful (ap counts_in (sym c.deref.ensures) ∙ c.in-Ok.ensures) in
    subst (λ w. PlayRoles c.in-Ok.counts.now (parts w)) (sym c.deref-in-Some-asked_in.ensures) known.1
