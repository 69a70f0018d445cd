use Rattle.std.proofs.Common.{sym, subst}
use Rattle.dx_base.specs.Answers.{Answers}
use Rattle.dx_compute_meaning.specs.Compute.{finished}
use Rattle.dx_compute_meaning.specs.Shown.{shown, code_in}
use Rattle.dx_compute_meaning.proofs.Codes.{first_field_is}
use Rattle.dx_compute.proofs.place.placed.Goals as goal

pub in_field-requires : goal.in_field-requires
in_field-requires c = first_field_is (shown c.args.operands.now) c.in-Some.whole.now (sym c.in-Some.ensures)

pub returns-in-None : goal.returns-in-None
returns-in-None c = λ there h. subst (λ w. Answers code_in (finished c.args.items w there) c.alone.result) c.in-None.ensures (c.alone.ensures c.args.items there h)

pub returns-in-Some : goal.returns-in-Some
returns-in-Some c = λ there h. subst (λ w. Answers code_in (finished c.args.items w there) c.in_field.result) c.in-Some.ensures (c.in_field.ensures there h)
