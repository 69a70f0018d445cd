use Rattle.std.proofs.Common.{sym, ap, ◌∙◌, Some}
use Rattle.dx_objects.specs.declared.object.Part.{Part}
use Rattle.dx_objects.proofs.OrderLaws.{name_at-past, name_at-here}
use Rattle.dx_objects.proofs.order.name_at.Goals as goal

pub returns-in-None : goal.returns-in-None
returns-in-None c = name_at-past c.args.parts.now c.args.place c.in-None.ensures.lookup.3

pub returns-in-None-name : goal.returns-in-None-name
returns-in-None-name c =
    let here = name_at-here c.args.parts.now c.args.place c.in-Some.part.now c.in-Some.ensures.lookup.3.0 in
    here ∙ ap (λ (p : Part). p.name) (sym c.in-Some.ensures.lookup.1) ∙ c.in-None-name.is

pub returns-in-Some-name : goal.returns-in-Some-name
returns-in-Some-name c =
    let here = name_at-here c.args.parts.now c.args.place c.in-Some.part.now c.in-Some.ensures.lookup.3.0 in
    here ∙ ap (λ (p : Part). p.name) (sym c.in-Some.ensures.lookup.1) ∙ c.in-Some-name.is ∙ ap Some (sym c.bytes.ensures)
