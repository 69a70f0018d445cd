use Rattle.std.proofs.Common.{Some, sym, ap, ◌∙◌}
use Rattle.dx_objects.specs.declared.object.Part.{Part}
use Rattle.dx_select.proofs.SelectLaws.{at_place-past, at_place-here}
use Rattle.dx_select.proofs.select.at_place.Goals as goal

pub returns-in-None : goal.returns-in-None
returns-in-None c = sym (at_place-past c.args.parts.now c.args.place c.in-None.ensures.lookup.3)

pub returns-in-Some : goal.returns-in-Some
returns-in-Some c =
    let here = at_place-here c.args.parts.now c.args.place c.in-Some.part.now c.in-Some.ensures.lookup.3.0 in
    sym (here ∙ ap (λ (p : Part). Some p.object.value) (sym c.in-Some.ensures.lookup.1))
