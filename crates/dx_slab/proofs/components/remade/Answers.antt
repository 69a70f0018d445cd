use Rattle.std.proofs.Common.{refl, ◌∙◌}
use Rattle.dx_base.specs.Object.{attributes}
use Rattle.dx_slab.proofs.Fitting.{attributes_are, array_made, array_large}
use Rattle.dx_slab.proofs.components.remade.Goals as goal

pub returns-in_ok-shared-in-Ok : goal.returns-in_ok-shared-in-Ok
returns-in_ok-shared-in-Ok c =
    c.in_ok-shared-in-Ok.ensures
    ∙ array_made c.args.own (attributes c.args.object.now) c.in_ok-attributes.attributes c.in-Ok.own (attributes_are c.args.object.now c.size-size.ensures.lawful) (c.in_ok-attributes.ensures ∙ c.attributes.ensures) c.in-Ok.ensures

pub returns-in-Err : goal.returns-in-Err
returns-in-Err c =
    (refl, array_large c.args.own (attributes c.args.object.now) c.in_ok-attributes.attributes c.in-Err.field-0 (attributes_are c.args.object.now c.size-size.ensures.lawful) (c.in_ok-attributes.ensures ∙ c.attributes.ensures) c.in-Err.ensures)
