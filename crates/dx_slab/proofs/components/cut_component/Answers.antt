use Rattle.std.proofs.Common.{sym, ap, ◌∙◌}
use Rattle.dx_objects.specs.Kinds.{array_of}
use Rattle.dx_slab.proofs.Parting.{passed_component}
use Rattle.dx_slab.proofs.components.cut_component.Goals as goal

pub returns-in-Err : goal.returns-in-Err
returns-in-Err c =
    passed_component c.args.counts.now c.args.cut c.args.role c.args.object.now.value c.in-Some.array.now c.in-Err.fail (ap array_of (sym c.deref.ensures) ∙ c.in-Some.ensures) c.in-Err.ensures
