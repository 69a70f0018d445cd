use Rattle.std.proofs.Common.{sym, ap, subst, ◌∙◌, Err}
use Rattle.dx_base.specs.Object.{parts, attributes}
use Rattle.dx_slab.specs.Components as spec
use Rattle.dx_slab.specs.Gives.{GivesParts}
use Rattle.dx_slab.specs.Whole.{AreComponents}
use Rattle.dx_slab.proofs.Entire.{components_of, components_kept, passed_field}
use Rattle.dx_slab.proofs.slab.slab.Goals as goal

pub remade-requires-clause-parts : goal.remade-requires-clause-parts
remade-requires-clause-parts c =
    subst AreComponents (sym (c.in-Ok.ensures ∙ ap (spec.cut_parts c.args.counts.now c.args.cut) c.parts.ensures))
    (components_kept c.args.counts.now c.args.cut (parts c.args.whole.now) (components_of c.args.whole.now c.requires.field c.size-size.ensures.lawful))

pub returns-in-Err : goal.returns-in-Err
returns-in-Err c =
    passed_field (spec.cut_parts c.args.counts.now c.args.cut (parts c.args.whole.now)) (attributes c.args.whole.now) c.in-Err.fail
    (subst (λ ps. GivesParts (spec.cut_parts c.args.counts.now c.args.cut ps) (Err c.in-Err.fail)) c.parts.ensures c.in-Err.ensures)
