use Rattle.std.proofs.Common.{sym, ap, subst, ◌∙◌, rules}
use Rattle.dx_base.specs.Object.{parts}
use Rattle.dx_base.specs.ObjectNames.{component, put}
use Rattle.dx_select.specs.Components.{AreComponents}
use Rattle.dx_select.specs.Inputs.{data_name}
use Rattle.dx_select.specs.Mark.{with_saved}
use Rattle.dx_select.proofs.ComponentLaws.{marked_components}
use Rattle.dx_select.proofs.mark.run_mark.Goals as goal

pub remade-requires-clause-parts : goal.remade-requires-clause-parts
remade-requires-clause-parts c =
    subst AreComponents (sym (c.in_ok-parts-in-Some-component.ensures ∙ ap (λ w. put data_name c.in-Some-component.component.now.value (with_saved (component data_name w) (parts w))) c.deref-in-Some-component.ensures))
    (marked_components c.in-Some-text_in.name.now c.in-Some.whole.now.value c.in-Some-component.component.now.value c.in-Some.ensures.kind c.in-Some.ensures.lawful (search rules))
