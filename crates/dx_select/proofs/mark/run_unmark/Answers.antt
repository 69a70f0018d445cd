use Rattle.std.proofs.Common.{sym, ap, subst, ◌∙◌, rules}
use Rattle.dx_base.specs.Object.{parts}
use Rattle.dx_base.specs.ObjectNames.{put}
use Rattle.dx_select.specs.Components.{AreComponents}
use Rattle.dx_select.specs.Mark.{restored}
use Rattle.dx_select.proofs.ComponentLaws.{unmarked_components}
use Rattle.dx_select.proofs.mark.run_unmark.Goals as goal

pub remade-requires-clause-parts : goal.remade-requires-clause-parts
remade-requires-clause-parts c =
    subst AreComponents (sym (c.in_ok-parts-in-Some-component.ensures ∙ ap (λ w. restored c.in-Some-text_in.name.now (put c.in-Some-text_in.name.now c.in-Some-component.own.now.value (parts w))) c.deref-in-Some-component.ensures))
    (unmarked_components c.in-Some-text_in.name.now c.in-Some.whole.now.value c.in-Some-component.own.now.value c.in-Some.ensures.kind c.in-Some.ensures.lawful (search rules))
