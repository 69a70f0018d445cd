use Rattle.std.proofs.Common.{◌≡◌, Ok, sym, ap, subst, ◌∙◌}
use Rattle.dx_base.specs.Object.{parts}
use Rattle.dx_objects.specs.Members.{trees}
use Rattle.dx_select.specs.Answered.{GivesObject}
use Rattle.dx_select.specs.Extract.{all_extracted}
use Rattle.dx_select.proofs.ExtractLaws.{members_fit, extracted_members}
use Rattle.dx_select.proofs.extract.+extract.Goals as goal

pub extracted-regrouped-requires : goal.extracted-regrouped-requires
extracted-regrouped-requires t c =
    let found : all_extracted c.args.name.now (parts c.args.object.now) ≡ Ok (trees c.as_slice.result.now) =
    ap (all_extracted c.args.name.now) (sym c.parts.ensures) ∙ c.in_ok-members.ensures ∙ ap (λ os. Ok (trees os)) (sym c.as_slice.ensures) in
    members_fit c.args.name.now c.args.object.now (trees c.as_slice.result.now) c.size-size.ensures.lawful (sym c.if-not-has_members.ensures) found

pub extracted-returns : goal.extracted-returns
extracted-returns t c =
    let found : all_extracted c.args.name.now (parts c.args.object.now) ≡ Ok (trees c.as_slice.result.now) =
    ap (all_extracted c.args.name.now) (sym c.parts.ensures) ∙ c.in_ok-members.ensures ∙ ap (λ os. Ok (trees os)) (sym c.as_slice.ensures) in
    subst (λ there. GivesObject there c.regrouped.result)
    (sym (extracted_members c.args.name.now c.args.object.now (trees c.as_slice.result.now) (sym c.if-not-has_members.ensures) found))
    c.regrouped.ensures
