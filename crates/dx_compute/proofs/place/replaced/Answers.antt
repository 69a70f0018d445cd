use Rattle.std.proofs.Common.{◌≡◌, Ok, Err, ap, subst, ◌∙◌}
use Rattle.dx_base.specs.Object.{array, attributes}
use Rattle.dx_base.specs.ObjectLimits.{unplaced}
use Rattle.dx_objects.specs.Makes.{Makes}
use Rattle.dx_objects.specs.With.{GivesWith}
use Rattle.dx_objects.specs.declared.with.WithError.TheVariants as error
use Rattle.dx_compute_meaning.specs.Arrays.{data_name}
use Rattle.dx_compute_meaning.proofs.Making.{attributes_good, data_large, not_fitting, put_ok, put_large}
use Rattle.dx_compute.proofs.place.replaced.Goals as goal
use Rattle.dx_compute.proofs.place.replaced.Goals.{After-array-2, After-with_component}

same_data : (c : After-array-2) → array c.args.array (unplaced c.in_ok-attributes.attributes) ≡ array c.args.array (attributes c.args.before.now)
same_data c =
    ap (λ xs. array c.args.array (unplaced xs)) (c.in_ok-attributes.ensures ∙ c.attributes.ensures)
    ∙ ap (λ xs. array c.args.array xs) (attributes_good c.args.array c.args.before.now c.size-size.ensures.lawful c.requires.before).1

pub returns-in_default : goal.returns-in_default
returns-in_default c =
    data_large c.args.array c.args.before.now c.args.whole.now c.requires.whole
    (not_fitting (array c.args.array (attributes c.args.before.now)) c.in_default.field-0 (attributes_good c.args.array c.args.before.now c.size-size.ensures.lawful c.requires.before).0
    (subst (λ t. Makes t (Err c.in_default.field-0)) (same_data (goal.at.returns-in_default c).After-array-2) c.in_default.ensures))

same_part : (c : After-with_component) → c.in_ok-shared.field-0.value ≡ array c.args.array (attributes c.args.before.now)
same_part c =
    c.in_ok-shared.ensures ∙ c.in-Ok.ensures.0
    ∙ ap (λ xs. array c.args.array (unplaced xs)) (c.in_ok-attributes.ensures ∙ c.attributes.ensures)
    ∙ ap (λ xs. array c.args.array xs) (attributes_good c.args.array c.args.before.now c.size-size.ensures.lawful c.requires.before).1

pub returns-in-Ok-with_component : goal.returns-in-Ok-with_component
returns-in-Ok-with_component c =
    put_ok data_name (array c.args.array (attributes c.args.before.now)) c.args.whole.now c.in-Ok-with_component.object c.requires.whole
    (subst (λ t. GivesWith data_name t c.args.whole.now (Ok c.in-Ok-with_component.object)) (same_part (goal.at.returns-in-Ok-with_component c).After-with_component)
    (subst (λ n. GivesWith n c.in_ok-shared.field-0.value c.args.whole.now (Ok c.in-Ok-with_component.object)) c.in_ok-name.ensures c.in-Ok-with_component.ensures))

pub returns-in-Err-TooLarge : goal.returns-in-Err-TooLarge
returns-in-Err-TooLarge c =
    put_large data_name (array c.args.array (attributes c.args.before.now)) c.args.whole.now c.requires.whole
    (subst (λ t. GivesWith data_name t c.args.whole.now (Err error.TooLarge)) (same_part (goal.at.returns-in-Err-TooLarge c).After-with_component)
    (subst (λ n. GivesWith n c.in_ok-shared.field-0.value c.args.whole.now (Err error.TooLarge)) c.in_ok-name.ensures
    (subst (λ e. GivesWith c.in_ok-name.name c.in_ok-shared.field-0.value c.args.whole.now (Err e)) c.in-Err-TooLarge.field-0-is c.in-Err-TooLarge.ensures)))
