use Rattle.std.proofs.Common.{◌≡◌, ap, ◌∙◌, Some, true, arith}
use Rattle.dx_base.specs.Object as spec
use Rattle.dx_base.specs.ObjectNames.{put}
use Rattle.dx_base.specs.ObjectLimits.{IsAllowed, is_array, unplaced}
use Rattle.dx_objects.specs.Makes.{refusal}
use Rattle.dx_objects.specs.View.{tree_of}
use Rattle.dx_objects.proofs.LawfulLaws.{allowed_of}
use Rattle.dx_object_laws.proofs.PutLaws.{unplaced-put}
use Rattle.dx_objects.proofs.PutLaws.{not-fits-put, fits-put}
use Rattle.dx_objects.proofs.object.Object.with_component.Goals as goal

pub returns-in-Err : goal.returns-in-Err
returns-in-Err c =
    let ps = c.in-Field.parts in
    let xs = c.self.inside.attributes in
    let whole : tree_of c.self.inside.body xs ≡ c.args.self.now = c.self.view_is in
    let kind = c.in-Field.is in
    let is : spec.field ps xs ≡ c.args.self.now = rw kind at whole in
    let allowed : IsAllowed (spec.field ps xs) = rw kind at (allowed_of _ c.self.invariant.lawful) in
    let array : is_array c.args.part.value ≡ true = grind (arith, c.if-not-is_array.false) in
    let own : unplaced (put c.args.name.now c.args.part.value ps) ≡ put c.args.name.now c.args.part.value ps = unplaced-put c.args.name.now c.args.part.value ps ∙ ap (put c.args.name.now c.args.part.value) allowed.positions.0 in
    let refused : refusal (spec.field (put c.args.name.now c.args.part.value ps) xs) ≡ Some c.in-Err.field-0 = rw (c.in_ok-parts.ensures, c.in_ok-attributes.ensures, own, allowed.positions.1) at c.in-Err.ensures in
    rw (← is) (array, not-fits-put c.args.name.now c.args.part.value ps xs _ allowed array refused)

pub returns-in-Ok : goal.returns-in-Ok
returns-in-Ok c =
    let ps = c.in-Field.parts in
    let xs = c.self.inside.attributes in
    let whole : tree_of c.self.inside.body xs ≡ c.args.self.now = c.self.view_is in
    let kind = c.in-Field.is in
    let is : spec.field ps xs ≡ c.args.self.now = rw kind at whole in
    let allowed : IsAllowed (spec.field ps xs) = rw kind at (allowed_of _ c.self.invariant.lawful) in
    let array : is_array c.args.part.value ≡ true = grind (arith, c.if-not-is_array.false) in
    let own : unplaced (put c.args.name.now c.args.part.value ps) ≡ put c.args.name.now c.args.part.value ps = unplaced-put c.args.name.now c.args.part.value ps ∙ ap (put c.args.name.now c.args.part.value) allowed.positions.0 in
    let made = rw (c.in_ok-parts.ensures, c.in_ok-attributes.ensures, own, allowed.positions.1) at c.in-Ok.ensures in
    rw (← is) (made.0, array, fits-put c.args.name.now c.args.part.value ps xs allowed array made.1)
