use Rattle.std.proofs.Common.{◌≡◌, ap, ◌∙◌, Some, None}
use Rattle.dx_base.specs.Object as spec
use Rattle.dx_base.specs.ObjectNames.{find, without}
use Rattle.dx_base.specs.ObjectLimits.{IsAllowed, unplaced}
use Rattle.dx_objects.specs.Makes.{refusal}
use Rattle.dx_objects.specs.View.{tree_of}
use Rattle.dx_objects.proofs.LawfulLaws.{allowed_of}
use Rattle.dx_object_laws.proofs.TakeLaws.{unplaced-without}
use Rattle.dx_objects.proofs.TakeLaws.{refusal-without}
use Rattle.dx_objects.proofs.object.Object.without_component.Goals as goal

pub returns-in-Err : goal.returns-in-Err
returns-in-Err c =
    let ps = c.in-Field.parts in
    let xs = c.self.inside.attributes in
    let kind = c.in-Field.is in
    let allowed : IsAllowed (spec.field ps xs) = rw kind at (allowed_of _ c.self.invariant.lawful) in
    let own : unplaced (without c.args.name.now ps) ≡ without c.args.name.now ps = unplaced-without c.args.name.now ps ∙ ap (without c.args.name.now) allowed.positions.0 in
    let refused : refusal (spec.field (without c.args.name.now ps) xs) ≡ Some c.in-Err.field-0 = rw (c.in_ok-parts.ensures, c.in_ok-attrs.ensures, own, allowed.positions.1) at c.in-Err.ensures in
    let none : refusal (spec.field (without c.args.name.now ps) xs) ≡ None = refusal-without c.args.name.now ps xs allowed in
    absurd (cc (refused, none))

pub returns-in-Ok : goal.returns-in-Ok
returns-in-Ok c =
    let ps = c.in-Field.parts in
    let xs = c.self.inside.attributes in
    let whole : tree_of c.self.inside.body xs ≡ c.args.self.now = c.self.view_is in
    let kind = c.in-Field.is in
    let is : spec.field ps xs ≡ c.args.self.now = rw kind at whole in
    let allowed : IsAllowed (spec.field ps xs) = rw kind at (allowed_of _ c.self.invariant.lawful) in
    let own : unplaced (without c.args.name.now ps) ≡ without c.args.name.now ps = unplaced-without c.args.name.now ps ∙ ap (without c.args.name.now) allowed.positions.0 in
    let made = rw (c.in_ok-parts.ensures, c.in_ok-attrs.ensures, own, allowed.positions.1) at c.in-Ok.ensures in
    let found : find c.args.name.now ps ≡ Some c.in-Some.field-0.now.value = rw (← is) at c.in-Some.ensures in
    rw (← is) (rw found made.0)
