use Rattle.std.proofs.Common.{◌≡◌, Some, Ok, Err}
use Rattle.dx_base.specs.ObjectLimits.{IsAllowed}
use Rattle.dx_base.specs.ObjectMembers.{placed}
use Rattle.dx_objects.specs.Makes.{Makes}
use Rattle.dx_objects.specs.Members.{members_of, regrouped, trees}
use Rattle.dx_objects.specs.View.{tree_of}
use Rattle.dx_objects.proofs.LawfulLaws.{allowed_of}
use Rattle.dx_objects.proofs.MembersLaws.{gives_made, gives_refused}
use Rattle.dx_objects.proofs.object.Object.with_members.Goals as goal

pub returns-in-Err : goal.returns-in-Err
returns-in-Err c =
    let b = c.self.inside.body in
    let xs = c.self.inside.attributes in
    let ps = c.in-Some.members.now in
    let ts = trees c.args.objects.now in
    let whole : tree_of b xs ≡ c.args.self.now = c.self.view_is in
    let allowed : IsAllowed (tree_of b xs) = allowed_of _ c.self.invariant.lawful in
    let found : members_of b ≡ Some ps = c.in-Some.ensures in
    let said : Makes (regrouped b (placed ps ts) xs) (Err c.in-Err.field-0) = rw (← c.in_ok-members.ensures, ← c.in_ok-attributes.ensures) c.in-Err.ensures in
    rw (← whole) (gives_refused b xs ps ts c.in-Err.field-0 allowed found said)

pub returns-in-Ok : goal.returns-in-Ok
returns-in-Ok c =
    let b = c.self.inside.body in
    let xs = c.self.inside.attributes in
    let ps = c.in-Some.members.now in
    let ts = trees c.args.objects.now in
    let whole : tree_of b xs ≡ c.args.self.now = c.self.view_is in
    let allowed : IsAllowed (tree_of b xs) = allowed_of _ c.self.invariant.lawful in
    let found : members_of b ≡ Some ps = c.in-Some.ensures in
    let made : Makes (regrouped b (placed ps ts) xs) (Ok c.in-Ok.object) = rw (← c.in_ok-members.ensures, ← c.in_ok-attributes.ensures) c.in-Ok.ensures in
    rw (← whole) (gives_made b xs ps ts c.in-Ok.object allowed found made)
