use Rattle.std.proofs.Common.{Err, subst}
use Rattle.dx_objects.specs.Members.{GivesMembers}
use Rattle.dx_compute_meaning.specs.Shown.{objects_of}
use Rattle.dx_compute_meaning.proofs.Making.{members_ok, members_large, members_there}
use Rattle.dx_compute.proofs.groups.remade.Goals as goal

pub returns-in-Ok : goal.returns-in-Ok
returns-in-Ok c = members_ok (objects_of c.args.objects.now) c.args.group.now c.in-Ok.object c.requires c.in-Ok.ensures

pub returns-in-Err-TooLarge : goal.returns-in-Err-TooLarge
returns-in-Err-TooLarge c =
    members_large (objects_of c.args.objects.now) c.args.group.now c.requires
    (subst (λ e. GivesMembers (objects_of c.args.objects.now) c.args.group.now (Err e)) c.in-Err-TooLarge.field-0-is c.in-Err-TooLarge.ensures)

pub unreachable-requires : goal.unreachable-requires
unreachable-requires c =
    members_there (objects_of c.args.objects.now) c.args.group.now c.requires
    (subst (λ e. GivesMembers (objects_of c.args.objects.now) c.args.group.now (Err e)) c.in-Err-NotAGroup.field-0-is c.in-Err-NotAGroup.ensures)
