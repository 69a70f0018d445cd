use Rattle.std.proofs.Common.{rules, arith, ◌≡◌, length}
use Rattle.dx_tags.proofs.MadeLaws.{made_after}
use Rattle.dx_tags.proofs.made.keep.Goals as goal

pub returns-after-push : goal.returns-after-push
returns-after-push c =
    let at : c.args.place ≡ length c.args.objects.now.items = first_of (search rules, omega arith) in
    record { made = λ terms made is. made_after terms _ _ c.args.object c.args.place _ c.push.ensures.items at made is }
