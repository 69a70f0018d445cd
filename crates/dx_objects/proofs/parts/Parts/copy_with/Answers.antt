use Rattle.std.proofs.Common.{◌≡◌, [], drop, arith}
use Rattle.std.proofs.Math.ListN.{drop_of_length-le}
use Rattle.dx_objects.proofs.PartsLaws.{append-no_parts}
use Rattle.dx_objects.proofs.parts.Parts.copy_with.Goals as goal
use Rattle.dx_objects.proofs.parts.Parts.copy_with.Goals.{then-not-is_placed-2+in_ok-copy_of+in_ok-push, else-not-is_placed-2}

pub returns : goal.returns
returns c =
    let past : drop c.loop-part.part-index c.args.parts.now ≡ [] = drop_of_length-le _ {i = c.loop-part.part-index} (omega arith) in
    elim c.if-not-is_placed-2.branch [
      | then-not-is_placed-2+in_ok-copy_of+in_ok-push w ↦ grind (arith, w.copy-is, w.in_ok-push.ensures, w.if-not-is_placed-2.true, w.in_ok-copy_of.ensures)
      | else-not-is_placed-2 w ↦ grind (arith, append-no_parts c.loop-part.copy, w.copy-is, w.if-not-is_placed-2.false)
    ]
