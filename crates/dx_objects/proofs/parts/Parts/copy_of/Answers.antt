use Rattle.std.proofs.Common.{◌≡◌, [], drop, arith}
use Rattle.std.proofs.Math.ListN.{drop_of_length-le}
use Rattle.dx_objects.proofs.PartsLaws.{append-no_parts}
use Rattle.dx_objects.proofs.parts.Parts.copy_of.Goals as goal

pub returns : goal.returns
returns c =
    let past : drop c.loop-part.part-index c.args.parts.now ≡ [] = drop_of_length-le _ {i = c.loop-part.part-index} (omega arith) in
    grind (arith, append-no_parts c.loop-part.copy)
