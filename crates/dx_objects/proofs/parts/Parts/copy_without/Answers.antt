use Rattle.std.proofs.Common.{◌≡◌, [], drop, cond, refl, sym, ap, ◌∙◌, arith, Bool, true, false}
use Rattle.std.proofs.Math.ListN.{drop_of_length-le}
use Rattle.dx_base.specs.Object.{no_parts, append}
use Rattle.dx_objects.proofs.PartsLaws.{append-no_parts}
use Rattle.dx_objects.proofs.parts.Parts.copy_without.Goals as goal

-- nothing is left, whether or not a part was taken out
none_left : (b : Bool) → cond b no_parts no_parts ≡ no_parts
none_left true = refl
none_left false = refl

pub returns : goal.returns
returns c =
    let past : drop c.loop-part.part-index c.args.parts.now ≡ [] = drop_of_length-le _ {i = c.loop-part.part-index} (omega arith) in
    let inv = rw past at c.loop-part.invariant in
    sym (append-no_parts c.loop-part.copy) ∙ ap (append c.loop-part.copy) (sym (none_left c.loop-part.is_removed)) ∙ inv
