use Rattle.std.proofs.Common.{◌≡◌, ◌∙◌, sym, [], drop, arith}
use Rattle.std.proofs.Math.ListN.{drop_of_length-le}
use Rattle.dx_objects.proofs.PartsLaws.{append-no_parts}
use Rattle.dx_objects.specs.Shown.{parts_of}
use Rattle.dx_consts.proofs.texts.members.Goals as goal

pub returns : goal.returns
returns c =
    let past : drop c.loop-t.t-index c.args.texts.now ≡ [] = drop_of_length-le c.args.texts.now {i = c.loop-t.t-index} (omega arith) in
    c.in_ok-parts.ensures ∙ sym (append-no_parts (parts_of c.loop-t.members.items)) ∙ (rw past at c.loop-t.invariant.parts)
