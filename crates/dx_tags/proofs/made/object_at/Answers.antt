use Rattle.std.proofs.Common.{◌≡◌, Some}
use Rattle.std.specs.Prelude.{slice_get}
use Rattle.dx_consts.proofs.LawfulConst.{lawful_of}
use Rattle.dx_tags.specs.declared.term.Term.TheVariants.{Constant}
use Rattle.dx_tags.proofs.made.object_at.Goals as goal

pub object_of-requires : goal.object_of-requires
object_of-requires c =
    let k = c.in-Some-Constant in
    let key = k.ensures.key in
    let is = k.field-0-is in
    let at : slice_get c.args.terms.now.keys c.args.place ≡ Some (Constant k.c) = cc in
    lawful_of k.c (c.requires.lawful k.c at)
