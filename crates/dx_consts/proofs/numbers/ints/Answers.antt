use Rattle.std.proofs.Common.{◌≡◌, true}
use Rattle.std.specs.List.{list_all}
use Rattle.dx_base.specs.Elem.{in_range}
use Rattle.dx_base.specs.declared.elem.ElemType.TheVariants.{Int}
use Rattle.dx_consts.proofs.PlainInts.{plain_ints, not_refused, is_made}
use Rattle.dx_consts.proofs.numbers.ints.Goals as goal

pub unwrap-array-requires : goal.unwrap-array-requires
unwrap-array-requires c =
    let ints : list_all (in_range Int) c.args.numbers.now ≡ true = rw c.in_ok-copied.ensures.same at c.in_ok-copied.ensures.in_type in
    let made = rw c.in_ok-copied.ensures.same at c.ints.ensures in
    is_made (plain_ints c.args.shape c.args.numbers.now) c.ints.result (not_refused c.args.shape c.args.numbers.now c.requires.shape c.requires.some c.requires.narrow c.requires.few c.requires.whole ints) made
