use Rattle.std.proofs.Common.{◌≡◌, Some}
use Rattle.dx_arrays.specs.Classes.{plain_of}
use Rattle.dx_stats.proofs.Held.{IsNone}
use Rattle.dx_stats.proofs.Single.{plain_small, plain_sums}
use Rattle.dx_stats.proofs.sums.other_sums.Goals as goal

pub with_ints-requires-clause-small : goal.with_ints-requires-clause-small
with_ints-requires-clause-small c =
    let class : plain_of c.args.array.now.class ≡ Some c.in-Some-Ints.values.now = rw c.in-Some-Ints.field-0-is at c.in-Some-Ints.ensures in
    plain_small c.args.array.now c.in-Some-Ints.values.now c.items-items.ensures.lawful c.requires.single class

pub returns-in-Some-Ints-clause-sums : goal.returns-in-Some-Ints-clause-sums
returns-in-Some-Ints-clause-sums c =
    let class : plain_of c.args.array.now.class ≡ Some c.in-Some-Ints.values.now = rw c.in-Some-Ints.field-0-is at c.in-Some-Ints.ensures in
    let none : IsNone c.none.result = record { count = c.none.ensures.none; total = c.none.ensures.total; squares = c.none.ensures.squares; least = c.none.ensures.least; greatest = c.none.ensures.greatest } in
    plain_sums c.args.array.now c.in-Some-Ints.values.now c.none.result c.with_ints.result c.items-items.ensures.lawful c.requires.single c.requires.some class none c.with_ints.ensures.sums
