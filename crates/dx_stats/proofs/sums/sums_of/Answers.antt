use Rattle.std.proofs.Common.{◌≡◌, Some}
use Rattle.dx_arrays.specs.Classes.{plain_of}
use Rattle.dx_stats.proofs.Held.{IsNone}
use Rattle.dx_stats.proofs.Single.{plain_small, plain_sums}
use Rattle.dx_stats.proofs.sums.sums_of.Goals as goal

pub with-requires-clause-small : goal.with-requires-clause-small
with-requires-clause-small c =
    let class : plain_of c.args.array.now.class ≡ Some c.in-Some-Wide.values.now = rw c.in-Some-Wide.field-0-is at c.in-Some-Wide.ensures in
    plain_small c.args.array.now c.in-Some-Wide.values.now c.items-items.ensures.lawful c.requires.single class

pub returns-in-Some-Wide-clause-sums : goal.returns-in-Some-Wide-clause-sums
returns-in-Some-Wide-clause-sums c =
    let class : plain_of c.args.array.now.class ≡ Some c.in-Some-Wide.values.now = rw c.in-Some-Wide.field-0-is at c.in-Some-Wide.ensures in
    let none : IsNone c.none.result = record { count = c.none.ensures.none; total = c.none.ensures.total; squares = c.none.ensures.squares; least = c.none.ensures.least; greatest = c.none.ensures.greatest } in
    plain_sums c.args.array.now c.in-Some-Wide.values.now c.none.result c.with.result c.items-items.ensures.lawful c.requires.single c.requires.some class none c.with.ensures.sums
