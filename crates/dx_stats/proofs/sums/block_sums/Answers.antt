use Rattle.std.proofs.Common.{arith}
use Rattle.dx_arrays.proofs.Blocks.{values_none}
use Rattle.dx_stats.proofs.Held.{begin_none, IsNone}
use Rattle.dx_stats.proofs.Single.{more_items, all_items, count_values}
use Rattle.dx_stats.proofs.sums.block_sums.Goals as goal

pub loop-from-init : goal.loop-from-init
loop-from-init c =
    let none : IsNone c.none-sums.result = record { count = c.none-sums.ensures.none; total = c.none-sums.ensures.total; squares = c.none-sums.ensures.squares; least = c.none-sums.ensures.least; greatest = c.none-sums.ensures.greatest } in
    (omega arith, rw (values_none c.args.array.now 0) (begin_none c.none-sums.result none), c.none-sums.ensures.held)

pub with_items-requires-clause-count : goal.with_items-requires-clause-count
with_items-requires-clause-count c =
    let count = c.loop-from.invariant.1.count in
    let len = count_values c.args.array.now 0 c.loop-from.from c.requires.single in
    omega (arith, count, len)

pub loop-from-preserved : goal.loop-from-preserved
loop-from-preserved c =
    (omega arith, more_items c.args.array.now c.loop-from.from c.min-to.result c.loop-from.sums _ (omega arith) c.loop-from.invariant.1 c.in_ok-sums.ensures.sums, c.in_ok-sums.ensures.held)

pub returns-clause-sums : goal.returns-clause-sums
returns-clause-sums c =
    all_items c.args.array.now c.loop-from.from c.args.items c.loop-from.sums c.width-width.ensures.lawful c.requires.single c.requires.some c.requires.items (omega arith) (omega arith) c.loop-from.invariant.1
