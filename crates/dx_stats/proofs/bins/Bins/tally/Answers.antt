use Rattle.std.proofs.Common.{w64, sym, arith}
use Rattle.std.proofs.lemmas.Int.{to_z-of_z}
use Rattle.dx_stats.proofs.CountLaws.{tallied_is}
use Rattle.dx_stats.proofs.bins.Bins.tally.Goals as goal

pub returns-then-is_counted : goal.returns-then-is_counted
returns-then-is_counted c =
    let v = c.args.value in
    let yes = rw (to_z-of_z w64 v c.ranges.value) at c.if-is_counted.ensures in
    let bin = rw (to_z-of_z w64 v c.ranges.value) at c.bin_of-bin.ensures.bin in
    let within = c.bin_of-bin.ensures.within in
    tallied_is c.args.self v c.args.counts.now.items c.bin_of-bin.result c.index_mut.result.now (sym yes) bin (omega (arith, within, c.requires.len)) c.requires.some c.requires.few c.index_mut.ensures.value
