use Rattle.std.proofs.Common.{sym, ◌∙◌, arith}
use Rattle.dx_slab.proofs.Keeping.{count_few}
use Rattle.dx_slab.proofs.Measuring.{many_large}
use Rattle.dx_slab.proofs.Serial.{members_stop, series_err}
use Rattle.dx_slab.proofs.slab.series_from.Goals as goal

pub many_fit-requires : goal.many_fit-requires
many_fit-requires c =
    let few = count_few c.args.counts.now c.args.cut.dimension c.requires.cut.dimension c.requires.cut.counts.some c.requires.cut.counts.few in
    let sum = c.requires.number in
    omega (arith, few, sum)

pub slabs-requires-clause-few : goal.slabs-requires-clause-few
slabs-requires-clause-few c =
    let few = count_few c.args.counts.now c.args.cut.dimension c.requires.cut.dimension c.requires.cut.counts.some c.requires.cut.counts.few in
    let sum = c.requires.number in
    omega (arith, few, sum)

pub returns-then-not-many_fit : goal.returns-then-not-many_fit
returns-then-not-many_fit c =
    many_large c.args.counts.now c.args.cut c.args.whole.now c.args.first c.args.number c.requires.cut c.requires.begin c.requires.number c.requires.first
    (sym c.many_fit.ensures ∙ c.if-not-many_fit.true)

pub returns-in-Err : goal.returns-in-Err
returns-in-Err c = members_stop c.args.counts.now c.args.cut c.args.whole.now c.args.number c.in-Err.fail c.requires.number c.in-Err.ensures

pub returns-in-Err-series : goal.returns-in-Err-series
returns-in-Err-series c =
    series_err c.args.counts.now c.args.cut c.args.whole.now c.args.number c.in-Ok.members c.new.result c.in-Err-series.field-0 c.requires.number c.in-Ok.ensures c.new.ensures c.in-Err-series.ensures
