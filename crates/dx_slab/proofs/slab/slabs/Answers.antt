use Rattle.std.proofs.Common.{rules, ◌≡◌, ◌<◌, ◌≤◌, Err, sym, subst, arith}
use Rattle.dx_slab.specs.Components as spec
use Rattle.dx_slab.specs.Gives.{GivesParts}
use Rattle.dx_slab.proofs.Serial.{series_begin, series_step, series_end, series_stops, grown_from}
use Rattle.dx_slab.proofs.slab.slabs.Goals as goal

pub loop-position-init : goal.loop-position-init
loop-position-init c =
    let some : 0 < c.args.number = (let end = c.requires.cut.end in let sum = c.requires.number in omega (arith, end, sum)) in
    series_begin c.args.counts.now c.args.cut c.args.whole.now c.args.first c.args.number c.push.new.members c.requires.begin some c.requires.first
    (grown_from c.new-members.result c.push.new.members c.args.first c.new-members.ensures c.in_ok-push.ensures)

pub returns-in_err-push_slab : goal.returns-in_err-push_slab
returns-in_err-push_slab c =
    let e = c.in_err-push_slab.field-0.0 in
    let here : c.loop-position.position < c.args.number = search rules in
    let stop = series_stops c.args.counts.now c.args.cut.dimension c.args.cut.thickness c.args.whole.now c.loop-position.position c.args.number c.loop-position.members c.push_slab.new.members (spec.slabs c.args.counts.now c.args.cut.dimension c.args.cut.thickness c.args.whole.now 0 c.args.number) e here c.in_err-push_slab.ensures c.loop-position.invariant in
    let same : c.from_residual-in_err-push_slab.result ≡ Err e = search rules in
    subst (λ r. GivesParts (spec.slabs c.args.counts.now c.args.cut.dimension c.args.cut.thickness c.args.whole.now 0 c.args.number) r) (sym same) stop

pub loop-position-preserved : goal.loop-position-preserved
loop-position-preserved c =
    let here : c.loop-position.position < c.args.number = search rules in
    series_step c.args.counts.now c.args.cut.dimension c.args.cut.thickness c.args.whole.now c.loop-position.position c.args.number c.loop-position.members c.push_slab.new.members (spec.slabs c.args.counts.now c.args.cut.dimension c.args.cut.thickness c.args.whole.now 0 c.args.number) here c.in_ok-push_slab.ensures c.loop-position.invariant

pub returns : goal.returns
returns c =
    let past : c.args.number ≤ c.loop-position.position = search rules in
    series_end c.args.counts.now c.args.cut.dimension c.args.cut.thickness c.args.whole.now c.loop-position.position c.args.number c.loop-position.members (spec.slabs c.args.counts.now c.args.cut.dimension c.args.cut.thickness c.args.whole.now 0 c.args.number) past c.loop-position.invariant
