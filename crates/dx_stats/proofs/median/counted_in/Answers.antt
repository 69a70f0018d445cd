use Rattle.std.proofs.Common.{ℤ, pos, get_or, FitsSigned, w64, rules, append-nil}
use Rattle.std.proofs.lemmas.Int.{to_z-of_z}
use Rattle.std.proofs.lemmas.List.Elements.{filter_more}
use Rattle.dx_stats.specs.Bins.{is_counted}
use Rattle.dx_stats.proofs.median.counted_in.Goals as goal
use Rattle.dx_stats.proofs.median.counted_in.Goals.{then-is_counted+in_ok-push, else-is_counted}

pub loop-value-preserved : goal.loop-value-preserved
loop-value-preserved c =
    let v : ℤ = get_or c.args.values.now c.loop-value.value-index (pos 0) in
    let fits : FitsSigned w64 v = search rules in
    let more = filter_more (is_counted c.args.bins) c.args.values.now c.loop-value.value-index (pos 0) c.loop-value-test.true in
    elim c.if-is_counted.branch [
      | then-is_counted+in_ok-push w ↦
          let yes = rw (to_z-of_z w64 v fits) at w.if-is_counted.ensures in
          let pushed = rw (to_z-of_z w64 v fits, c.loop-value.invariant) at w.in_ok-push.ensures.items in
          rw (w.counted-is, more, ← yes) pushed
      | else-is_counted w ↦
          let no = rw (to_z-of_z w64 v fits) at w.if-is_counted.ensures in
          rw (w.counted-is, more, ← no, append-nil) c.loop-value.invariant
    ]
