use Rattle.std.proofs.Common.{◌≡◌, ◌-ℤ◌, ◌+◌, FitsSigned, w64, ap, arith, rules}
use Rattle.std.specs.Prelude.{unsigned_abs}
use Rattle.std.proofs.lemmas.Int.{to_z-of_z}
use Rattle.dx_stats.proofs.BinsLaws.{span_few}
use Rattle.dx_stats.proofs.bins.Bins.span.Goals as goal
use Rattle.dx_stats.proofs.bins.Bins.span.Goals.{After-abs_diff}

distance : (c : After-abs_diff) → c.abs_diff.result ≡ unsigned_abs (c.args.self.high -ℤ c.args.self.low)
distance c =
    let high : FitsSigned w64 c.args.self.high = search rules in
    let low : FitsSigned w64 c.args.self.low = search rules in
    rw (to_z-of_z w64 c.args.self.high high, to_z-of_z w64 c.args.self.low low) at c.abs_diff.ensures

pub overflow_add-result : goal.overflow_add-result
overflow_add-result c =
    let is = distance c in
    let few = span_few c.args.self c.requires in
    omega (arith, is, few)

pub returns-clause-value : goal.returns-clause-value
returns-clause-value c = ap (λ n. n + 1) (distance c)

pub returns-clause-few : goal.returns-clause-few
returns-clause-few c =
    let is = distance c in
    let few = span_few c.args.self c.requires in
    omega (arith, is, few)
