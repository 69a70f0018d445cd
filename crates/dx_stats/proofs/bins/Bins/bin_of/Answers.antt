use Rattle.std.proofs.Common.{◌≡◌, ◌-ℤ◌, ◌*◌, ◌/◌, ◌<◌, FitsSigned, w64, ◌∙◌, arith, rules}
use Rattle.std.specs.Prelude.{unsigned_abs}
use Rattle.std.proofs.lemmas.Int.{to_z-of_z}
use Rattle.dx_stats.specs.Bins.{span, scale}
use Rattle.dx_stats.proofs.BinsLaws.{span_few, distance_few, bin_below}
use Rattle.dx_stats.proofs.SlopeLaws.{scaled_bin, product_wide}
use Rattle.dx_stats.proofs.bins.Bins.bin_of.Goals as goal
use Rattle.dx_stats.proofs.bins.Bins.bin_of.Goals.{After-from}

distance : (c : After-from) → c.from.result ≡ unsigned_abs (c.args.value -ℤ c.args.self.low)
distance c =
    let low : FitsSigned w64 c.args.self.low = search rules in
    let is : c.abs_diff.result ≡ unsigned_abs (c.args.value -ℤ c.args.self.low) = rw (to_z-of_z w64 c.args.value c.ranges.value, to_z-of_z w64 c.args.self.low low) at c.abs_diff.ensures in
    c.from.ensures ∙ is

bin : (c : After-from) → c.from.result * c.args.slope / scale ≡ unsigned_abs (c.args.value -ℤ c.args.self.low) * c.args.self.count / span c.args.self
bin c =
    let near = distance_few c.args.self c.args.value c.requires.bins c.requires.counted in
    let few = span_few c.args.self c.requires.bins in
    rw (distance c) (scaled_bin c.args.self (unsigned_abs (c.args.value -ℤ c.args.self.low)) c.args.slope near (omega (arith, few)) c.requires.slope)

within : (c : After-from) → c.from.result * c.args.slope / scale < c.args.self.count
within c =
    let near = distance_few c.args.self c.args.value c.requires.bins c.requires.counted in
    rw (bin c) (bin_below (unsigned_abs (c.args.value -ℤ c.args.self.low)) c.args.self.count (span c.args.self) near c.requires.bins.some)

pub overflow_mul-result : goal.overflow_mul-result
overflow_mul-result c =
    let is = distance c in
    let near = distance_few c.args.self c.args.value c.requires.bins c.requires.counted in
    let few = span_few c.args.self c.requires.bins in
    let wide = product_wide c.from.result c.args.slope (omega (arith, is, near, few)) c.requires.slope.few in
    omega (arith, wide)

pub overflow_cast-result : goal.overflow_cast-result
overflow_cast-result c =
    let low = within c in
    let few = c.requires.bins.few in
    omega (arith, low, few)

pub returns-clause-bin : goal.returns-clause-bin
returns-clause-bin c = bin c

pub returns-clause-within : goal.returns-clause-within
returns-clause-within c = within c
