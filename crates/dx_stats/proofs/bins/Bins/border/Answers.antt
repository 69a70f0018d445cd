use Rattle.std.proofs.Common.{◌≡◌, ◌*◌, ◌≤◌, ap, ◌∙◌, arith}
use Rattle.std.specs.Int.{div_ceil}
use Rattle.std.proofs.lemmas.Int.{ints}
use Rattle.dx_stats.specs.Bins.{span}
use Rattle.dx_stats.proofs.BinsLaws.{ceil_few, border_is}
use Rattle.dx_stats.proofs.bins.Bins.border.Goals as goal

pub overflow_cast-result : goal.overflow_cast-result
overflow_cast-result c =
    let most = c.product.ensures.few in
    let up = ceil_few c.product.result c.args.self.count c.requires.bins.some in
    let rounded = c.div_ceil.ensures in
    let few : c.div_ceil.result ≤ 562949953421313 = omega (arith, most, up, rounded) in
    omega (arith, few)

pub overflow_add-result : goal.overflow_add-result
overflow_add-result c =
    let most = c.product.ensures.few in
    let up = ceil_few c.product.result c.args.self.count c.requires.bins.some in
    let rounded = c.div_ceil.ensures in
    let few : c.div_ceil.result ≤ 562949953421313 = omega (arith, most, up, rounded) in
    omega (arith, ints, few, c.requires.bins.low, c.requires.bins.high, c.requires.bins.order)

pub returns : goal.returns
returns c =
    let most = c.product.ensures.few in
    let up = ceil_few c.product.result c.args.self.count c.requires.bins.some in
    let rounded = c.div_ceil.ensures in
    let few : c.div_ceil.result ≤ 562949953421313 = omega (arith, most, up, rounded) in
    let is : c.div_ceil.result ≡ div_ceil (span c.args.self * c.args.k) c.args.self.count = c.div_ceil.ensures ∙ ap (λ n. div_ceil n c.args.self.count) (c.product.ensures.value ∙ ap (λ n. n * c.args.k) c.span.ensures.value) in
    border_is c.args.self c.args.k c.div_ceil.result c.requires.bins is few
