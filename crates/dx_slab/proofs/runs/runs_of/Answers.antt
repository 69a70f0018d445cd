use Rattle.std.proofs.Common.{◌≡◌, ◌≤◌, ◌+◌, ◌*◌, get_or, take, drop, ap, arith}
use Rattle.dx_base.specs.Array.{product}
use Rattle.dx_slab.proofs.Keeping.{kept_runs, runs_within, are_small, behind_all}
use Rattle.dx_slab.proofs.runs.runs_of.Goals as goal

pub overflow_mul-result : goal.overflow_mul-result
overflow_mul-result c =
    let small = are_small c.args.extents.now c.args.dimension c.args.first c.args.n c.requires.dimension c.requires.end c.requires.some c.requires.few in
    let behind = ap product (behind_all c.args.extents.now (c.args.dimension + 1)) in
    let is : c.point_count-behind.result ≡ product (drop (c.args.dimension + 1) c.args.extents.now) = omega (arith, behind, small.behind, c.point_count-behind.ensures) in
    let fits : get_or c.args.extents.now c.args.dimension 0 * c.point_count-behind.result ≤ 16777216 = rw is small.stride in
    omega (arith, fits)

pub overflow_mul-result-2 : goal.overflow_mul-result-2
overflow_mul-result-2 c =
    let small = are_small c.args.extents.now c.args.dimension c.args.first c.args.n c.requires.dimension c.requires.end c.requires.some c.requires.few in
    let behind = ap product (behind_all c.args.extents.now (c.args.dimension + 1)) in
    let is : c.point_count-behind.result ≡ product (drop (c.args.dimension + 1) c.args.extents.now) = omega (arith, behind, small.behind, c.point_count-behind.ensures) in
    let fits : c.args.first * c.point_count-behind.result ≤ 16777216 = rw is small.start in
    omega (arith, fits)

pub overflow_mul-result-3 : goal.overflow_mul-result-3
overflow_mul-result-3 c =
    let small = are_small c.args.extents.now c.args.dimension c.args.first c.args.n c.requires.dimension c.requires.end c.requires.some c.requires.few in
    let behind = ap product (behind_all c.args.extents.now (c.args.dimension + 1)) in
    let is : c.point_count-behind.result ≡ product (drop (c.args.dimension + 1) c.args.extents.now) = omega (arith, behind, small.behind, c.point_count-behind.ensures) in
    let fits : c.args.n * c.point_count-behind.result ≤ 16777216 = rw is small.len in
    omega (arith, fits)

pub returns-clause-items : goal.returns-clause-items
returns-clause-items c =
    let small = are_small c.args.extents.now c.args.dimension c.args.first c.args.n c.requires.dimension c.requires.end c.requires.some c.requires.few in
    let behind = ap product (behind_all c.args.extents.now (c.args.dimension + 1)) in
    let is : c.point_count-behind.result ≡ product (drop (c.args.dimension + 1) c.args.extents.now) = omega (arith, behind, small.behind, c.point_count-behind.ensures) in
    let front : c.point_count.result ≡ product (take c.args.dimension c.args.extents.now) = omega (arith, small.front, c.point_count.ensures) in
    kept_runs c.args.extents.now c.args.dimension c.args.first c.args.n _ c.requires.dimension c.requires.end c.requires.some
    (record { count = front; stride = ap (λ n. get_or c.args.extents.now c.args.dimension 0 * n) is; start = ap (λ n. c.args.first * n) is; len = ap (λ n. c.args.n * n) is })

pub returns-clause-within : goal.returns-clause-within
returns-clause-within c =
    let small = are_small c.args.extents.now c.args.dimension c.args.first c.args.n c.requires.dimension c.requires.end c.requires.some c.requires.few in
    let behind = ap product (behind_all c.args.extents.now (c.args.dimension + 1)) in
    let is : c.point_count-behind.result ≡ product (drop (c.args.dimension + 1) c.args.extents.now) = omega (arith, behind, small.behind, c.point_count-behind.ensures) in
    let front : c.point_count.result ≡ product (take c.args.dimension c.args.extents.now) = omega (arith, small.front, c.point_count.ensures) in
    runs_within c.args.extents.now c.args.dimension c.args.first c.args.n _ c.requires.dimension c.requires.end
    (record { count = front; stride = ap (λ n. get_or c.args.extents.now c.args.dimension 0 * n) is; start = ap (λ n. c.args.first * n) is; len = ap (λ n. c.args.n * n) is })
