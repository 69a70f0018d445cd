use Rattle.std.proofs.Common.{◌≡◌, ◌≤◌, ◌+◌, ◌-◌, ◌*◌, ◌++◌, suc, drop, ap, ◌∙◌, arith}
use Rattle.dx_base.specs.Array.{product}
use Rattle.dx_arrays.specs.Block.{values_from}
use Rattle.dx_arrays.proofs.Blocks.{values_one}
use Rattle.dx_slab.proofs.Keeping.{are_small, behind_all}
use Rattle.dx_slab.proofs.Shifting.{points_are, first_item, first_within}
use Rattle.dx_slab.proofs.cut.first_point.Goals as goal

pub overflow_mul-number : goal.overflow_mul-number
overflow_mul-number c =
    let cs = c.args.counts.now in
    let cut = c.args.cut in
    let small = are_small cs cut.dimension cut.first (cut.thickness + 1) c.requires.cut.dimension (let end = c.requires.cut.end in omega (arith, end)) c.requires.cut.counts.some c.requires.cut.counts.few in
    let behind = ap product (behind_all cs (cut.dimension + 1)) in
    let is : c.point_count.result ≡ product (drop (cut.dimension + 1) cs) = omega (arith, behind, small.behind, c.point_count.ensures) in
    let fits : cut.first * c.point_count.result ≤ 16777216 = rw is small.start in
    omega (arith, fits)

pub overflow_add-number : goal.overflow_add-number
overflow_add-number c =
    let cs = c.args.counts.now in
    let cut = c.args.cut in
    let small = are_small cs cut.dimension cut.first (cut.thickness + 1) c.requires.cut.dimension (let end = c.requires.cut.end in omega (arith, end)) c.requires.cut.counts.some c.requires.cut.counts.few in
    let behind = ap product (behind_all cs (cut.dimension + 1)) in
    let is : c.point_count.result ≡ product (drop (cut.dimension + 1) cs) = omega (arith, behind, small.behind, c.point_count.ensures) in
    let fits : cut.first * c.point_count.result ≤ 16777216 = rw is small.start in
    omega (arith, fits)

pub push_items-requires-clause-within : goal.push_items-requires-clause-within
push_items-requires-clause-within c =
    let a = c.args.array.now in
    let cs = c.args.counts.now in
    let cut = c.args.cut in
    let small = are_small cs cut.dimension cut.first (cut.thickness + 1) c.requires.cut.dimension (let end = c.requires.cut.end in omega (arith, end)) c.requires.cut.counts.some c.requires.cut.counts.few in
    let behind = ap product (behind_all cs (cut.dimension + 1)) in
    let one : cut.dimension + 1 ≡ suc cut.dimension = omega arith in
    let is : c.point_count.result ≡ product (drop (cut.dimension + 1) cs) = omega (arith, behind, small.behind, c.point_count.ensures) in
    let number : cut.first * c.point_count.result ≡ cut.first * product (drop (suc cut.dimension) cs) = ap (λ n. cut.first * n) (is ∙ ap (λ k. product (drop k cs)) one) in
    let within = first_within cs cut c.requires.cut in
    let points = points_are a cs c.items-items.ensures.lawful c.requires.points in
    omega (arith, number, within, points.items)

pub returns : goal.returns
returns c =
    let a = c.args.array.now in
    let cs = c.args.counts.now in
    let cut = c.args.cut in
    let small = are_small cs cut.dimension cut.first (cut.thickness + 1) c.requires.cut.dimension (let end = c.requires.cut.end in omega (arith, end)) c.requires.cut.counts.some c.requires.cut.counts.few in
    let behind = ap product (behind_all cs (cut.dimension + 1)) in
    let one : cut.dimension + 1 ≡ suc cut.dimension = omega arith in
    let is : c.point_count.result ≡ product (drop (cut.dimension + 1) cs) = omega (arith, behind, small.behind, c.point_count.ensures) in
    let number : cut.first * c.point_count.result ≡ cut.first * product (drop (suc cut.dimension) cs) = ap (λ n. cut.first * n) (is ∙ ap (λ k. product (drop k cs)) one) in
    let points = points_are a cs c.items-items.ensures.lawful c.requires.points in
    let n = cut.first * c.point_count.result in
    let gap : n + 1 - n ≡ 1 = omega arith in
    c.in_ok-push_items.ensures.ok
    ∙ ap (λ vs. vs ++ values_from a n (n + 1 - n)) c.new-point.ensures.items
    ∙ ap (values_from a n) gap ∙ values_one a n
    ∙ first_item a cs _ _ cut n points c.requires.cut number
