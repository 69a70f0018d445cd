use Rattle.std.proofs.Common.{◌≡◌, ◌-◌, List, ℤ, length, ◌∙◌, sym, ap, subst, arith}
use Rattle.std.specs.List.{All}
use Rattle.dx_arrays.specs.Block.{IsSmall}
use Rattle.dx_stats.specs.Sums.{Adds}
use Rattle.dx_stats.proofs.Single.{small_values, count_values, few_numbers}
use Rattle.dx_stats.proofs.sums.Sums.with_items.Goals as goal

pub with-requires-clause-few : goal.with-requires-clause-few
with-requires-clause-few c =
    let a = c.args.array.now in
    let n = c.args.to - c.args.from in
    let len : length c.as_slice.result.now ≡ n = ap length (c.as_slice.ensures.value ∙ c.in_ok-read_block.ensures) ∙ count_values a c.args.from n c.requires.single in
    let most = few_numbers a c.width-width.ensures.lawful c.requires.single in
    omega (arith, len, most)

pub with-requires-clause-small : goal.with-requires-clause-small
with-requires-clause-small c =
    let a = c.args.array.now in
    let n = c.args.to - c.args.from in
    subst (λ (xs : List ℤ). All IsSmall xs) (sym (c.as_slice.ensures.value ∙ c.in_ok-read_block.ensures)) (small_values a c.args.from n c.width-width.ensures.lawful (omega arith))

pub returns-clause-sums : goal.returns-clause-sums
returns-clause-sums c = subst (λ (xs : List ℤ). Adds c.args.self xs c.with.result) (c.as_slice.ensures.value ∙ c.in_ok-read_block.ensures) c.with.ensures.sums
