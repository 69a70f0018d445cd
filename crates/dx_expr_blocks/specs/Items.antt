-- The items of a block.
use Rattle.std.specs.Prelude.{ℕ, ◌-◌, ◌<◌, List, [], ◌∷◌}
use Rattle.std.specs.List.{range_with_len}
use Rattle.dx_expr_blocks.specs.declared.block.Block.{Block}
use Rattle.dx_expr_blocks.specs.declared.block.Block.TheVariants.{Range, Listed}

-- in the order in which they are looked at
abbrev pub items_of : Block → List ℕ
items_of (Range from to) = range_with_len from (to - from)
items_of (Listed items) = items.now

-- each is below a number
abbrev pub all_below : ℕ → List ℕ → Type 0
all_below n [] = Unit {0}
all_below n (item ∷ items) = (item < n) × all_below n items
