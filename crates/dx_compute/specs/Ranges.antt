-- Where the values of arrays lie in a run of items.
use Rattle.std.specs.Prelude.{◌≡◌, ◌<◌, ◌≤◌, ℕ, ℤ, List, Option}
use Rattle.dx_base.specs.Array.{ArrayData, width, value}
use Rattle.dx_expr_ranges.specs.declared.range.Range.{Range}
use Rattle.dx_expr_ranges.specs.Ranges.{LiesFrom, IsIn, Keeps, given_for}
use Rattle.dx_compute_meaning.specs.Arrays.{Arrays, given, item_of}
use Rattle.dx_compute.specs.declared.ranges.Reach.{Reach}

-- a value lies in a reach, and is zero only where one may be
abbrev pub Holds : Reach → ℤ → Type 0
Holds r v = LiesFrom r.low r.high r.zero v

-- the values of an item of an array do
abbrev pub HoldsItem : ArrayData → Reach → ℕ → Type 0
HoldsItem a r item = (place : ℕ) → place < width a → Holds r (value a item place)

-- those of its items from one to before another do
abbrev pub HoldsRun : ArrayData → Reach → ℕ → ℕ → Type 0
HoldsRun a r from to = (item place : ℕ) → from ≤ item → item < to → place < width a → Holds r (value a item place)

-- those of the items that stand for them do
abbrev pub HoldsFor : ArrayData → Reach → ℕ → ℕ → Type 0
HoldsFor a r from to = (item place : ℕ) → from ≤ item → item < to → place < width a → Holds r (value a (item_of a item) place)

-- a range is that of a reach, with so many values in each item
pub record IsRange (reach : Reach) (n : ℕ) (r : Range) : Type 0 where
  pub count : r.count ≡ n
  pub values : (v : ℤ) → Holds reach v → IsIn r v

-- the first arrays, so many, keep each to the range that is given for it
abbrev pub KeepFirst : Arrays → ℕ → ℕ → ℕ → List (Option Range) → Type 0
KeepFirst arrays n from to ranges = (k : ℕ) → k < n → Keeps (given arrays) k from to (given_for ranges k)
