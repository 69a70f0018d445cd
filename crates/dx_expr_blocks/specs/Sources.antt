-- Where the values of an input stand.
use Rattle.std.specs.Prelude.{◌≡◌, ◌<◌, ◌≤◌, ◌+◌, ◌*◌, ℕ, List, length, slice_index_or, ℤ, pos, true}
use Rattle.dx_expr.specs.Value.{Inputs, size, is_int}
use Rattle.dx_expr_blocks.specs.declared.inputs.Source.{Source}
use Rattle.dx_expr_blocks.specs.declared.inputs.Source.TheVariants.{Each, Ints, Same, Other}
use Rattle.dx_expr_blocks.specs.declared.inputs.Table.{Table}
use Rattle.dx_expr_blocks.specs.declared.inputs.Table.TheVariants as table

-- it has the values of input k for so many items
abbrev pub IsSource : Inputs → ℕ → ℕ → Source → Type 0
IsSource inputs items k (Each values) =
    (items ≤ length values.now) × ((item : ℕ) → item < items → inputs.value k item 0 ≡ slice_index_or values.now item (pos 0))
IsSource inputs items k (Ints values) =
    (items ≤ length values.now) × ((item : ℕ) → item < items → inputs.value k item 0 ≡ slice_index_or values.now item (pos 0))
IsSource inputs items k (Same v) = (item : ℕ) → item < items → inputs.value k item 0 ≡ v
IsSource inputs items k Other = Unit {0}

-- all values of input k lie in the int range, for so many items
abbrev pub AreInts : Inputs → ℕ → ℕ → Type 0
AreInts inputs items k = (item place : ℕ) → item < items → place < size (inputs.shape k) → is_int (inputs.value k item place) ≡ true

-- the values of input k stand in rows of a width, for so many items
abbrev pub AreRows : Inputs → ℕ → ℕ → List ℤ → ℕ → Type 0
AreRows inputs items k values width =
    (item place : ℕ) → item < items → place < size (inputs.shape k) → (item * width + place < length values) × (inputs.value k item place ≡ slice_index_or values (item * width + place) (pos 0))

-- it has the values of input k, of which each item may have some, for so many items
abbrev pub IsTable : Inputs → ℕ → ℕ → Table → Type 0
IsTable inputs items k (table.Rows values width) = AreInts inputs items k × AreRows inputs items k values.now width
IsTable inputs items k (table.IntRows values width) = AreInts inputs items k × AreRows inputs items k values.now width
IsTable inputs items k table.Ints = AreInts inputs items k
IsTable inputs items k table.Other = Unit {0}
