-- Which arrays there are: shapes, limits, the lengths of a class's lists, and values in their type.
use Rattle.std.specs.Prelude.{◌<◌, All, ◌≡◌, ℕ, ◌*◌, ◌%◌, ◌^◌, ℤ, List, [], ◌∷◌, length, Bool, true, ◌&&◌, ◌==◌, nat_le, IsTrue}
use Rattle.std.specs.List.{list_all}
use Rattle.dx_base.specs.Elem.{in_range}
use Rattle.dx_base.specs.Array.{Class, plain, constant, regular, grid_positions, grid_connections, ArrayData, width, items, item_list, counts_of}
use Rattle.dx_base.specs.declared.elem.ElemType.{ElemType}
use Rattle.dx_base.specs.declared.elem.ElemType.TheVariants.{Int}

abbrev pub max_rank : ℕ
max_rank = 2

abbrev pub max_extent : ℕ
max_extent = 256

abbrev pub max_dimensions : ℕ
max_dimensions = 3

abbrev pub max_items : ℕ
max_items = 16777216

abbrev pub max_values : ℕ
max_values = 134217728

-- a list of extents that is a shape, and a list of counts that is a grid's
abbrev pub is_shape : List ℕ → Bool
is_shape es = nat_le (length es) max_rank && list_all (λ e. nat_le 1 e && nat_le e max_extent) es

abbrev pub is_grid : List ℕ → Bool
is_grid cs = nat_le 1 (length cs) && nat_le (length cs) max_dimensions && list_all (λ c. nat_le 1 c) cs

abbrev pub has_grid : Class → Bool
has_grid (plain vs) = true
has_grid (constant n v) = true
has_grid (regular n o d) = true
has_grid (grid_positions cs o ds) = is_grid cs
has_grid (grid_connections cs) = is_grid cs

abbrev pub has_shape : ArrayData → Bool
has_shape a = is_shape a.extents && has_grid a.class

-- how many values there are, or are handed in where they are no whole number of items
abbrev pub value_count_of : ℕ → ℕ → Class → ℕ
value_count_of n w (plain vs) = length vs
value_count_of n w (constant m v) = n * w
value_count_of n w (regular m o d) = n * w
value_count_of n w (grid_positions cs o ds) = n * w
value_count_of n w (grid_connections cs) = n * w

abbrev pub value_count : ArrayData → ℕ
value_count a = value_count_of (items a) (width a) a.class

-- no more items than an array may have, and no more values
abbrev pub has_room : ArrayData → Bool
has_room a = nat_le (value_count a) (max_items * width a) && nat_le (value_count a) max_values

-- each list of the class has the length that shape and counts ask for, where an item has w values
abbrev pub has_lengths_of : ℕ → Class → Bool
has_lengths_of w (plain vs) = length vs % w == 0
has_lengths_of w (constant n v) = length v == w
has_lengths_of w (regular n o d) = length o == w && length d == w
has_lengths_of w (grid_positions cs o ds) = length o == length cs && length ds == length cs * length cs
has_lengths_of w (grid_connections cs) = true

abbrev pub has_lengths : ArrayData → Bool
has_lengths a = has_lengths_of (width a) a.class

-- the items whose values have to be of the type: the stored item of a constant array, also where it stands for no item, and else all items
abbrev pub checked_items : List (List ℤ) → Class → List (List ℤ)
checked_items all (plain vs) = all
checked_items all (constant n v) = v ∷ []
checked_items all (regular n o d) = all
checked_items all (grid_positions cs o ds) = all
checked_items all (grid_connections cs) = all

abbrev pub is_in_type : ArrayData → Bool
is_in_type a = list_all (list_all (in_range a.elem)) (checked_items (item_list a) a.class)

-- the points of a grid are vectors of ints, and its cells lists of their corners
abbrev pub IsOfGrid : ElemType → List ℕ → Class → Type 0
IsOfGrid t es (plain vs) = Unit {0}
IsOfGrid t es (constant n v) = Unit {0}
IsOfGrid t es (regular n o d) = Unit {0}
IsOfGrid t es (grid_positions cs o ds) = (t ≡ Int) × (es ≡ length cs ∷ [])
IsOfGrid t es (grid_connections cs) = (t ≡ Int) × (es ≡ 2 ^ length cs ∷ [])

-- an array that can be made
pub record IsLawfulArray (a : ArrayData) : Type 0 where
  pub shape : IsTrue (has_shape a)
  pub room : IsTrue (has_room a)
  pub lengths : IsTrue (has_lengths a)
  pub in_type : IsTrue (is_in_type a)
  pub counts : All (λ c. c < 2 ^ 32) (counts_of a.class)
  pub of_grid : IsOfGrid a.elem a.extents a.class
