-- An array as plain data: its type, its shape, its class with the class's parameters, and the items that these stand for.
use Rattle.std.specs.Prelude.{ℕ, ◌+◌, ◌*◌, ◌/◌, ◌%◌, ◌-◌, ℤ, pos, ◌+ℤ◌, ◌*ℤ◌, List, [], ◌∷◌, ◌++◌, map, length, drop, slice_index, slice_index_or}
use Rattle.std.specs.List.{range_with_len}
use Rattle.dx_base.specs.Elem.{byte_count}
use Rattle.dx_base.specs.declared.elem.ElemType.{ElemType}

-- how the items are given
pub data Class : Type 0 where
  -- all values, item by item
  plain : List ℤ → Class
  -- the number of items, and the one item that is stored
  constant : ℕ → List ℤ → Class
  -- the number of items, the origin, and the delta from one item to the next
  regular : ℕ → List ℤ → List ℤ → Class
  -- the points of a grid: counts, origin, and a delta for each dimension, one after the other
  grid_positions : List ℕ → List ℤ → List ℤ → Class
  -- the cells of a grid with these counts of points
  grid_connections : List ℕ → Class

pub record ArrayData : Type 0 where
  pub elem : ElemType
  pub extents : List ℕ
  pub class : Class

abbrev pub product : List ℕ → ℕ
product [] = 1
product (n ∷ ns) = n * product ns

-- how many values an item has
abbrev pub width : ArrayData → ℕ
width a = product a.extents

abbrev pub number : List ℤ → ℕ → ℤ
number vs i = slice_index_or vs i (pos 0)

-- the indices of point number i of a grid with these counts: the last index varies fastest
abbrev pub indices_of : List ℕ → ℕ → List ℕ
indices_of [] i = []
indices_of (c ∷ cs) i = i / product cs % c ∷ indices_of cs i

-- the number of the point with these indices
abbrev pub point_number : List ℕ → List ℕ → ℕ
point_number [] is = 0
point_number (c ∷ cs) [] = 0
point_number (c ∷ cs) (i ∷ is) = i * product cs + point_number cs is

-- how far the point with these indices lies from the origin in one place: the sum of index times delta, with n values in each delta
abbrev pub offset : ℕ → List ℕ → List ℤ → ℕ → ℤ
offset n [] ds place = pos 0
offset n (i ∷ is) ds place = pos i *ℤ number ds place +ℤ offset n is (drop n ds) place

-- how many cells stand side by side in each dimension
abbrev pub cells : List ℕ → List ℕ
cells cs = map (λ c. c - 1) cs

-- the numbers of the corner points of the cell with these indices: in each dimension the near side and then the far one
abbrev pub corner_numbers : List ℕ → List ℕ → List ℕ
corner_numbers [] js = 0 ∷ []
corner_numbers (c ∷ cs) [] = []
corner_numbers (c ∷ cs) (j ∷ js) =
    map (λ m. j * product cs + m) (corner_numbers cs js) ++ map (λ m. (j + 1) * product cs + m) (corner_numbers cs js)

-- how many items there are, where an item has w values
abbrev pub items_of : ℕ → Class → ℕ
items_of w (plain vs) = length vs / w
items_of w (constant n v) = n
items_of w (regular n o d) = n
items_of w (grid_positions cs o ds) = product cs
items_of w (grid_connections cs) = product (cells cs)

-- the value of item i in a place, where an item has w values
abbrev pub value_of : ℕ → Class → ℕ → ℕ → ℤ
value_of w (plain vs) i place = number vs (i * w + place)
value_of w (constant n v) i place = number v place
value_of w (regular n o d) i place = number o place +ℤ pos i *ℤ number d place
value_of w (grid_positions cs o ds) i place = number o place +ℤ offset (length cs) (indices_of cs i) ds place
value_of w (grid_connections cs) i place = pos (slice_index (corner_numbers cs (indices_of (cells cs) i)) place)

abbrev pub items : ArrayData → ℕ
items a = items_of (width a) a.class

abbrev pub value : ArrayData → ℕ → ℕ → ℤ
value a i place = value_of (width a) a.class i place

-- item number i as the list of its values, and all items
abbrev pub item : ArrayData → ℕ → List ℤ
item a i = map (value a i) (range_with_len 0 (width a))

abbrev pub item_list : ArrayData → List (List ℤ)
item_list a = map (item a) (range_with_len 0 (items a))

-- the parameters of a class: the counts of a grid
abbrev pub counts_of : Class → List ℕ
counts_of (plain vs) = []
counts_of (constant n v) = []
counts_of (regular n o d) = []
counts_of (grid_positions cs o ds) = cs
counts_of (grid_connections cs) = cs

-- the origin, or the one item of a constant array
abbrev pub origin_of : Class → List ℤ
origin_of (plain vs) = []
origin_of (constant n v) = v
origin_of (regular n o d) = o
origin_of (grid_positions cs o ds) = o
origin_of (grid_connections cs) = []

-- the delta of a regular array, or those of a grid
abbrev pub deltas_of : Class → List ℤ
deltas_of (plain vs) = []
deltas_of (constant n v) = []
deltas_of (regular n o d) = d
deltas_of (grid_positions cs o ds) = ds
deltas_of (grid_connections cs) = []

-- the bytes that the parameters of a class state, where an item has w values of b bytes
abbrev pub stated_bytes : ℕ → ℕ → Class → ℕ
stated_bytes w b (plain vs) = length vs * b
stated_bytes w b (constant n v) = w * b
stated_bytes w b (regular n o d) = 2 * (w * b)
stated_bytes w b (grid_positions cs o ds) = 4 * (2 * length cs + length cs * length cs)
stated_bytes w b (grid_connections cs) = 4 * length cs

-- the stated size
abbrev pub array_size : ArrayData → ℕ
array_size a = 64 + stated_bytes (width a) (byte_count a.elem) a.class
