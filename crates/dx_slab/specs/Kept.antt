-- Which items of a grid a slab keeps, by their indices.
use Rattle.std.specs.Prelude.{ℕ, ◌+◌, List, Bool, ◌&&◌, nat_le, nat_lt, slice_index}
use Rattle.std.specs.List.{filter, range_with_len}
use Rattle.dx_base.specs.Array.{product, indices_of}

-- the index of item number i in dimension d, where there are these extents
abbrev pub index_in : List ℕ → ℕ → ℕ → ℕ
index_in extents d i = slice_index (indices_of extents i) d

-- a number from `first` on, of which there are n
abbrev pub is_among : ℕ → ℕ → ℕ → Bool
is_among first n k = nat_le first k && nat_lt k (first + n)

-- the numbers of the items that have one of n indices from `first` on in dimension d, in their order
unfoldable pub kept : List ℕ → ℕ → ℕ → ℕ → List ℕ
kept extents d first n = filter (λ i. is_among first n (index_in extents d i)) (range_with_len 0 (product extents))
