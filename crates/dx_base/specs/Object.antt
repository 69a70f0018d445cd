-- An object as plain data: a tree of its parts and its attributes, with its levels, its count and its stated size.
use Rattle.std.specs.Prelude.{ℕ, suc, ◌+◌, ◌*◌, max, ℤ, List, [], ◌∷◌, length, Option, Some, None}
use Rattle.dx_base.specs.Array.{ArrayData, array_size}

mutual
  -- the last list of each kind is that of the attributes
  pub data Tree : Type 0 where
    array : ArrayData → PartList → Tree
    text : List ℕ → PartList → Tree
    field : PartList → PartList → Tree
    group : PartList → PartList → Tree
    -- a composite group: each member is a field
    composite : PartList → PartList → Tree
    series : PartList → PartList → Tree

  -- a list of parts: a name or none, a position, and an object
  pub data PartList : Type 0 where
    no_parts : PartList
    part : Option (List ℕ) → ℤ → Tree → PartList → PartList

-- the components or members, and the attributes
abbrev pub parts : Tree → PartList
parts (array a xs) = no_parts
parts (text b xs) = no_parts
parts (field ps xs) = ps
parts (group ps xs) = ps
parts (composite ps xs) = ps
parts (series ps xs) = ps

abbrev pub attributes : Tree → PartList
attributes (array a xs) = xs
attributes (text b xs) = xs
attributes (field ps xs) = xs
attributes (group ps xs) = xs
attributes (composite ps xs) = xs
attributes (series ps xs) = xs

-- one list of parts behind another
abbrev pub append : PartList → PartList → PartList
append no_parts qs = qs
append (part n p t ps) qs = part n p t (append ps qs)

abbrev pub part_count : PartList → ℕ
part_count no_parts = 0
part_count (part n p t ps) = suc (part_count ps)

-- the levels of an object, and the most that one of the parts has
abbrev mutual
  pub levels : Tree → ℕ
  levels (array a xs) = suc (deepest xs)
  levels (text b xs) = suc (deepest xs)
  levels (field ps xs) = suc (max (deepest ps) (deepest xs))
  levels (group ps xs) = suc (max (deepest ps) (deepest xs))
  levels (composite ps xs) = suc (max (deepest ps) (deepest xs))
  levels (series ps xs) = suc (max (deepest ps) (deepest xs))

  pub deepest : PartList → ℕ
  deepest no_parts = 0
  deepest (part n p t ps) = max (levels t) (deepest ps)

-- how many objects an object is, each counted every time it occurs
abbrev mutual
  pub count : Tree → ℕ
  count (array a xs) = suc (total_count xs)
  count (text b xs) = suc (total_count xs)
  count (field ps xs) = suc (total_count ps + total_count xs)
  count (group ps xs) = suc (total_count ps + total_count xs)
  count (composite ps xs) = suc (total_count ps + total_count xs)
  count (series ps xs) = suc (total_count ps + total_count xs)

  pub total_count : PartList → ℕ
  total_count no_parts = 0
  total_count (part n p t ps) = count t + total_count ps

abbrev pub name_length : Option (List ℕ) → ℕ
name_length None = 0
name_length (Some n) = length n

-- the stated size of an object, and that of parts with their names
abbrev mutual
  pub size : Tree → ℕ
  size (array a xs) = array_size a + total_size xs
  size (text b xs) = 64 + length b + total_size xs
  size (field ps xs) = 64 + total_size ps + total_size xs
  size (group ps xs) = 64 + total_size ps + total_size xs
  size (composite ps xs) = 64 + total_size ps + total_size xs
  size (series ps xs) = 64 + (4 * part_count ps + total_size ps) + total_size xs

  pub total_size : PartList → ℕ
  total_size no_parts = 0
  total_size (part n p t ps) = name_length n + size t + total_size ps

-- the stated size of a value, which may be none, and of a list of results
abbrev pub value_size : Option Tree → ℕ
value_size None = 64
value_size (Some t) = size t

abbrev pub results_size : List (Option Tree) → ℕ
results_size [] = 0
results_size (v ∷ vs) = value_size v + results_size vs
