-- The order of parts by their names, in which a name is looked up.
use Rattle.std.specs.Prelude.{ℕ, zero, suc, List, [], ◌∷◌, Option, Some, None, Bool, false, IsTrue, IsPermutation}
use Rattle.std.specs.List.{range_with_len}
use Rattle.std.specs.List.Sorted.{IsSortedBy}
use Rattle.std.specs.Ordering.{nat_cmp, is_lt}
use Rattle.std.specs.Cmp.Lexicographic.{slice_cmp}
use Rattle.std.specs.declared.cmp.Ordering.{Ordering}
use Rattle.dx_base.specs.Object.{PartList, no_parts, part, part_count}
use Rattle.dx_base.specs.ObjectNames.{same_name}
use Rattle.dx_base.specs.ObjectLimits.{differ}

-- the name of part number i, and none behind the end
abbrev pub name_at : PartList → ℕ → Option (List ℕ)
name_at no_parts i = None
name_at (part n p t ps) zero = n
name_at (part n p t ps) (suc i) = name_at ps i

-- names stand by their bytes, behind the parts that have none
abbrev pub rank : Option (List ℕ) → List ℕ
rank None = []
rank (Some n) = 0 ∷ n

abbrev pub rank_cmp : Option (List ℕ) → Option (List ℕ) → Ordering
rank_cmp m n = slice_cmp nat_cmp (rank m) (rank n)

abbrev pub comes_before : PartList → ℕ → ℕ → Bool
comes_before ps i j = is_lt (rank_cmp (name_at ps i) (name_at ps j))

-- whether two parts have one name
abbrev pub share_name : Option (List ℕ) → Option (List ℕ) → Bool
share_name None n = false
share_name (Some m) n = same_name m n

-- the places of all parts, by their names
pub record IsOrder (ps : PartList) (order : List ℕ) : Type 0 where
  pub places : IsPermutation (range_with_len 0 (part_count ps)) order
  pub sorted : IsSortedBy (comes_before ps) order

-- parts whose names differ, with their order
pub record AreOrdered (ps : PartList) (order : List ℕ) : Type 0 where
  pub order_is : IsOrder ps order
  pub names_differ : IsTrue (differ ps)
