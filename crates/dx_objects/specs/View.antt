-- The tree that an object's fields stand for, and what holds of the numbers that it keeps.
use Rattle.std.specs.Prelude.{◌≡◌, ℕ}
use Rattle.dx_base.specs.ArrayLimits.{IsLawfulArray}
use Rattle.dx_base.specs.Object.{Tree, PartList, array, text, field, group, composite, series, size, count, levels}
use Rattle.dx_base.specs.ObjectLimits.{IsLawful, AreLawful, AreBytes}
use Rattle.dx_objects.specs.declared.object.Body.{Body}
use Rattle.dx_objects.specs.declared.object.Body.TheVariants.{Array, Text, Field, Group, Composite, Series}

abbrev pub tree_of : Body → PartList → Tree
tree_of (Array a) xs = array a xs
tree_of (Text b) xs = text b xs
tree_of (Field ps) xs = field ps xs
tree_of (Group ps) xs = group ps xs
tree_of (Composite ps) xs = composite ps xs
tree_of (Series ps) xs = series ps xs

-- the kept numbers are those of the tree, and it is an object that can be made
pub record IsKept (t : Tree) (kept_size kept_count kept_levels : ℕ) : Type 0 where
  pub size_is : kept_size ≡ size t
  pub count_is : kept_count ≡ count t
  pub levels_is : kept_levels ≡ levels t
  pub lawful : IsLawful t

-- what an object holds can be made, whatever holds of the object itself
abbrev pub IsLawfulBelow : Tree → Type 0
IsLawfulBelow (array a xs) = IsLawfulArray a × AreLawful xs
IsLawfulBelow (text b xs) = AreBytes b × AreLawful xs
IsLawfulBelow (field ps xs) = AreLawful ps × AreLawful xs
IsLawfulBelow (group ps xs) = AreLawful ps × AreLawful xs
IsLawfulBelow (composite ps xs) = AreLawful ps × AreLawful xs
IsLawfulBelow (series ps xs) = AreLawful ps × AreLawful xs
