-- Which objects there are: names, components that are arrays, and the limits of levels, count and stated size.
use Rattle.std.specs.Prelude.{◌<◌, All, ◌≡◌, ℕ, pos, List, Option, Some, None, is_some, is_none, Bool, true, false, ◌&&◌, nat_le, IsTrue}
use Rattle.dx_base.specs.declared.elem.ElemType.TheVariants.{Int}
use Rattle.dx_base.specs.Elem.{in_range}
use Rattle.dx_base.specs.ArrayLimits.{IsLawfulArray}
use Rattle.dx_base.specs.Object.{Tree, PartList, array, text, field, group, composite, series, no_parts, part, levels, count, size}
use Rattle.dx_base.specs.ObjectNames.{find}

abbrev pub max_levels : ℕ
max_levels = 64

abbrev pub max_count : ℕ
max_count = 1048576

abbrev pub max_size : ℕ
max_size = 268435456

-- the limits of an object
abbrev pub fits : Tree → Bool
fits t = nat_le (levels t) max_levels && nat_le (count t) max_count && nat_le (size t) max_size

abbrev pub is_array : Tree → Bool
is_array (array a xs) = true
is_array (text b xs) = false
is_array (field ps xs) = false
is_array (group ps xs) = false
is_array (composite ps xs) = false
is_array (series ps xs) = false

abbrev pub is_field : Tree → Bool
is_field (array a xs) = false
is_field (text b xs) = false
is_field (field ps xs) = true
is_field (group ps xs) = false
is_field (composite ps xs) = false
is_field (series ps xs) = false

abbrev pub all_fields : PartList → Bool
all_fields no_parts = true
all_fields (part n p t ps) = is_field t && all_fields ps

abbrev pub all_arrays : PartList → Bool
all_arrays no_parts = true
all_arrays (part n p t ps) = is_array t && all_arrays ps

-- no part has this name
abbrev pub lacks : Option (List ℕ) → PartList → Bool
lacks None ps = true
lacks (Some n) ps = is_none (find n ps)

-- the names that stand differ
abbrev pub differ : PartList → Bool
differ no_parts = true
differ (part n p t ps) = lacks n ps && differ ps

abbrev pub all_named : PartList → Bool
all_named no_parts = true
all_named (part n p t ps) = is_some n && all_named ps

abbrev pub none_named : PartList → Bool
none_named no_parts = true
none_named (part n p t ps) = is_none n && none_named ps

-- components and attributes have names that differ, members of a group may have such names, and members of a series have none
abbrev pub has_good_names : Tree → Bool
has_good_names (array a xs) = all_named xs && differ xs
has_good_names (text b xs) = all_named xs && differ xs
has_good_names (field ps xs) = all_named ps && differ ps && (all_named xs && differ xs)
has_good_names (group ps xs) = differ ps && (all_named xs && differ xs)
has_good_names (composite ps xs) = differ ps && (all_named xs && differ xs)
has_good_names (series ps xs) = none_named ps && (all_named xs && differ xs)

-- the components of a field are arrays
abbrev pub has_array_components : Tree → Bool
has_array_components (array a xs) = true
has_array_components (text b xs) = true
has_array_components (field ps xs) = all_arrays ps
has_array_components (group ps xs) = true
has_array_components (composite ps xs) = true
has_array_components (series ps xs) = true

-- the members of a composite group are fields
abbrev pub has_field_members : Tree → Bool
has_field_members (array a xs) = true
has_field_members (text b xs) = true
has_field_members (field ps xs) = true
has_field_members (group ps xs) = true
has_field_members (composite ps xs) = all_fields ps
has_field_members (series ps xs) = true

-- the parts with no position, for which 0 stands
abbrev pub unplaced : PartList → PartList
unplaced no_parts = no_parts
unplaced (part n p t ps) = part n (pos 0) t (unplaced ps)

-- the members of a series alone have positions
abbrev pub HasNoPositions : Tree → Type 0
HasNoPositions (array a xs) = unplaced xs ≡ xs
HasNoPositions (text b xs) = unplaced xs ≡ xs
HasNoPositions (field ps xs) = (unplaced ps ≡ ps) × (unplaced xs ≡ xs)
HasNoPositions (group ps xs) = (unplaced ps ≡ ps) × (unplaced xs ≡ xs)
HasNoPositions (composite ps xs) = (unplaced ps ≡ ps) × (unplaced xs ≡ xs)
HasNoPositions (series ps xs) = unplaced xs ≡ xs

-- what holds of one object that can be made, its parts aside
pub record IsAllowed (t : Tree) : Type 0 where
  pub names : IsTrue (has_good_names t)
  pub components : IsTrue (has_array_components t)
  pub members : IsTrue (has_field_members t)
  pub limits : IsTrue (fits t)
  pub positions : HasNoPositions t

abbrev pub AreBytes : List ℕ → Type 0
AreBytes bs = All (λ b. b < 256) bs

abbrev pub IsName : Option (List ℕ) → Type 0
IsName None = Unit {0}
IsName (Some n) = AreBytes n

-- an object that can be made: it and all below it is allowed, texts and names are bytes, and positions are ints
abbrev mutual
  pub IsLawful : Tree → Type 0
  IsLawful (array a xs) = IsLawfulArray a × IsAllowed (array a xs) × AreLawful xs
  IsLawful (text b xs) = AreBytes b × IsAllowed (text b xs) × AreLawful xs
  IsLawful (field ps xs) = IsAllowed (field ps xs) × AreLawful ps × AreLawful xs
  IsLawful (group ps xs) = IsAllowed (group ps xs) × AreLawful ps × AreLawful xs
  IsLawful (composite ps xs) = IsAllowed (composite ps xs) × AreLawful ps × AreLawful xs
  IsLawful (series ps xs) = IsAllowed (series ps xs) × AreLawful ps × AreLawful xs

  pub AreLawful : PartList → Type 0
  AreLawful no_parts = Unit {0}
  AreLawful (part n p t ps) = IsName n × IsTrue (in_range Int p) × IsLawful t × AreLawful ps
