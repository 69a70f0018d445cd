-- Groups and series whose members are replaced.
use Rattle.std.specs.Prelude.{List, [], ◌∷◌, Option, Some, None, if◌then◌else◌}
use Rattle.dx_base.specs.Object.{Tree, PartList, array, text, field, group, composite, series, no_parts, part}
use Rattle.dx_base.specs.ObjectLimits.{all_fields}

-- the parts with these objects in their places, one after the other; names and positions stay
abbrev pub placed : PartList → List Tree → PartList
placed no_parts ts = no_parts
placed (part n p u ps) [] = part n p u ps
placed (part n p u ps) (t ∷ ts) = part n p t (placed ps ts)

-- a composite group, where each member is a field, and else a group
abbrev pub composite_or_group : PartList → PartList → Tree
composite_or_group ps xs = if all_fields ps then composite ps xs else group ps xs

-- the group or series with these members in the places of its own; none of an object that is neither
abbrev pub with_members : List Tree → Tree → Option Tree
with_members ts (array a xs) = None
with_members ts (text b xs) = None
with_members ts (field ps xs) = None
with_members ts (group ps xs) = Some (group (placed ps ts) xs)
with_members ts (composite ps xs) = Some (composite_or_group (placed ps ts) xs)
with_members ts (series ps xs) = Some (series (placed ps ts) xs)
