-- Parts that are found by their names, put among others and taken out.
use Rattle.std.specs.Prelude.{ℕ, pos, List, Option, Some, None, Bool, false, if◌then◌else◌, bytes_eq}
use Rattle.dx_base.specs.Object.{Tree, PartList, array, text, field, group, composite, series, no_parts, part, attributes}

abbrev pub same_name : List ℕ → Option (List ℕ) → Bool
same_name n None = false
same_name n (Some m) = bytes_eq n m

-- the object of the first part of this name
abbrev pub find : List ℕ → PartList → Option Tree
find n no_parts = None
find n (part m p t ps) = if same_name n m then Some t else find n ps

-- the component of a field, the member of a group, and the attribute of this name
abbrev pub component : List ℕ → Tree → Option Tree
component n (array a xs) = None
component n (text b xs) = None
component n (field ps xs) = find n ps
component n (group ps xs) = None
component n (composite ps xs) = None
component n (series ps xs) = None

abbrev pub member : List ℕ → Tree → Option Tree
member n (array a xs) = None
member n (text b xs) = None
member n (field ps xs) = None
member n (group ps xs) = find n ps
member n (composite ps xs) = find n ps
member n (series ps xs) = None

abbrev pub attribute : List ℕ → Tree → Option Tree
attribute n t = find n (attributes t)

-- the parts with an object under a name: in the place of the first that has the name, or last
abbrev pub put : List ℕ → Tree → PartList → PartList
put n t no_parts = part (Some n) (pos 0) t no_parts
put n t (part m p u ps) = if same_name n m then part m p t ps else part m p u (put n t ps)

-- the parts without the first that has the name
abbrev pub without : List ℕ → PartList → PartList
without n no_parts = no_parts
without n (part m p u ps) = if same_name n m then ps else part m p u (without n ps)

-- the field with a component in its place or last, and the field without one; none of an object that is no field
abbrev pub with_component : List ℕ → Tree → Tree → Option Tree
with_component n t (array a xs) = None
with_component n t (text b xs) = None
with_component n t (field ps xs) = Some (field (put n t ps) xs)
with_component n t (group ps xs) = None
with_component n t (composite ps xs) = None
with_component n t (series ps xs) = None

abbrev pub without_component : List ℕ → Tree → Option Tree
without_component n (array a xs) = None
without_component n (text b xs) = None
without_component n (field ps xs) = Some (field (without n ps) xs)
without_component n (group ps xs) = None
without_component n (composite ps xs) = None
without_component n (series ps xs) = None
