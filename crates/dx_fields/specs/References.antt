-- What a component's attributes refer to: another component of the field, by its name.
use Rattle.std.specs.Prelude.{ℕ, List, [], ◌∷◌, Option, Some, None}
use Rattle.dx_base.specs.Array.{items}
use Rattle.dx_base.specs.Object.{Tree, array, text, field, group, composite, series}
use Rattle.dx_base.specs.ObjectNames.{component}
use Rattle.dx_objects.specs.Kinds.{text_of}

-- "dep"
abbrev pub dep_name : List ℕ
dep_name = 100 ∷ 101 ∷ 112 ∷ []

-- "ref"
abbrev pub ref_name : List ℕ
ref_name = 114 ∷ 101 ∷ 102 ∷ []

-- the component of a field that has this name, if it is a name
abbrev pub named : Option (List ℕ) → Tree → Option Tree
named None whole = None
named (Some n) whole = component n whole

-- what an attribute refers to: nothing where it isn't there, and else the component that it names, if it is a text that names one
abbrev pub target : Option Tree → Tree → Option (Option Tree)
target None whole = None
target (Some value) whole = Some (named (text_of value) whole)

-- how many items a component has, which is an array
abbrev pub item_count : Tree → ℕ
item_count (array a xs) = items a
item_count (text b xs) = 0
item_count (field ps xs) = 0
item_count (group ps xs) = 0
item_count (composite ps xs) = 0
item_count (series ps xs) = 0
