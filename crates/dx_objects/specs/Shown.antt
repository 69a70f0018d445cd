-- What contracts see of parts: a list of the tree's parts.
use Rattle.std.specs.Prelude.{List, [], ◌∷◌}
use Rattle.dx_base.specs.Object.{PartList, no_parts, part}
use Rattle.dx_objects.specs.declared.object.Part.{Part}

abbrev pub parts_of : List Part → PartList
parts_of [] = no_parts
parts_of (p ∷ ps) = part p.name p.position p.object.value (parts_of ps)
