-- What is wrong with a field: its components in order, and of each `dep` before `ref`.
use Rattle.std.specs.Prelude.{ℕ, ◌==◌, if◌then◌else◌, Option, Some, None}
use Rattle.dx_base.specs.Array.{ArrayData, items}
use Rattle.dx_base.specs.Object.{Tree, PartList, array, text, field, group, composite, series, no_parts, part}
use Rattle.dx_base.specs.ObjectNames.{find}
use Rattle.dx_fields.specs.References.{dep_name, ref_name, target, item_count}
use Rattle.dx_fields.specs.Stray.{first_stray}
use Rattle.dx_fields.specs.declared.check.FieldFault.{FieldFault}
use Rattle.dx_fields.specs.declared.check.FieldFault.TheVariants.{DepMissing, CountMismatch, RefOutOfRange}

-- the items of what a component depends on are as many as its own
abbrev pub dep_fault : ArrayData → Option (Option Tree) → Option FieldFault
dep_fault a None = None
dep_fault a (Some None) = Some DepMissing
dep_fault a (Some (Some t)) = if items a == item_count t then None else Some (CountMismatch (items a) (item_count t))

abbrev pub stray_fault : Option ℕ → Option FieldFault
stray_fault None = None
stray_fault (Some i) = Some (RefOutOfRange i)

-- each value of a component that refers to another names an item of it
abbrev pub ref_fault : ArrayData → Option (Option Tree) → Option FieldFault
ref_fault a None = None
ref_fault a (Some None) = Some DepMissing
ref_fault a (Some (Some t)) = stray_fault (first_stray a (item_count t))

-- the first of two faults
abbrev pub earlier : Option FieldFault → Option FieldFault → Option FieldFault
earlier None later = later
earlier (Some fault) later = Some fault

-- the fault of an array with these attributes, which is a component of a field
abbrev pub array_fault : ArrayData → PartList → Tree → Option FieldFault
array_fault a xs whole = earlier (dep_fault a (target (find dep_name xs) whole)) (ref_fault a (target (find ref_name xs) whole))

-- the fault of a component of a field
abbrev pub component_fault : Tree → Tree → Option FieldFault
component_fault (array a xs) whole = array_fault a xs whole
component_fault (text b xs) whole = None
component_fault (field ps xs) whole = None
component_fault (group ps xs) whole = None
component_fault (composite ps xs) whole = None
component_fault (series ps xs) whole = None

-- the first fault of some components of a field
abbrev pub first_fault : PartList → Tree → Option FieldFault
first_fault no_parts whole = None
first_fault (part n p t rest) whole = earlier (component_fault t whole) (first_fault rest whole)

-- the first fault of a field; an object that is none has no components
abbrev pub field_fault : Tree → Option FieldFault
field_fault (array a xs) = None
field_fault (text b xs) = None
field_fault (field ps xs) = first_fault ps (field ps xs)
field_fault (group ps xs) = None
field_fault (composite ps xs) = None
field_fault (series ps xs) = None
