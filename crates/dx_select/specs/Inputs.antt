-- What inputs need to be: fields and names.
use Rattle.std.specs.Prelude.{ℕ, List, Option, Some, None, codes, if◌then◌else◌}
use Rattle.dx_base.specs.Object.{Tree}
use Rattle.dx_base.specs.ObjectLimits.{is_field}
use Rattle.dx_objects.specs.Kinds.{text_of}

abbrev pub data_name : List ℕ
data_name = codes "data"

-- under which Mark keeps the data that it replaces
abbrev pub saved_name : List ℕ
saved_name = codes "saved data"

-- the name that a text is
abbrev pub text_in : Option Tree → Option (List ℕ)
text_in None = None
text_in (Some t) = text_of t

-- the same, where NULL stands for `data`
abbrev pub name_or_data : Option Tree → Option (List ℕ)
name_or_data None = Some data_name
name_or_data (Some t) = text_of t

-- the field that it is
abbrev pub field_in : Option Tree → Option Tree
field_in None = None
field_in (Some t) = if is_field t then Some t else None
