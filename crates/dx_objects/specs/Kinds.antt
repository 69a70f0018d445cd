-- What an object is, its array and its text.
use Rattle.std.specs.Prelude.{ℕ, List, Option, Some, None, Bool, true, false}
use Rattle.dx_base.specs.Array.{ArrayData}
use Rattle.dx_base.specs.Object.{Tree, array, text, field, group, composite, series}
use Rattle.dx_objects.specs.declared.kinds.Kind.{Kind}
use Rattle.dx_objects.specs.declared.kinds.Kind.TheVariants.{Array, Text, Field, Group, Series}

abbrev pub kind_of : Tree → Kind
kind_of (array a xs) = Array
kind_of (text b xs) = Text
kind_of (field ps xs) = Field
kind_of (group ps xs) = Group
kind_of (composite ps xs) = Group
kind_of (series ps xs) = Series

abbrev pub is_composite : Tree → Bool
is_composite (array a xs) = false
is_composite (text b xs) = false
is_composite (field ps xs) = false
is_composite (group ps xs) = false
is_composite (composite ps xs) = true
is_composite (series ps xs) = false

abbrev pub array_of : Tree → Option ArrayData
array_of (array a xs) = Some a
array_of (text b xs) = None
array_of (field ps xs) = None
array_of (group ps xs) = None
array_of (composite ps xs) = None
array_of (series ps xs) = None

abbrev pub text_of : Tree → Option (List ℕ)
text_of (array a xs) = None
text_of (text b xs) = Some b
text_of (field ps xs) = None
text_of (group ps xs) = None
text_of (composite ps xs) = None
text_of (series ps xs) = None
