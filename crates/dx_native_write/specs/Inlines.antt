-- The text or the number that stands in an attribute's own line.
use Rattle.std.specs.Prelude.{ℕ, ℤ, List, Option, Some, None}
use Rattle.dx_base.specs.Array.{ArrayData}
use Rattle.dx_native_text.specs.Inline.{Inline, as_text, as_number, int_of}

abbrev pub text_in : Option Inline → Option (List ℕ)
text_in None = None
text_in (Some (as_text b)) = Some b
text_in (Some (as_number z)) = None

abbrev pub number_in : Option Inline → Option ℤ
number_in None = None
number_in (Some (as_text b)) = None
number_in (Some (as_number z)) = Some z

-- the one value of a plain array of type int and rank 0
abbrev pub int_in : Option ArrayData → Option ℤ
int_in None = None
int_in (Some a) = int_of a.elem a.extents a.class
