-- The word that Echo prints of an object.
use Rattle.std.proofs.Common.{◌≡◌, ℤ, Bool, true, false, Some, None, cond, refl, ap}
use Rattle.std.specs.Fmt.{signed_decimal}
use Rattle.dx_base.specs.Array.{ArrayData, value}
use Rattle.dx_base.specs.Object.{Tree, array, text, field, group, series, composite}
use Rattle.dx_base.specs.ObjectNumbers.{as_number, is_number}
use Rattle.dx_objects.specs.Kinds.{text_of}
use Rattle.dx_print.specs.Header.{array_header, object_header}
use Rattle.dx_print.specs.Echoed.{object_word}

number_by : (b : Bool) (a : ArrayData) (n : ℤ) → cond b (Some (value a 0 0)) None ≡ Some n → cond b (signed_decimal (value a 0 0)) (array_header a) ≡ signed_decimal n
number_by true a n e = let same : value a 0 0 ≡ n = cc e in ap signed_decimal same
number_by false a n e = absurd (cc e)

header_by : (b : Bool) (a : ArrayData) → cond b (Some (value a 0 0)) None ≡ None → cond b (signed_decimal (value a 0 0)) (array_header a) ≡ array_header a
header_by true a e = absurd (cc e)
header_by false a e = refl

-- a number in decimal
pub number_word : (t : Tree) (n : ℤ) → as_number t ≡ Some n → object_word t ≡ signed_decimal n
number_word (array a xs) n e = number_by (is_number a) a n e
number_word (text b xs) n e = absurd (cc e)
number_word (field ps xs) n e = absurd (cc e)
number_word (group ps xs) n e = absurd (cc e)
number_word (composite ps xs) n e = absurd (cc e)
number_word (series ps xs) n e = absurd (cc e)

-- what is no number and no text as its header
pub other_word : (t : Tree) → text_of t ≡ None → as_number t ≡ None → object_word t ≡ object_header t
other_word (array a xs) h e = header_by (is_number a) a e
other_word (text b xs) h e = absurd (cc h)
other_word (field ps xs) h e = refl
other_word (group ps xs) h e = refl
other_word (composite ps xs) h e = refl
other_word (series ps xs) h e = refl
