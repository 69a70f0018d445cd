-- What stands behind the word `class` of each object, up to its parts.
use Rattle.std.specs.Prelude.{ℕ, Bool, true, false, List, [], ◌∷◌, ◌++◌, codes}
use Rattle.dx_base.specs.Array.{ArrayData}
use Rattle.dx_base.specs.Object.{Tree, array, text, field, group, composite, series}
use Rattle.dx_base.specs.Words.{quoted}
use Rattle.dx_native_text.specs.declared.listing.Listing.{Listing}
use Rattle.dx_native_text.specs.declared.listing.Listing.TheVariants.{Components, Members, PlacedMembers}
use Rattle.dx_native_text.specs.Lines.{spelled}
use Rattle.dx_native_text.specs.Arrays.{class_words, class_lines}
use Rattle.dx_native_write.specs.Spelled.{words_behind}

abbrev pub array_behind : ArrayData → List ℕ
array_behind a = words_behind (class_words a a.class) ++ 10 ∷ spelled (class_lines a a.class)

abbrev pub text_behind : List ℕ → List ℕ
text_behind b = codes " string " ++ quoted b ++ 10 ∷ []

abbrev pub has_parts : Tree → Bool
has_parts (array a xs) = false
has_parts (text b xs) = false
has_parts (field ps xs) = true
has_parts (group ps xs) = true
has_parts (composite ps xs) = true
has_parts (series ps xs) = true

abbrev pub class_behind : Tree → List ℕ
class_behind (array a xs) = []
class_behind (text b xs) = []
class_behind (field ps xs) = codes " field" ++ 10 ∷ []
class_behind (group ps xs) = codes " group" ++ 10 ∷ []
class_behind (composite ps xs) = codes " compositefield" ++ 10 ∷ []
class_behind (series ps xs) = codes " series" ++ 10 ∷ []

abbrev pub listing_of : Tree → Listing
listing_of (array a xs) = Members
listing_of (text b xs) = Members
listing_of (field ps xs) = Components
listing_of (group ps xs) = Members
listing_of (composite ps xs) = Members
listing_of (series ps xs) = PlacedMembers
