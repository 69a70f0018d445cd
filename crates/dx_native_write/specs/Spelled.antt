-- Words of the canonical text as bytes behind what stands before them.
use Rattle.std.specs.Prelude.{ℕ, ℤ, List, [], ◌∷◌, ◌++◌, map, length, Option, codes}
use Rattle.std.specs.Fmt.{decimal, signed_decimal}
use Rattle.dx_base.specs.Array.{ArrayData, items}
use Rattle.dx_base.specs.Words.{behind, counts_behind, numbers_behind, spaced_numbers, quoted, type_word}
use Rattle.dx_native_text.specs.declared.listing.Listing.{Listing}
use Rattle.dx_native_text.specs.declared.listing.Listing.TheVariants.{Components, Members, PlacedMembers}
use Rattle.dx_native_text.specs.Lines.{Word, written}
use Rattle.dx_native_text.specs.Text.{name_of, member_word}

-- words, each behind a space
abbrev pub words_behind : List Word → List ℕ
words_behind ws = behind (map written ws)

-- the extents, where there are any
abbrev pub shape_behind : List ℕ → List ℕ
shape_behind [] = []
shape_behind (e ∷ es) = codes " shape" ++ counts_behind (e ∷ es)

-- type, rank, shape and number of items
unfoldable pub head_behind : ArrayData → List ℕ
head_behind a =
    codes " type " ++ type_word a.elem ++ codes " rank " ++ decimal (length a.extents) ++ shape_behind a.extents ++ codes " items " ++ decimal (items a)

-- a line of numbers, of an origin and of a delta
abbrev pub item_text : List ℤ → List ℕ
item_text zs = spaced_numbers zs ++ 10 ∷ []

abbrev pub origin_text : List ℤ → List ℕ
origin_text zs = codes "origin" ++ numbers_behind zs ++ 10 ∷ []

abbrev pub delta_text : List ℤ → List ℕ
delta_text zs = codes "delta" ++ numbers_behind zs ++ 10 ∷ []

-- a part, which i parts are before, up to the number of its object
abbrev pub place_text : Listing → ℕ → Option (List ℕ) → ℤ → List ℕ
place_text Components i n p = codes "component " ++ quoted (name_of n)
place_text Members i n p = codes "member " ++ written (member_word i n)
place_text PlacedMembers i n p = codes "member " ++ decimal i ++ codes " position " ++ signed_decimal p
