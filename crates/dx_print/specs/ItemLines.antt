-- The items of an array, one on a line at an indent, which is a number of spaces.
use Rattle.std.specs.Prelude.{ℕ, zero, suc, ◌+◌, ◌-◌, List, [], ◌∷◌, ◌++◌, map, replicate, nat_le, codes, if◌then◌else◌}
use Rattle.std.specs.Fmt.{signed_decimal}
use Rattle.dx_base.specs.Tokens.Ascii as ascii
use Rattle.dx_base.specs.Array.{ArrayData, items, item}
use Rattle.dx_base.specs.Words.{spaced}

abbrev pub at_indent : ℕ → List ℕ → List ℕ
at_indent indent line = replicate indent ascii.space ++ line ++ ascii.newline ∷ []

abbrev pub item_text : ArrayData → ℕ → List ℕ
item_text a i = spaced (map signed_decimal (item a i))

abbrev pub item_line : ℕ → ArrayData → ℕ → List ℕ
item_line indent a i = at_indent indent (item_text a i)

-- the lines of so many items, from one on
unfoldable pub lines_of : ℕ → ArrayData → ℕ → ℕ → List ℕ
lines_of indent a first zero = []
lines_of indent a first (suc n) = item_line indent a first ++ lines_of indent a (first + 1) n

abbrev pub all_items : ℕ → ArrayData → List ℕ
all_items indent a = lines_of indent a 0 (items a)

-- how many items are shown in full, and of more than these how many at each end
abbrev pub most_items : ℕ
most_items = 50

abbrev pub end_items : ℕ
end_items = 25

-- the first and the last items, with a line between them for the others
unfoldable pub items_at_ends : ℕ → ArrayData → List ℕ
items_at_ends indent a =
    lines_of indent a 0 end_items
    ++ at_indent indent (codes "...")
    ++ lines_of indent a (items a - end_items) end_items

-- all items where they are few, and else those at the ends
unfoldable pub few_items : ℕ → ArrayData → List ℕ
few_items indent a = if nat_le (items a) most_items then all_items indent a else items_at_ends indent a
