-- The lines of one object, where the numbers of the objects below it are given as lists.
use Rattle.std.specs.Prelude.{ℕ, suc, ◌+◌, List, [], ◌∷◌, ◌++◌, Option, Some, None, codes}
use Rattle.dx_base.specs.Object.{Tree, PartList, array, text, field, group, composite, series, no_parts, part}
use Rattle.dx_native_text.specs.declared.listing.Listing.{Listing}
use Rattle.dx_native_text.specs.declared.listing.Listing.TheVariants.{Components, Members, PlacedMembers}
use Rattle.dx_native_text.specs.Lines.{Line, bare, in_quotes, spelled}
use Rattle.dx_native_text.specs.Arrays.{class_words, class_lines}
use Rattle.dx_native_text.specs.Inline.{Inline, inline_of}
use Rattle.dx_native_text.specs.Text.{lines_of, many, unless_inline, last_of, entry, value_words, given_words, attribute_line, object_line}

-- the number of each part, the first object of which has the number k
abbrev pub part_numbers : PartList → ℕ → List ℕ
part_numbers no_parts k = []
part_numbers (part n p t ps) k = last_of k (many t) ∷ part_numbers ps (k + many t)

-- the number of each attribute's value, and where the value stands in the attribute's own line that of the object before
abbrev pub value_numbers : PartList → ℕ → List ℕ
value_numbers no_parts k = []
value_numbers (part n p t xs) k = last_of k (unless_inline (inline_of t) (many t)) ∷ value_numbers xs (k + unless_inline (inline_of t) (many t))

-- parts with these numbers, which i parts are before
abbrev pub numbered_entries : Listing → ℕ → PartList → List ℕ → List Line
numbered_entries l i no_parts ks = []
numbered_entries l i (part n p t ps) [] = []
numbered_entries l i (part n p t ps) (k ∷ ks) = entry l i n p (value_words k) ∷ numbered_entries l (suc i) ps ks

-- attributes with these numbers
abbrev pub numbered_attributes : PartList → List ℕ → List Line
numbered_attributes no_parts ks = []
numbered_attributes (part n p t xs) [] = []
numbered_attributes (part n p t xs) (k ∷ ks) = attribute_line n (given_words (inline_of t) k) ∷ numbered_attributes xs ks

-- the lines of an object of number k alone, its attributes aside
unfoldable pub body_lines : Tree → ℕ → List ℕ → List Line
body_lines (array a xs) k ks = object_line k (class_words a a.class) ∷ class_lines a a.class
body_lines (text b xs) k ks = object_line k (bare (codes "string") ∷ in_quotes b ∷ []) ∷ []
body_lines (field ps xs) k ks = object_line k (bare (codes "field") ∷ []) ∷ numbered_entries Components 0 ps ks
body_lines (group ps xs) k ks = object_line k (bare (codes "group") ∷ []) ∷ numbered_entries Members 0 ps ks
body_lines (composite ps xs) k ks = object_line k (bare (codes "compositefield") ∷ []) ∷ numbered_entries Members 0 ps ks
body_lines (series ps xs) k ks = object_line k (bare (codes "series") ∷ []) ∷ numbered_entries PlacedMembers 0 ps ks

-- the text of all objects of parts, and of the values that don't stand in the attribute's own line
abbrev pub parts_text : PartList → ℕ → List ℕ
parts_text no_parts k = []
parts_text (part n p t ps) k = spelled (lines_of t k) ++ parts_text ps (k + many t)

abbrev pub unless_inline_text : Option Inline → List ℕ → List ℕ
unless_inline_text None bytes = bytes
unless_inline_text (Some v) bytes = []

abbrev pub values_text : PartList → ℕ → List ℕ
values_text no_parts k = []
values_text (part n p t xs) k =
    unless_inline_text (inline_of t) (spelled (lines_of t k)) ++ values_text xs (k + unless_inline (inline_of t) (many t))
