-- The canonical text of an object: every occurrence of an object written once, numbered from 1 on, its parts and the
-- values of its attributes before itself.
use Rattle.std.specs.Prelude.{ℕ, suc, ◌+◌, ◌-◌, ℤ, List, [], ◌∷◌, ◌++◌, Option, Some, None, codes}
use Rattle.dx_base.specs.Object.{Tree, PartList, array, text, field, group, composite, series, no_parts, part}
use Rattle.dx_native_text.specs.declared.listing.Listing.{Listing}
use Rattle.dx_native_text.specs.declared.listing.Listing.TheVariants.{Components, Members, PlacedMembers}
use Rattle.dx_native_text.specs.Lines.{Word, Line, bare, in_quotes, count_word, number_word, spelled}
use Rattle.dx_native_text.specs.Arrays.{class_words, class_lines}
use Rattle.dx_native_text.specs.Inline.{Inline, as_text, as_number, inline_of}

-- ---- how many objects are written

abbrev pub unless_inline : Option Inline → ℕ → ℕ
unless_inline None n = n
unless_inline (Some v) n = 0

abbrev mutual
  pub many : Tree → ℕ
  many (array a xs) = suc (values_many xs)
  many (text b xs) = suc (values_many xs)
  many (field ps xs) = suc (parts_many ps + values_many xs)
  many (group ps xs) = suc (parts_many ps + values_many xs)
  many (composite ps xs) = suc (parts_many ps + values_many xs)
  many (series ps xs) = suc (parts_many ps + values_many xs)

  pub parts_many : PartList → ℕ
  parts_many no_parts = 0
  parts_many (part n p t ps) = many t + parts_many ps

  pub values_many : PartList → ℕ
  values_many no_parts = 0
  values_many (part n p t xs) = unless_inline (inline_of t) (many t) + values_many xs

-- ---- the lines of parts and attributes, whose objects have the numbers from k on

abbrev pub value_words : ℕ → List Word
value_words k = bare (codes "value") ∷ count_word k ∷ []

-- the number of an object that is the last of so many, the first of which has the number k
abbrev pub last_of : ℕ → ℕ → ℕ
last_of k n = k + n - 1

abbrev pub name_of : Option (List ℕ) → List ℕ
name_of None = []
name_of (Some n) = n

-- a name, or where there is none the number of members before
abbrev pub member_word : ℕ → Option (List ℕ) → Word
member_word i None = count_word i
member_word i (Some n) = in_quotes n

-- a part, which i parts are before, in front of other words
abbrev pub entry : Listing → ℕ → Option (List ℕ) → ℤ → List Word → Line
entry Components i n p rest = bare (codes "component") ∷ in_quotes (name_of n) ∷ rest
entry Members i n p rest = bare (codes "member") ∷ member_word i n ∷ rest
entry PlacedMembers i n p rest = bare (codes "member") ∷ count_word i ∷ bare (codes "position") ∷ number_word p ∷ rest

abbrev pub entries : Listing → ℕ → PartList → ℕ → List Line
entries l i no_parts k = []
entries l i (part n p t ps) k = entry l i n p (value_words (last_of k (many t))) ∷ entries l (suc i) ps (k + many t)

abbrev pub given_words : Option Inline → ℕ → List Word
given_words None k = value_words k
given_words (Some (as_text b)) k = bare (codes "string") ∷ in_quotes b ∷ []
given_words (Some (as_number z)) k = bare (codes "number") ∷ number_word z ∷ []

abbrev pub attribute_line : Option (List ℕ) → List Word → Line
attribute_line n words = bare (codes "attribute") ∷ in_quotes (name_of n) ∷ words

abbrev pub attribute_lines : PartList → ℕ → List Line
attribute_lines no_parts k = []
attribute_lines (part n p t xs) k =
    attribute_line n (given_words (inline_of t) (last_of k (many t))) ∷ attribute_lines xs (k + unless_inline (inline_of t) (many t))

-- ---- objects

abbrev pub object_line : ℕ → List Word → Line
object_line k words = bare (codes "object") ∷ count_word k ∷ bare (codes "class") ∷ words

abbrev pub unless_inline_lines : Option Inline → List Line → List Line
unless_inline_lines None ls = ls
unless_inline_lines (Some v) ls = []

abbrev mutual
  -- the lines of an object and of all that it has, numbered from k on
  pub lines_of : Tree → ℕ → List Line
  lines_of (array a xs) k =
      value_lines xs k ++ object_line (k + values_many xs) (class_words a a.class) ∷ (class_lines a a.class ++ attribute_lines xs k)
  lines_of (text b xs) k =
      value_lines xs k ++ object_line (k + values_many xs) (bare (codes "string") ∷ in_quotes b ∷ []) ∷ attribute_lines xs k
  lines_of (field ps xs) k =
      part_lines ps k ++ (value_lines xs (k + parts_many ps)
      ++ object_line (k + (parts_many ps + values_many xs)) (bare (codes "field") ∷ []) ∷ (entries Components 0 ps k ++ attribute_lines xs (k + parts_many ps)))
  lines_of (group ps xs) k =
      part_lines ps k ++ (value_lines xs (k + parts_many ps)
      ++ object_line (k + (parts_many ps + values_many xs)) (bare (codes "group") ∷ []) ∷ (entries Members 0 ps k ++ attribute_lines xs (k + parts_many ps)))
  lines_of (composite ps xs) k =
      part_lines ps k ++ (value_lines xs (k + parts_many ps)
      ++ object_line (k + (parts_many ps + values_many xs)) (bare (codes "compositefield") ∷ []) ∷ (entries Members 0 ps k ++ attribute_lines xs (k + parts_many ps)))
  lines_of (series ps xs) k =
      part_lines ps k ++ (value_lines xs (k + parts_many ps)
      ++ object_line (k + (parts_many ps + values_many xs)) (bare (codes "series") ∷ []) ∷ (entries PlacedMembers 0 ps k ++ attribute_lines xs (k + parts_many ps)))

  pub part_lines : PartList → ℕ → List Line
  part_lines no_parts k = []
  part_lines (part n p t ps) k = lines_of t k ++ part_lines ps (k + many t)

  -- those of the values that don't stand in the attribute's own line
  pub value_lines : PartList → ℕ → List Line
  value_lines no_parts k = []
  value_lines (part n p t xs) k =
      unless_inline_lines (inline_of t) (lines_of t k) ++ value_lines xs (k + unless_inline (inline_of t) (many t))

abbrev pub end_line : Line
end_line = bare (codes "end") ∷ []

-- the text of an object
unfoldable pub text_of : Tree → List ℕ
text_of t = spelled (lines_of t 1 ++ end_line ∷ [])
