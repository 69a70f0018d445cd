-- The words and lines of the canonical text, as the law goes over them.
use Rattle.std.proofs.Common.{◌≡◌, ℕ, ℤ, suc, List, [], ◌∷◌, ◌++◌, map, Option, Some, None, refl, sym, ap, ◌∙◌, append_assoc, append-nil}
use Rattle.dx_base.specs.declared.elem.ElemType.TheVariants.{Int}
use Rattle.dx_base.specs.Array.{ArrayData, plain}
use Rattle.dx_base.specs.Object.{PartList}
use Rattle.dx_base.specs.Tokens.Ascii as ascii
use Rattle.dx_base.specs.Words as base_words
use Rattle.dx_base.specs.Words.{behind, spaced}
use Rattle.dx_native_text.specs.declared.listing.Listing.TheVariants.{Components, Members, PlacedMembers}
use Rattle.dx_native_text.specs.Lines as lines
use Rattle.dx_native_text.specs.Lines.{Word, Line, bare, in_quotes, written, line_text, spelled, count_word, number_word}
use Rattle.dx_native_text.specs.Text as text_spec

abbrev pub key : List ℕ → Word
key w = bare w

abbrev pub natural : ℕ → Word
natural n = count_word n

abbrev pub number : ℤ → Word
number z = number_word z

abbrev pub component_word : Option (List ℕ) → Word
component_word n = in_quotes (text_spec.name_of n)

abbrev pub component_lines : ℕ → PartList → ℕ → List Line
component_lines i ps k = text_spec.entries Components i ps k

abbrev pub member_lines : ℕ → PartList → ℕ → List Line
member_lines i ps k = text_spec.entries Members i ps k

abbrev pub placed_lines : ℕ → PartList → ℕ → List Line
placed_lines i ps k = text_spec.entries PlacedMembers i ps k

abbrev pub number_data : ℤ → ArrayData
number_data z = record { elem = Int; extents = []; class = plain (z ∷ []) }

-- a line in front of a text
abbrev pub line : List Word → List ℕ → List ℕ
line [] rest = ascii.newline ∷ rest
line (w ∷ []) rest = written w ++ ascii.newline ∷ rest
line (w ∷ v ∷ ws) rest = written w ++ ascii.space ∷ line (v ∷ ws) rest

abbrev pub laid : List (List Word) → List ℕ
laid [] = []
laid (l ∷ ls) = line l (laid ls)

line_is : (w : Word) (ws : List Word) (rest : List ℕ) → line (w ∷ ws) rest ≡ (written w ++ behind (map written ws)) ++ ascii.newline ∷ rest
line_is w [] rest = ap (λ l. l ++ ascii.newline ∷ rest) (sym (append-nil (written w)))
line_is w (v ∷ ws) rest =
    ap (λ l. written w ++ ascii.space ∷ l) (line_is v ws rest)
    ∙ sym (append_assoc (written w) (ascii.space ∷ (written v ++ behind (map written ws))) (ascii.newline ∷ rest))

-- the text of lines is the one that stands line before line
pub laid_is : (ls : List (List Word)) → laid ls ≡ spelled ls
laid_is [] = refl
laid_is ([] ∷ ls) = ap (λ l. ascii.newline ∷ l) (laid_is ls)
laid_is ((w ∷ ws) ∷ ls) =
    line_is w ws (laid ls) ∙ ap (λ l. (written w ++ behind (map written ws)) ++ ascii.newline ∷ l) (laid_is ls)
    ∙ sym (append_assoc (written w ++ behind (map written ws)) (ascii.newline ∷ []) (spelled ls))
