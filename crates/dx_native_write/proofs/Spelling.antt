-- How words and lines are spelled one behind the other.
use Rattle.std.proofs.Common.{◌≡◌, ◌++◌, ◌∷◌, [], ℕ, ℤ, List, map, refl, sym, ap, append_assoc, ◌∙◌}
use Rattle.std.specs.Fmt.{decimal, signed_decimal}
use Rattle.dx_base.specs.declared.elem.ElemType.{ElemType}
use Rattle.dx_base.specs.declared.elem.ElemType.TheVariants.{Byte, UByte, Short, UShort, Int, UInt}
use Rattle.dx_base.specs.Words.{counts_behind, numbers_behind, type_word}
use Rattle.dx_native_text.specs.Lines.{Word, Line, written, line_text, spelled, count_word, number_word}
use Rattle.dx_native_text.specs.Arrays.{type_words, shape_words, item_line, origin_line, delta_line}
use Rattle.dx_native_write.specs.Spelled.{words_behind, shape_behind, item_text, origin_text, delta_text}

pub spelled_append : (ls ms : List Line) → spelled (ls ++ ms) ≡ spelled ls ++ spelled ms
spelled_append [] ms = refl
spelled_append (l ∷ ls) ms = ap (λ (text : List ℕ). line_text l ++ text) (spelled_append ls ms) ∙ sym (append_assoc (line_text l) (spelled ls) (spelled ms))

pub words_append : (ws vs : List Word) → words_behind (ws ++ vs) ≡ words_behind ws ++ words_behind vs
words_append [] vs = refl
words_append (w ∷ ws) vs =
    ap (λ (text : List ℕ). 32 ∷ (written w ++ text)) (words_append ws vs)
    ∙ ap (λ (text : List ℕ). 32 ∷ text) (sym (append_assoc (written w) (words_behind ws) (words_behind vs)))

pub counts_are : (ns : List ℕ) → words_behind (map count_word ns) ≡ counts_behind ns
counts_are [] = refl
counts_are (n ∷ ns) = ap (λ (text : List ℕ). 32 ∷ (decimal n ++ text)) (counts_are ns)

pub numbers_are : (zs : List ℤ) → words_behind (map number_word zs) ≡ numbers_behind zs
numbers_are [] = refl
numbers_are (z ∷ zs) = ap (λ (text : List ℕ). 32 ∷ (signed_decimal z ++ text)) (numbers_are zs)

pub type_is : (t : ElemType) → words_behind (type_words t) ≡ 32 ∷ type_word t
type_is Byte = refl
type_is UByte = refl
type_is Short = refl
type_is UShort = refl
type_is Int = refl
type_is UInt = refl

pub shape_is : (es : List ℕ) → words_behind (shape_words es) ≡ shape_behind es
shape_is [] = refl
shape_is (e ∷ es) = ap (λ (text : List ℕ). 32 ∷ 115 ∷ 104 ∷ 97 ∷ 112 ∷ 101 ∷ text) (counts_are (e ∷ es))

pub item_is : (zs : List ℤ) → line_text (item_line zs) ≡ item_text zs
item_is [] = refl
item_is (z ∷ zs) = ap (λ (text : List ℕ). (signed_decimal z ++ text) ++ 10 ∷ []) (numbers_are zs)

pub origin_is : (zs : List ℤ) → line_text (origin_line zs) ≡ origin_text zs
origin_is zs = ap (λ (text : List ℕ). 111 ∷ 114 ∷ 105 ∷ 103 ∷ 105 ∷ 110 ∷ (text ++ 10 ∷ [])) (numbers_are zs)

pub delta_is : (zs : List ℤ) → line_text (delta_line zs) ≡ delta_text zs
delta_is zs = ap (λ (text : List ℕ). 100 ∷ 101 ∷ 108 ∷ 116 ∷ 97 ∷ (text ++ 10 ∷ [])) (numbers_are zs)
