-- Words that are written are words: key words, numbers, and the words of arrays.
use Rattle.std.proofs.Common.{◌≡◌, ◌==◌, ℕ, zero, suc, ◌+◌, ◌*◌, ◌-◌, ◌<◌, ◌≤◌, ◌^◌, Bool, true, false, List, [], ◌∷◌, ◌++◌, length, length-take, length-drop, map, take, drop, ℤ, pos, refl, sym, ap, ◌∙◌, arith}
use Rattle.std.specs.Prelude.{codes, not, ◌||◌, ◌&&◌}
use Rattle.std.specs.List.{list_all}
use Rattle.std.proofs.lemmas.Bool.{and_parts}
use Rattle.dx_base.specs.declared.elem.ElemType.{ElemType}
use Rattle.dx_base.specs.declared.elem.ElemType.TheVariants.{Byte, UByte, Short, UShort, Int, UInt}
use Rattle.dx_native_lex.specs.Scan.{is_white, is_word_byte}
use Rattle.dx_native_grammar.specs.Words.{int_low, int_high}
use Rattle.dx_native_text.specs.Lines.{Word, bare, in_quotes}
use Rattle.dx_native_text.specs.Arrays.{type_words, shape_words, head_words, data_words, rows, item_line, origin_line, delta_line}
use Rattle.dx_native_law.proofs.LaidLines.{key, natural, number}
use Rattle.dx_native_law.proofs.Tokens.{IsWordByte, AreWordBytes, IsBare, IsGood, AreGood, IsLine, AreLines}
use Rattle.dx_native_law.proofs.Numbers.{decimal_bare, signed_bare}
use Rattle.dx_native_law.proofs.Stands.{IsIn, IsNatural, AreIn, AreNatural}
use Rattle.dx_native_law.proofs.Arrays.{IsShape, IsHead}
use Rattle.dx_native_law.proofs.Grids.{AreRows}

three : (x y z : Bool) → not (x || y || z) ≡ true → (x ≡ false) × (y ≡ false) × (z ≡ false)
three true true true h = absurd cc
three true true false h = absurd cc
three true false true h = absurd cc
three true false false h = absurd cc
three false true true h = absurd cc
three false true false h = absurd cc
three false false true h = absurd cc
three false false false h = (refl, refl, refl)

byte_of : (b : ℕ) → is_word_byte b ≡ true → IsWordByte b
byte_of b h = let p = three (is_white b) (b == 34) (b == 35) h in record { white = p.0; quote = p.1; hash = p.2 }

bytes_of : (bs : List ℕ) → list_all is_word_byte bs ≡ true → AreWordBytes bs
bytes_of [] h = tt
bytes_of (b ∷ bs) h = let p = and_parts (is_word_byte b) (list_all is_word_byte bs) h in (byte_of b p.0, bytes_of bs p.1)

-- a key word: the test computes
abbrev pub is_key_word : List ℕ → Bool
is_key_word [] = false
is_key_word (b ∷ bs) = list_all is_word_byte (b ∷ bs)

pub key_good : (w : List ℕ) → is_key_word w ≡ true → IsGood (key w)
key_good [] h = absurd cc
key_good (b ∷ bs) h = bytes_of (b ∷ bs) h

pub good_append : (xs ys : List Word) → AreGood xs → AreGood ys → AreGood (xs ++ ys)
good_append [] ys h g = g
good_append (x ∷ xs) ys h g = (h.0, good_append xs ys h.1 g)

pub lines_append : (xs ys : List (List Word)) → AreLines xs → AreLines ys → AreLines (xs ++ ys)
lines_append [] ys h g = g
lines_append (x ∷ xs) ys h g = (h.0, lines_append xs ys h.1 g)

pub numbers_good : (low high : ℤ) (zs : List ℤ) → AreIn low high zs → AreGood (map number zs)
numbers_good low high [] h = tt
numbers_good low high (z ∷ zs) h = (signed_bare z h.0.small, numbers_good low high zs h.1)

natural_good : (n : ℕ) → n < 10000000000 → IsGood (natural n)
natural_good n h = decimal_bare n (omega arith)

pub naturals_good : (low high : ℕ) (ns : List ℕ) → AreNatural low high ns → AreGood (map natural ns)
naturals_good low high [] h = tt
naturals_good low high (n ∷ ns) h = (natural_good n h.0.small, naturals_good low high ns h.1)

type_good : (t : ElemType) → AreGood (type_words t)
type_good Byte = (key_good (codes "signed") refl, (key_good (codes "byte") refl, tt))
type_good UByte = (key_good (codes "unsigned") refl, (key_good (codes "byte") refl, tt))
type_good Short = (key_good (codes "short") refl, tt)
type_good UShort = (key_good (codes "unsigned") refl, (key_good (codes "short") refl, tt))
type_good Int = (key_good (codes "int") refl, tt)
type_good UInt = (key_good (codes "unsigned") refl, (key_good (codes "int") refl, tt))

shape_good : (es : List ℕ) → AreNatural 1 256 es → AreGood (shape_words es)
shape_good [] h = tt
shape_good (e ∷ es) h = (key_good (codes "shape") refl, naturals_good 1 256 (e ∷ es) h)

pub head_good : (t : ElemType) (es : List ℕ) (n : ℕ) (rest : List Word) → IsHead es n → AreGood rest → AreGood (head_words t es n rest)
head_good t es n rest h g =
    let end : AreGood (key (codes "items") ∷ natural n ∷ rest) = (key_good (codes "items") refl, (natural_good n h.small, g)) in
    let mid : AreGood (shape_words es ++ key (codes "items") ∷ natural n ∷ rest) = good_append (shape_words es) (key (codes "items") ∷ natural n ∷ rest) (shape_good es h.shape.extents) end in
    let rank : AreGood (key (codes "rank") ∷ natural (length es) ∷ (shape_words es ++ key (codes "items") ∷ natural n ∷ rest)) = (key_good (codes "rank") refl, (natural_good (length es) h.shape.rank.small, mid)) in
    (key_good (codes "type") refl, good_append (type_words t) (key (codes "rank") ∷ natural (length es) ∷ (shape_words es ++ key (codes "items") ∷ natural n ∷ rest)) (type_good t) rank)

pub data_good : AreGood data_words
data_good = (key_good (codes "data") refl, (key_good (codes "follows") refl, tt))

are_take : (low high : ℤ) (n : ℕ) (zs : List ℤ) → AreIn low high zs → AreIn low high (take n zs)
are_take low high zero zs h = tt
are_take low high (suc n) [] h = tt
are_take low high (suc n) (z ∷ zs) h = (h.0, are_take low high n zs h.1)

are_drop : (low high : ℤ) (n : ℕ) (zs : List ℤ) → AreIn low high zs → AreIn low high (drop n zs)
are_drop low high zero zs h = h
are_drop low high (suc n) [] h = tt
are_drop low high (suc n) (z ∷ zs) h = are_drop low high n zs h.1

pub item_good : (low high : ℤ) (zs : List ℤ) → 0 < length zs → AreIn low high zs → IsLine (item_line zs)
item_good low high [] h g = absurd (omega arith)
item_good low high (z ∷ zs) h g = (signed_bare z g.0.small, numbers_good low high zs g.1)

pub rows_good : (low high : ℤ) (w n : ℕ) (zs : List ℤ) → 0 < w → length zs ≡ n * w → AreIn low high zs → AreLines (map item_line (rows w n zs))
rows_good low high w zero zs some h g = tt
rows_good low high w (suc n) zs some h g =
    let m : suc n * w ≡ w + n * w = grind arith in
    (item_good low high (take w zs) (omega (arith, h, m, length-take w zs)) (are_take low high w zs g), rows_good low high w n (drop w zs) some (omega (arith, h, m, length-drop w zs)) (are_drop low high w zs g))

pub origin_good : (zs : List ℤ) → AreIn int_low int_high zs → IsLine (origin_line zs)
origin_good zs h = (key_good (codes "origin") refl, numbers_good int_low int_high zs h)

pub delta_good : (zs : List ℤ) → AreIn int_low int_high zs → IsLine (delta_line zs)
delta_good zs h = (key_good (codes "delta") refl, numbers_good int_low int_high zs h)

pub deltas_good : (n : ℕ) (ds : List (List ℤ)) → AreRows n ds → AreLines (map delta_line ds)
deltas_good n [] h = tt
deltas_good n (d ∷ ds) h = (delta_good d h.1, deltas_good n ds h.2)
