-- The lines of an object and of all that it has.
use Rattle.std.proofs.Common.{◌≡◌, ◌≤◌, ◌+◌, ◌++◌, ◌∷◌, [], ℕ, suc, List, length, codes, refl, sym, ap, append_assoc, ◌∙◌, arith}
use Rattle.std.specs.Prelude.{Option, Some, None}
use Rattle.dx_base.specs.Object.{Tree, PartList, array, text, field, group, composite, series, no_parts, part, count, total_count, parts, attributes, part_count}
use Rattle.dx_objects.specs.declared.object.Part.{Part}
use Rattle.dx_objects.specs.Shown.{parts_of}
use Rattle.dx_objects.proofs.PartsLaws.{part_count_is}
use Rattle.dx_native_text.specs.declared.listing.Listing.{Listing}
use Rattle.dx_native_text.specs.declared.listing.Listing.TheVariants.{Components, Members, PlacedMembers}
use Rattle.dx_native_text.specs.Lines.{Word, Line, bare, in_quotes, spelled}
use Rattle.dx_native_text.specs.Arrays.{class_words, class_lines}
use Rattle.dx_native_text.specs.Inline.{Inline, as_text, as_number, inline_of}
use Rattle.dx_native_text.specs.Text.{text_of, lines_of, part_lines, value_lines, end_line, many, parts_many, values_many, unless_inline, unless_inline_lines, last_of, entry, entries, value_words, given_words, attribute_line, attribute_lines, object_line}
use Rattle.dx_native_write.specs.Numbered.{part_numbers, value_numbers, numbered_entries, numbered_attributes, body_lines, parts_text, values_text, unless_inline_text}
use Rattle.dx_native_write.proofs.Spelling.{spelled_append}

pub whole_text : (t : Tree) → text_of t ≡ spelled (lines_of t 1) ++ codes "end\n"
unfolding text_of
whole_text t = spelled_append (lines_of t 1) (end_line ∷ [])

-- no more objects are written than there are
fewer : (o : Option Inline) (n : ℕ) → unless_inline o n ≤ n
fewer None n = omega arith
fewer (Some v) n = omega arith

mutual
  pub many_few : (t : Tree) → many t ≤ count t
  many_few (array a xs) = omega (arith, values_few xs)
  many_few (text b xs) = omega (arith, values_few xs)
  many_few (field ps xs) = omega (arith, parts_few ps, values_few xs)
  many_few (group ps xs) = omega (arith, parts_few ps, values_few xs)
  many_few (composite ps xs) = omega (arith, parts_few ps, values_few xs)
  many_few (series ps xs) = omega (arith, parts_few ps, values_few xs)

  parts_few : (ps : PartList) → parts_many ps ≤ total_count ps
  parts_few no_parts = omega arith
  parts_few (part n p t ps) = omega (arith, many_few t, parts_few ps)

  values_few : (xs : PartList) → values_many xs ≤ total_count xs
  values_few no_parts = omega arith
  values_few (part n p t xs) = omega (arith, many_few t, values_few xs, fewer (inline_of t) (many t))

-- ---- the lines of an object and of all that it has

no_more : (k : ℕ) → k + 0 ≡ k
no_more k = omega arith

entries_are : (l : Listing) (i : ℕ) (ps : PartList) (k : ℕ) → numbered_entries l i ps (part_numbers ps k) ≡ entries l i ps k
entries_are l i no_parts k = refl
entries_are l i (part n p t ps) k = ap (λ (ls : List Line). entry l i n p (value_words (last_of k (many t))) ∷ ls) (entries_are l (suc i) ps (k + many t))

given_by : (o : Option Inline) (k m : ℕ) → given_words o (last_of k (unless_inline o m)) ≡ given_words o (last_of k m)
given_by None k m = refl
given_by (Some (as_text b)) k m = refl
given_by (Some (as_number z)) k m = refl

attributes_are : (xs : PartList) (k : ℕ) → numbered_attributes xs (value_numbers xs k) ≡ attribute_lines xs k
attributes_are no_parts k = refl
attributes_are (part n p t xs) k =
    ap (λ (words : List Word). attribute_line n words ∷ numbered_attributes xs (value_numbers xs (k + unless_inline (inline_of t) (many t)))) (given_by (inline_of t) k (many t))
    ∙ ap (λ (ls : List Line). attribute_line n (given_words (inline_of t) (last_of k (many t))) ∷ ls) (attributes_are xs (k + unless_inline (inline_of t) (many t)))

pieces : (ps vs : List Line) (o : Line) (es xs : List Line) →
    spelled (ps ++ (vs ++ o ∷ (es ++ xs))) ≡ ((spelled ps ++ spelled vs) ++ spelled (o ∷ es)) ++ spelled xs
pieces ps vs o es xs =
    spelled_append ps (vs ++ o ∷ (es ++ xs))
    ∙ ap (λ (text : List ℕ). spelled ps ++ text)
    (spelled_append vs (o ∷ (es ++ xs)) ∙ ap (λ (text : List ℕ). spelled vs ++ text) (spelled_append (o ∷ es) xs))
    ∙ sym (append_assoc (spelled ps ++ spelled vs) (spelled (o ∷ es)) (spelled xs) ∙ append_assoc (spelled ps) (spelled vs) (spelled (o ∷ es) ++ spelled xs))

with_parts : (l : Listing) (ws : List Word) (ps xs : PartList) (k n : ℕ) → n ≡ k + (parts_many ps + values_many xs) →
    spelled (part_lines ps k ++ (value_lines xs (k + parts_many ps)
    ++ object_line (k + (parts_many ps + values_many xs)) ws ∷ (entries l 0 ps k ++ attribute_lines xs (k + parts_many ps))))
    ≡ ((spelled (part_lines ps k) ++ spelled (value_lines xs (k + parts_many ps))) ++ spelled (object_line n ws ∷ numbered_entries l 0 ps (part_numbers ps k)))
    ++ spelled (numbered_attributes xs (value_numbers xs (k + parts_many ps)))
with_parts l ws ps xs k n h =
    rw (h, entries_are l 0 ps k, attributes_are xs (k + parts_many ps))
    (pieces (part_lines ps k) (value_lines xs (k + parts_many ps)) (object_line (k + (parts_many ps + values_many xs)) ws) (entries l 0 ps k) (attribute_lines xs (k + parts_many ps)))

alone : (ws : List Word) (es : List Line) (xs : PartList) (k m n : ℕ) → m ≡ k → n ≡ k + values_many xs →
    spelled (value_lines xs k ++ object_line (k + values_many xs) ws ∷ (es ++ attribute_lines xs k))
    ≡ (spelled (value_lines xs m) ++ spelled (object_line n ws ∷ es)) ++ spelled (numbered_attributes xs (value_numbers xs m))
alone ws es xs k m n h g =
    rw (h, g, attributes_are xs k) (pieces [] (value_lines xs k) (object_line (k + values_many xs) ws) es (attribute_lines xs k))

lines_are : (t : Tree) (k n : ℕ) → n ≡ k + parts_many (parts t) + values_many (attributes t) →
    ((spelled (part_lines (parts t) k) ++ spelled (value_lines (attributes t) (k + parts_many (parts t)))) ++ spelled (body_lines t n (part_numbers (parts t) k)))
    ++ spelled (numbered_attributes (attributes t) (value_numbers (attributes t) (k + parts_many (parts t))))
    ≡ spelled (lines_of t k)
unfolding body_lines
lines_are (array a xs) k n h = sym (alone (class_words a a.class) (class_lines a a.class) xs k (k + 0) n (no_more k) (omega (arith, h)))
lines_are (text b xs) k n h = sym (alone (bare (codes "string") ∷ in_quotes b ∷ []) [] xs k (k + 0) n (no_more k) (omega (arith, h)))
lines_are (field ps xs) k n h = sym (with_parts Components (bare (codes "field") ∷ []) ps xs k n (omega (arith, h)))
lines_are (group ps xs) k n h = sym (with_parts Members (bare (codes "group") ∷ []) ps xs k n (omega (arith, h)))
lines_are (composite ps xs) k n h = sym (with_parts Members (bare (codes "compositefield") ∷ []) ps xs k n (omega (arith, h)))
lines_are (series ps xs) k n h = sym (with_parts PlacedMembers (bare (codes "series") ∷ []) ps xs k n (omega (arith, h)))

parts_text_is : (ps : PartList) (k : ℕ) → parts_text ps k ≡ spelled (part_lines ps k)
parts_text_is no_parts k = refl
parts_text_is (part n p t ps) k =
    ap (λ (text : List ℕ). spelled (lines_of t k) ++ text) (parts_text_is ps (k + many t))
    ∙ sym (spelled_append (lines_of t k) (part_lines ps (k + many t)))

unless_by : (o : Option Inline) (ls : List Line) → unless_inline_text o (spelled ls) ≡ spelled (unless_inline_lines o ls)
unless_by None ls = refl
unless_by (Some v) ls = refl

values_text_is : (xs : PartList) (k : ℕ) → values_text xs k ≡ spelled (value_lines xs k)
values_text_is no_parts k = refl
values_text_is (part n p t xs) k =
    ap (λ (text : List ℕ). unless_inline_text (inline_of t) (spelled (lines_of t k)) ++ text) (values_text_is xs (k + unless_inline (inline_of t) (many t)))
    ∙ ap (λ (text : List ℕ). text ++ spelled (value_lines xs (k + unless_inline (inline_of t) (many t)))) (unless_by (inline_of t) (lines_of t k))
    ∙ sym (spelled_append (unless_inline_lines (inline_of t) (lines_of t k)) (value_lines xs (k + unless_inline (inline_of t) (many t))))

behind_all : (o a b c d : List ℕ) → (((o ++ a) ++ b) ++ c) ++ d ≡ o ++ (((a ++ b) ++ c) ++ d)
behind_all o a b c d =
    ap (λ (text : List ℕ). (text ++ c) ++ d) (append_assoc o a b)
    ∙ ap (λ (text : List ℕ). text ++ d) (append_assoc o (a ++ b) c)
    ∙ append_assoc o ((a ++ b) ++ c) d

-- an object, where its parts, the values of its attributes, its own lines and its attributes were put one behind the other
pub object_pushed : (t : Tree) (ps xs : PartList) (k m n : ℕ) (ks vs old one two three four : List ℕ) →
    ps ≡ parts t → xs ≡ attributes t → m ≡ k + parts_many ps → n ≡ m + values_many xs → ks ≡ part_numbers ps k → vs ≡ value_numbers xs m →
    one ≡ old ++ parts_text ps k → two ≡ one ++ values_text xs m → three ≡ two ++ spelled (body_lines t n ks) →
    four ≡ three ++ spelled (numbered_attributes xs vs) → four ≡ old ++ spelled (lines_of t k)
object_pushed t ps xs k m n ks vs old one two three four e f hm hn hk hv a b c d =
    let body : List ℕ = spelled (body_lines t n ks) in
    let given : List ℕ = spelled (numbered_attributes xs vs) in
    let number : n ≡ k + parts_many (parts t) + values_many (attributes t) = rw (sym e, sym f) (hn ∙ ap (λ (i : ℕ). i + values_many xs) hm) in
    d ∙ ap (λ (text : List ℕ). text ++ given) (c ∙ ap (λ (text : List ℕ). text ++ body) (b ∙ ap (λ (text : List ℕ). text ++ values_text xs m) a))
    ∙ behind_all old (parts_text ps k) (values_text xs m) body given
    ∙ ap (λ (text : List ℕ). old ++ text)
    (rw (parts_text_is ps k, values_text_is xs m, hk, hv, hm, e, f) (lines_are t k n number))

-- how many numbers there are
pub part_numbers_count : (ps : PartList) (k : ℕ) → length (part_numbers ps k) ≡ part_count ps
part_numbers_count no_parts k = refl
part_numbers_count (part n p t ps) k = ap suc (part_numbers_count ps (k + many t))

pub value_numbers_count : (xs : PartList) (k : ℕ) → length (value_numbers xs k) ≡ part_count xs
value_numbers_count no_parts k = refl
value_numbers_count (part n p t xs) k = ap suc (value_numbers_count xs (k + unless_inline (inline_of t) (many t)))

-- a list that was empty before
pub from_none : (given new start tail : List ℕ) → given ≡ new → new ≡ start ++ tail → start ≡ [] → given ≡ tail
from_none given new start tail g n s = g ∙ n ∙ ap (λ (ks : List ℕ). ks ++ tail) s

pub numbers_room : (t : Tree) (ps : PartList) (k : ℕ) (given : List ℕ) → ps ≡ parts t → given ≡ part_numbers ps k → length given ≡ part_count (parts t)
numbers_room t ps k given p g = ap (λ (ks : List ℕ). length ks) g ∙ part_numbers_count ps k ∙ ap part_count p

pub values_room : (ps : List Part) (k : ℕ) (given : List ℕ) → given ≡ value_numbers (parts_of ps) k → length given ≡ length ps
values_room ps k given g = ap (λ (ks : List ℕ). length ks) g ∙ value_numbers_count (parts_of ps) k ∙ part_count_is ps

pub ruleset whole_texts = (whole_text, many_few)
