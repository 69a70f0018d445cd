-- The lines of an object alone, by what it is.
use Rattle.std.proofs.Common.{◌≡◌, ◌∙◌, ◌++◌, ◌∷◌, [], ℕ, List, Some, None, true, codes, refl, append_assoc, ap, sym, append-nil, length}
use Rattle.std.specs.Fmt.{decimal}
use Rattle.dx_base.specs.Array.{ArrayData}
use Rattle.dx_base.specs.Object.{Tree, array, text, field, group, composite, series, parts}
use Rattle.dx_objects.specs.Kinds.{array_of, text_of}
use Rattle.std.specs.Prelude.{Result, Ok, Err, OnOk}
use Rattle.dx_base.specs.Object.{part_count, PartList}
use Rattle.dx_native_text.specs.declared.listing.Listing.{Listing}
use Rattle.dx_base.specs.Words.{quoted}
use Rattle.dx_objects.specs.declared.object.Part.{Part}
use Rattle.dx_objects.specs.Shown.{parts_of}
use Rattle.dx_objects.proofs.PartsLaws.{part_count_is}
use Rattle.dx_native_text.specs.declared.listing.Listing.TheVariants.{Components, Members, PlacedMembers}
use Rattle.dx_native_text.specs.Arrays.{class_words, class_lines}
use Rattle.dx_native_text.specs.Text.{object_line}
use Rattle.dx_native_write.specs.Spelled.{words_behind}
use Rattle.dx_native_text.specs.Lines.{Word, Line, bare, in_quotes, spelled}
use Rattle.dx_native_write.specs.Numbered.{body_lines, numbered_entries}
use Rattle.dx_native_write.specs.Bodies.{array_behind, text_behind, has_parts, class_behind, listing_of}

abbrev pub start : ℕ → List ℕ
start k = codes "object " ++ (decimal k ++ codes " class")

object_start : (k : ℕ) (ws : List Word) (ls : List Line) → spelled (object_line k ws ∷ ls) ≡ start k ++ (words_behind ws ++ 10 ∷ spelled ls)
object_start k ws ls =
    ap (λ (text : List ℕ). codes "object " ++ text)
    (append_assoc (decimal k ++ (codes " class" ++ words_behind ws)) (10 ∷ []) (spelled ls)
    ∙ append_assoc (decimal k) (codes " class" ++ words_behind ws) (10 ∷ spelled ls)
    ∙ sym (append_assoc (decimal k) (codes " class") (words_behind ws ++ 10 ∷ spelled ls)))

pub array_body : (t : Tree) (a : ArrayData) (k : ℕ) (ks : List ℕ) → array_of t ≡ Some a → spelled (body_lines t k ks) ≡ start k ++ array_behind a
unfolding body_lines
array_body (array b xs) a k ks e = object_start k (class_words b b.class) (class_lines b b.class) ∙ (let f : b ≡ a = cc e in ap (λ (d : ArrayData). start k ++ array_behind d) f)
array_body (text b xs) a k ks e = absurd (cc e)
array_body (field ps xs) a k ks e = absurd (cc e)
array_body (group ps xs) a k ks e = absurd (cc e)
array_body (composite ps xs) a k ks e = absurd (cc e)
array_body (series ps xs) a k ks e = absurd (cc e)

pub text_body : (t : Tree) (b : List ℕ) (k : ℕ) (ks : List ℕ) → text_of t ≡ Some b → spelled (body_lines t k ks) ≡ start k ++ text_behind b
unfolding body_lines
text_body (text c xs) b k ks e =
    object_start k (bare (codes "string") ∷ in_quotes c ∷ []) []
    ∙ ap (λ (text : List ℕ). start k ++ (codes " string " ++ (text ++ 10 ∷ []))) (append-nil (quoted c))
    ∙ (let f : c ≡ b = cc e in ap (λ (text : List ℕ). start k ++ text_behind text) f)
text_body (array a xs) b k ks e = absurd (cc e)
text_body (field ps xs) b k ks e = absurd (cc e)
text_body (group ps xs) b k ks e = absurd (cc e)
text_body (composite ps xs) b k ks e = absurd (cc e)
text_body (series ps xs) b k ks e = absurd (cc e)

pub with_parts : (t : Tree) → array_of t ≡ None → text_of t ≡ None → has_parts t ≡ true
with_parts (array a xs) e f = absurd (cc e)
with_parts (text b xs) e f = absurd (cc f)
with_parts (field ps xs) e f = refl
with_parts (group ps xs) e f = refl
with_parts (composite ps xs) e f = refl
with_parts (series ps xs) e f = refl

pub parts_body : (t : Tree) (k : ℕ) (ks : List ℕ) → has_parts t ≡ true →
    spelled (body_lines t k ks) ≡ start k ++ (class_behind t ++ spelled (numbered_entries (listing_of t) 0 (parts t) ks))
unfolding body_lines
parts_body (array a xs) k ks e = absurd (cc e)
parts_body (text b xs) k ks e = absurd (cc e)
parts_body (field ps xs) k ks e = object_start k (bare (codes "field") ∷ []) (numbered_entries Components 0 ps ks)
parts_body (group ps xs) k ks e = object_start k (bare (codes "group") ∷ []) (numbered_entries Members 0 ps ks)
parts_body (composite ps xs) k ks e = object_start k (bare (codes "compositefield") ∷ []) (numbered_entries Members 0 ps ks)
parts_body (series ps xs) k ks e = object_start k (bare (codes "series") ∷ []) (numbered_entries PlacedMembers 0 ps ks)

pub ruleset body_texts = (with_parts)

pub body_room : (t : Tree) (ps : List Part) (n : ℕ) → n ≡ part_count (parts t) → parts_of ps ≡ parts t → n ≡ length ps
body_room t ps n h e = h ∙ ap part_count (sym e) ∙ part_count_is ps

-- what was put behind the start of the first line
pub behind_start : (k : ℕ) (rest whole old one new : List ℕ) → one ≡ old ++ start k → whole ≡ start k ++ rest → new ≡ one ++ rest → new ≡ old ++ whole
behind_start k rest whole old one new a b c =
    c ∙ ap (λ (bytes : List ℕ). bytes ++ rest) a ∙ append_assoc old (start k) rest ∙ ap (λ (bytes : List ℕ). old ++ bytes) (sym b)

pub parts_pushed : (t : Tree) (k : ℕ) (ks : List ℕ) (l : Listing) (ps : PartList) (word old one two new : List ℕ) →
    array_of t ≡ None → text_of t ≡ None → l ≡ listing_of t → ps ≡ parts t → word ≡ class_behind t →
    one ≡ old ++ start k → two ≡ one ++ word → new ≡ two ++ spelled (numbered_entries l 0 ps ks) → new ≡ old ++ spelled (body_lines t k ks)
parts_pushed t k ks l ps word old one two new ha ht hl hp hw a b c =
    let entries : List ℕ = spelled (numbered_entries l 0 ps ks) in
    c ∙ ap (λ (bytes : List ℕ). bytes ++ entries) (b ∙ ap (λ (bytes : List ℕ). bytes ++ word) a)
    ∙ append_assoc (old ++ start k) word entries
    ∙ append_assoc old (start k) (word ++ entries)
    ∙ ap (λ (bytes : List ℕ). old ++ bytes) (rw (hw, hl, hp) (sym (parts_body t k ks (with_parts t ha ht))))

-- what holds where it went well, and what follows from it
pub on_ok : {A B P Q : Type 0} (r : Result A B) → (P → Q) → OnOk r P → OnOk r Q
on_ok (Ok a) f p = f p
on_ok (Err e) f p = p
