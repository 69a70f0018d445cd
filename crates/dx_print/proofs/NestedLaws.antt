-- The text of an object from the texts of its parts and attributes, whatever it is.
use Rattle.std.proofs.Common.{◌≡◌, ◌<◌, ◌++◌, ℕ, List, true, false, refl, sym, ap, ◌∙◌, append_assoc, append-nil, arith}
use Rattle.std.specs.Prelude.{Result, Ok, Err, OnOk}
use Rattle.dx_base.specs.Object.{Tree, PartList, array, text, field, group, composite, series, parts, attributes, levels, deepest}
use Rattle.dx_print.specs.declared.detail.Detail.{Detail}
use Rattle.dx_print.specs.declared.parts.Listing.{Listing}
use Rattle.dx_print.specs.declared.parts.Listing.TheVariants.{Attributes}
use Rattle.dx_print.specs.Nested.{listing_of}
use Rattle.dx_print.specs.Printed.{own_text, if_parts, text_at, parts_text}

pub parts_shallow : (t : Tree) → deepest (parts t) < levels t
parts_shallow (array a xs) = omega arith
parts_shallow (text b xs) = omega arith
parts_shallow (field ps xs) = omega arith
parts_shallow (group ps xs) = omega arith
parts_shallow (composite ps xs) = omega arith
parts_shallow (series ps xs) = omega arith

pub attributes_shallow : (t : Tree) → deepest (attributes t) < levels t
attributes_shallow (array a xs) = omega arith
attributes_shallow (text b xs) = omega arith
attributes_shallow (field ps xs) = omega arith
attributes_shallow (group ps xs) = omega arith
attributes_shallow (composite ps xs) = omega arith
attributes_shallow (series ps xs) = omega arith

whole : (d : Detail) (indent : ℕ) (t : Tree) →
    text_at d indent t ≡ own_text d indent t ++ if_parts d.parts (parts_text (listing_of t) d indent (parts t) ++ parts_text Attributes d indent (attributes t))
whole d indent (array a xs) = refl
whole d indent (text b xs) = refl
whole d indent (field ps xs) = refl
whole d indent (group ps xs) = refl
whole d indent (composite ps xs) = refl
whole d indent (series ps xs) = refl

-- the object without its parts
pub object_alone : (d : Detail) (indent : ℕ) (t : Tree) (old out : List ℕ) → d.parts ≡ false → out ≡ old ++ own_text d indent t → out ≡ old ++ text_at d indent t
object_alone d indent t old out off e =
    e ∙ ap (λ (xs : List ℕ). old ++ xs) (sym (whole d indent t ∙ ap (λ b. own_text d indent t ++ if_parts b (parts_text (listing_of t) d indent (parts t) ++ parts_text Attributes d indent (attributes t))) off ∙ append-nil (own_text d indent t)))

-- the object with its parts, and then its attributes
pub object_text : (d : Detail) (indent : ℕ) (t : Tree) (l : Listing) (ps xs : PartList) (old own some all : List ℕ) → d.parts ≡ true → l ≡ listing_of t → ps ≡ parts t → xs ≡ attributes t →
    own ≡ old ++ own_text d indent t → some ≡ own ++ parts_text l d indent ps → all ≡ some ++ parts_text Attributes d indent xs → all ≡ old ++ text_at d indent t
object_text d indent t l ps xs old own some all on k p q e f g =
    let one : List ℕ = own_text d indent t in
    let two : List ℕ = parts_text (listing_of t) d indent (parts t) in
    let three : List ℕ = parts_text Attributes d indent (attributes t) in
    let left : all ≡ ((old ++ one) ++ two) ++ three = rw (g, f, e, k, p, q) refl in
    let right : text_at d indent t ≡ one ++ (two ++ three) = whole d indent t ∙ ap (λ b. one ++ if_parts b (two ++ three)) on in
    left ∙ append_assoc (old ++ one) two three ∙ append_assoc old one (two ++ three) ∙ ap (λ (ys : List ℕ). old ++ ys) (sym right)

-- the same, unless memory ran out among the attributes
pub object_ended : {A E : Type 0} (r : Result A E) (d : Detail) (indent : ℕ) (t : Tree) (l : Listing) (ps xs : PartList) (old own some all : List ℕ) → d.parts ≡ true → l ≡ listing_of t → ps ≡ parts t → xs ≡ attributes t →
    own ≡ old ++ own_text d indent t → some ≡ own ++ parts_text l d indent ps → OnOk r (all ≡ some ++ parts_text Attributes d indent xs) → OnOk r (all ≡ old ++ text_at d indent t)
object_ended (Ok a) d indent t l ps xs old own some all on k p q e f g = object_text d indent t l ps xs old own some all on k p q e f g
object_ended (Err b) d indent t l ps xs old own some all on k p q e f g = tt
