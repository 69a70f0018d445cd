-- Names that differ, with one more.
use Rattle.std.proofs.Common.{◌≡◌, ℕ, Bool, true, false, List, [], ◌∷◌, ◌++◌, Option, Some, None, refl, sym, ap, subst, ◌∙◌}
use Rattle.std.specs.Prelude.{bytes_eq, ◌||◌}
use Rattle.std.specs.List.{list_any}
use Rattle.std.proofs.lemmas.List.Folds.{list_any-append}
use Rattle.std.proofs.lemmas.Slice.Eq.{bytes_eq-Decides}
use Rattle.dx_native_grammar.specs.declared.clause.Attribute.{Attribute}
use Rattle.dx_native_grammar.specs.declared.clause.Part.{Part}
use Rattle.dx_native_grammar.specs.Names.{name_before, part_names, attribute_names, has_part, has_label, has_attribute}
use Rattle.dx_native_sound.specs.Sound.{Distinct, Every}

swap_by : (b c : Bool) → (b ≡ true → c ≡ true) → c ≡ false → b ≡ false
swap_by true c h e = absurd (let t = h refl in cc)
swap_by false c h e = refl

-- where one of two names differs from the other, so the other does from it
pub swapped : (m n : List ℕ) → bytes_eq m n ≡ false → bytes_eq n m ≡ false
swapped m n e = swap_by (bytes_eq n m) (bytes_eq m n) (λ h. (bytes_eq-Decides m n).1 (sym ((bytes_eq-Decides n m).0 h))) e

or_false : (a b : Bool) → a ≡ false → b ≡ false → (a || b) ≡ false
or_false true b p q = absurd cc
or_false false b p q = q

cond_false : (a b : Bool) → (a || b) ≡ false → (a ≡ false) × (b ≡ false)
cond_false true b p = absurd cc
cond_false false b p = (refl, p)

any_cons : (p : List ℕ → Bool) (n : List ℕ) (ns : List (List ℕ)) → list_any p (n ∷ ns) ≡ (p n || list_any p ns)
any_cons p n ns = refl

-- one more name, which none before has
pub distinct_push : (ns : List (List ℕ)) (n : List ℕ) → Distinct ns → list_any (bytes_eq n) ns ≡ false → Distinct (ns ++ n ∷ [])
distinct_push [] n d h = (refl, tt)
distinct_push (m ∷ ns) n d h =
    let p = cond_false (bytes_eq n m) (list_any (bytes_eq n) ns) (sym (any_cons (bytes_eq n) m ns) ∙ h) in
    let apart : list_any (bytes_eq m) (ns ++ n ∷ []) ≡ false =
    list_any-append (bytes_eq m) ns (n ∷ []) ∙ or_false (list_any (bytes_eq m) ns) (list_any (bytes_eq m) (n ∷ [])) d.0 (any_cons (bytes_eq m) n [] ∙ or_false (bytes_eq m n) false (swapped n m p.0) refl) in
    (apart, distinct_push ns n d.1 p.1)

before_append : (n : Option (List ℕ)) (xs ys : List (List ℕ)) → name_before n (xs ++ ys) ≡ name_before n xs ++ ys
before_append None xs ys = refl
before_append (Some n) xs ys = refl

append_none : (ns : List (List ℕ)) → ns ++ [] ≡ ns
append_none [] = refl
append_none (n ∷ ns) = ap (λ ns. n ∷ ns) (append_none ns)

part_names_push : (ps : List Part) (p : Part) → part_names (ps ++ p ∷ []) ≡ part_names ps ++ name_before p.name []
part_names_push [] p = refl
part_names_push (q ∷ ps) p = ap (name_before q.name) (part_names_push ps p) ∙ before_append q.name (part_names ps) (name_before p.name [])

attribute_names_push : (xs : List Attribute) (a : Attribute) → attribute_names (xs ++ a ∷ []) ≡ attribute_names xs ++ a.name ∷ []
attribute_names_push [] a = refl
attribute_names_push (x ∷ xs) a = ap (λ ns. x.name ∷ ns) (attribute_names_push xs a)

label_push : (ns : List (List ℕ)) (n : Option (List ℕ)) → Distinct ns → ((m : List ℕ) → n ≡ Some m → list_any (bytes_eq m) ns ≡ false) → Distinct (ns ++ name_before n [])
label_push ns None d h = subst Distinct (sym (append_none ns)) d
label_push ns (Some n) d h = distinct_push ns n d (h n refl)

label_by : (ps : List Part) (n : Option (List ℕ)) → has_label n ps ≡ false → (m : List ℕ) → n ≡ Some m → has_part m ps ≡ false
label_by ps n h m e = sym (ap (λ n. has_label n ps) e) ∙ h

pub parts_push : (ps : List Part) (p : Part) → Distinct (part_names ps) → has_label p.name ps ≡ false → Distinct (part_names (ps ++ p ∷ []))
parts_push ps p d h = subst Distinct (sym (part_names_push ps p)) (label_push (part_names ps) p.name d (label_by ps p.name h))

pub attributes_push : (xs : List Attribute) (a : Attribute) → Distinct (attribute_names xs) → has_attribute a.name xs ≡ false → Distinct (attribute_names (xs ++ a ∷ []))
attributes_push xs a d h = subst Distinct (sym (attribute_names_push xs a)) (distinct_push (attribute_names xs) a.name d h)

pub all_push : {X : Type 0} (P : X → Type 0) (xs : List X) (x : X) → Every P xs → P x → Every P (xs ++ x ∷ [])
all_push P [] x h p = (p, tt)
all_push P (y ∷ xs) x h p = (h.0, all_push P xs x h.1 p)
