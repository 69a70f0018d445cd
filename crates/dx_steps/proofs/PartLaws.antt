-- Parts and attributes of objects of which all origins and deltas are ints, and such parts put and placed.
use Rattle.std.proofs.Common.{◌≡◌, ℕ, List, [], ◌∷◌, Some, true, refl, subst}
use Rattle.std.specs.Cmp.Derive.{both_true}
use Rattle.std.specs.List.{list_all}
use Rattle.std.proofs.lemmas.Bool.{and_parts}
use Rattle.dx_base.specs.Object.{Tree, PartList, array, text, field, group, composite, series, no_parts, part, parts, attributes}
use Rattle.dx_base.specs.ObjectLimits.{all_fields}
use Rattle.dx_base.specs.ObjectMembers.{placed, composite_or_group}
use Rattle.dx_base.specs.ObjectNames.{same_name, find, put, with_component}
use Rattle.dx_base.specs.ObjectNumbers.{steps_by_ints, all_step_by_ints, has_int_steps}
use Rattle.dx_object_laws.proofs.PutLaws.{by_bool}

pub parts_steps : (t : Tree) → steps_by_ints t ≡ true → all_step_by_ints (parts t) ≡ true
parts_steps (array a xs) h = refl
parts_steps (text b xs) h = refl
parts_steps (field ps xs) h = (and_parts (all_step_by_ints ps) (all_step_by_ints xs) h).0
parts_steps (group ps xs) h = (and_parts (all_step_by_ints ps) (all_step_by_ints xs) h).0
parts_steps (composite ps xs) h = (and_parts (all_step_by_ints ps) (all_step_by_ints xs) h).0
parts_steps (series ps xs) h = (and_parts (all_step_by_ints ps) (all_step_by_ints xs) h).0

pub attributes_steps : (t : Tree) → steps_by_ints t ≡ true → all_step_by_ints (attributes t) ≡ true
attributes_steps (array a xs) h = (and_parts (has_int_steps a.class) (all_step_by_ints xs) h).1
attributes_steps (text b xs) h = h
attributes_steps (field ps xs) h = (and_parts (all_step_by_ints ps) (all_step_by_ints xs) h).1
attributes_steps (group ps xs) h = (and_parts (all_step_by_ints ps) (all_step_by_ints xs) h).1
attributes_steps (composite ps xs) h = (and_parts (all_step_by_ints ps) (all_step_by_ints xs) h).1
attributes_steps (series ps xs) h = (and_parts (all_step_by_ints ps) (all_step_by_ints xs) h).1

pub find_steps : (n : List ℕ) (ps : PartList) (t : Tree) → all_step_by_ints ps ≡ true → find n ps ≡ Some t → steps_by_ints t ≡ true
find_steps n no_parts t h e = absurd (cc e)
find_steps n (part m p u ps) t h e =
    let hs = and_parts (steps_by_ints u) (all_step_by_ints ps) h in
    by_bool (same_name n m) _
    (λ s. let same : u ≡ t = (let is : Some u ≡ Some t = rw s at e in cc) in rw (← same) hs.0)
    (λ s. find_steps n ps t hs.1 (rw s at e))

pub put_steps : (n : List ℕ) (t : Tree) (ps : PartList) → steps_by_ints t ≡ true → all_step_by_ints ps ≡ true → all_step_by_ints (put n t ps) ≡ true
put_steps n t no_parts k h = both_true k refl
put_steps n t (part m p u ps) k h =
    let hs = and_parts (steps_by_ints u) (all_step_by_ints ps) h in
    by_bool (same_name n m) _
    (λ e. rw e (both_true k hs.1))
    (λ e. rw e (both_true hs.0 (put_steps n t ps k hs.1)))

pub with_steps : (n : List ℕ) (c whole u : Tree) → steps_by_ints c ≡ true → steps_by_ints whole ≡ true → with_component n c whole ≡ Some u → steps_by_ints u ≡ true
with_steps n c (array a xs) u k h e = absurd (cc e)
with_steps n c (text b xs) u k h e = absurd (cc e)
with_steps n c (field ps xs) u k h e =
    let hs = and_parts (all_step_by_ints ps) (all_step_by_ints xs) h in
    let same : field (put n c ps) xs ≡ u = cc in
    subst (λ t. steps_by_ints t ≡ true) same (both_true (put_steps n c ps k hs.0) hs.1)
with_steps n c (group ps xs) u k h e = absurd (cc e)
with_steps n c (composite ps xs) u k h e = absurd (cc e)
with_steps n c (series ps xs) u k h e = absurd (cc e)

pub placed_steps : (ps : PartList) (ts : List Tree) → all_step_by_ints ps ≡ true → list_all steps_by_ints ts ≡ true → all_step_by_ints (placed ps ts) ≡ true
placed_steps no_parts ts h k = refl
placed_steps (part n p t ps) [] h k = h
placed_steps (part n p t ps) (u ∷ ts) h k =
    let hs = and_parts (steps_by_ints t) (all_step_by_ints ps) h in
    let ks = and_parts (steps_by_ints u) (list_all steps_by_ints ts) k in
    both_true ks.0 (placed_steps ps ts hs.1 ks.1)

pub either_steps : (ps xs : PartList) → all_step_by_ints ps ≡ true → all_step_by_ints xs ≡ true → steps_by_ints (composite_or_group ps xs) ≡ true
either_steps ps xs h k = by_bool (all_fields ps) _ (λ e. rw e (both_true h k)) (λ e. rw e (both_true h k))
