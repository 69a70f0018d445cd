-- A component that is put among the others: only that the field is too large can be said against it.
use Rattle.std.proofs.Common.{◌≡◌, ℕ, List, Option, Some, None, Bool, true, false, cond, ◌&&◌, refl, sym, ◌∙◌}
use Rattle.std.proofs.lemmas.Bool.{and_parts}
use Rattle.std.specs.Cmp.Derive.{both_true}
use Rattle.dx_base.specs.Object.{Tree, PartList, field}
use Rattle.dx_base.specs.ObjectNames.{put}
use Rattle.dx_base.specs.ObjectLimits.{differ, all_named, all_arrays, is_array, has_good_names, fits, IsAllowed}
use Rattle.dx_object_laws.proofs.PutLaws.{all_named-put, all_arrays-put, differ-put}
use Rattle.dx_objects.specs.Makes.{refusal}
use Rattle.dx_objects.specs.declared.makers.ObjectError.{ObjectError}
use Rattle.dx_objects.specs.declared.makers.ObjectError.TheVariants.{TooLarge}

-- the field with another component is refused only as too large
refusal-put : (n : List ℕ) (t : Tree) (ps xs : PartList) → IsAllowed (field ps xs) → is_array t ≡ true → refusal (field (put n t ps) xs) ≡ cond (fits (field (put n t ps) xs)) None (Some TooLarge)
refusal-put n t ps xs h a =
    let names = and_parts (all_named ps && differ ps) (all_named xs && differ xs) h.names in
    let own = and_parts (all_named ps) (differ ps) names.0 in
    let good : has_good_names (field (put n t ps) xs) ≡ true = both_true (both_true (all_named-put n t ps own.0) (differ-put n t ps own.1)) names.1 in
    let arrays : all_arrays (put n t ps) ≡ true = all_arrays-put n t ps a h.components in
    rw (good, arrays) refl

pub is_too_large : (b : Bool) (e : ObjectError) → cond b None (Some TooLarge) ≡ Some e → b ≡ false
is_too_large true e h = cc
is_too_large false e h = refl

pub does_fit : (b : Bool) → cond b None (Some TooLarge) ≡ None → b ≡ true
does_fit true h = refl
does_fit false h = cc

pub not-fits-put : (n : List ℕ) (t : Tree) (ps xs : PartList) (e : ObjectError) → IsAllowed (field ps xs) → is_array t ≡ true → refusal (field (put n t ps) xs) ≡ Some e → fits (field (put n t ps) xs) ≡ false
not-fits-put n t ps xs e h a r = is_too_large (fits (field (put n t ps) xs)) e (sym (refusal-put n t ps xs h a) ∙ r)

pub fits-put : (n : List ℕ) (t : Tree) (ps xs : PartList) → IsAllowed (field ps xs) → is_array t ≡ true → refusal (field (put n t ps) xs) ≡ None → fits (field (put n t ps) xs) ≡ true
fits-put n t ps xs h a r = does_fit (fits (field (put n t ps) xs)) (sym (refusal-put n t ps xs h a) ∙ r)
