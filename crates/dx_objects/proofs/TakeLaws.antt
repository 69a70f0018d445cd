-- A component that is taken out: nothing can be said against the field without it.
use Rattle.std.proofs.Common.{◌≡◌, ℕ, List, None, true, ◌&&◌, refl}
use Rattle.std.proofs.lemmas.Bool.{and_parts}
use Rattle.std.specs.Cmp.Derive.{both_true}
use Rattle.dx_base.specs.Object.{PartList, field}
use Rattle.dx_base.specs.ObjectNames.{without}
use Rattle.dx_base.specs.ObjectLimits.{differ, all_named, all_arrays, has_good_names, fits, IsAllowed}
use Rattle.dx_object_laws.proofs.TakeLaws.{all_named-without, all_arrays-without, differ-without, fits-without}
use Rattle.dx_objects.specs.Makes.{refusal}

-- the field without a component is not refused
pub refusal-without : (n : List ℕ) (ps xs : PartList) → IsAllowed (field ps xs) → refusal (field (without n ps) xs) ≡ None
refusal-without n ps xs h =
    let names = and_parts (all_named ps && differ ps) (all_named xs && differ xs) h.names in
    let own = and_parts (all_named ps) (differ ps) names.0 in
    let good : has_good_names (field (without n ps) xs) ≡ true = both_true (both_true (all_named-without n ps own.0) (differ-without n ps own.1)) names.1 in
    let arrays : all_arrays (without n ps) ≡ true = all_arrays-without n ps h.components in
    let small : fits (field (without n ps) xs) ≡ true = fits-without n ps xs h.limits in
    rw (good, arrays, small) refl
