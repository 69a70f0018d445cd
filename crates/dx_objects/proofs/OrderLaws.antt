-- Parts in the order of their names, as the parts of objects.
use Rattle.std.proofs.Common.{◌≡◌, ◌<◌, ◌≤◌, ℕ, zero, suc, List, [], ◌∷◌, Option, Some, None, true, false, ◌&&◌, length, get_or, refl, sym, subst, arith}
use Rattle.std.specs.Prelude.{IsPermutation}
use Rattle.std.specs.List.{range_with_len}
use Rattle.std.specs.List.Sorted.{IsSortedBy}
use Rattle.std.proofs.lemmas.Bool.{and_parts}
use Rattle.std.proofs.lemmas.Slice.Eq.{bytes_eq-Decides}
use Rattle.dx_base.specs.Object.{Tree, PartList, field, group, composite, series}
use Rattle.dx_base.specs.ObjectNames.{same_name, find}
use Rattle.dx_base.specs.ObjectLimits.{lacks, differ, has_good_names}
use Rattle.dx_object_laws.specs.Order.{name_at, comes_before, IsOrder}
use Rattle.dx_object_laws.proofs.PutLaws.{by_bool}
use Rattle.dx_object_laws.proofs.OrderLaws.{is_found, lacks_named, array_attributes, text_attributes, field_attributes, group_attributes, composite_attributes, series_attributes, field_names, group_names, composite_names, series_names}
use Rattle.dx_objects.specs.Makes.{refusal}
use Rattle.dx_objects.specs.declared.makers.ObjectError.TheVariants.{BadNames}
use Rattle.dx_objects.specs.declared.object.Part.{Part}
use Rattle.dx_objects.specs.Shown.{parts_of}
use Rattle.dx_objects.proofs.PartsLaws.{part_count_is}

-- the name of the part at a place, if there is one
pub name_at-past : (ps : List Part) (i : ℕ) → length ps ≤ i → name_at (parts_of ps) i ≡ None
name_at-past [] i h = refl
name_at-past (p ∷ ps) zero h = absurd (omega (arith, h))
name_at-past (p ∷ ps) (suc i) h = name_at-past ps i (omega (arith, h))

pub name_at-here : (ps : List Part) (i : ℕ) (d : Part) → i < length ps → name_at (parts_of ps) i ≡ (get_or ps i d).name
name_at-here [] i d h = absurd (omega (arith, h))
name_at-here (p ∷ ps) zero d h = refl
name_at-here (p ∷ ps) (suc i) d h = name_at-here ps i d (omega (arith, h))

-- where names differ, a part of a name is what the name finds
pub finds_at : (n : List ℕ) (ps : List Part) (i : ℕ) (d : Part) → i < length ps → differ (parts_of ps) ≡ true → name_at (parts_of ps) i ≡ Some n → find n (parts_of ps) ≡ Some (get_or ps i d).object.value
finds_at n [] i d h a e = absurd (omega (arith, h))
finds_at n (p ∷ ps) zero d h a e =
    let own : same_name n p.name ≡ true = subst (λ m. same_name n m ≡ true) (sym e) ((bytes_eq-Decides n n).1 refl) in
    rw own refl
finds_at n (p ∷ ps) (suc i) d h a e =
    let both = and_parts (lacks p.name (parts_of ps)) (differ (parts_of ps)) a in
    let shares : same_name n (name_at (parts_of ps) i) ≡ true = subst (λ m. same_name n m ≡ true) (sym e) ((bytes_eq-Decides n n).1 refl) in
    by_bool (same_name n p.name) _
    (λ f. absurd (let g = lacks_named n p.name (parts_of ps) f both.0 in let k = is_found n (parts_of ps) i shares in cc))
    (λ f. rw f (finds_at n ps i d (omega (arith, h)) both.1 e))

pub order_made : (ps : List Part) (old new : List ℕ) → old ≡ range_with_len 0 (length ps) → IsPermutation old new → IsSortedBy (comes_before (parts_of ps)) new → IsOrder (parts_of ps) new
order_made ps old new e p s = record {
  places = rw (part_count_is ps) (subst (λ o. IsPermutation o new) e p);
  sorted = s;
}

-- a name stands below the end
pub name_below : (ps : List Part) (i : ℕ) (n : List ℕ) → name_at (parts_of ps) i ≡ Some n → i < length ps
name_below [] i n e = cc
name_below (p ∷ ps) zero n e = omega arith
name_below (p ∷ ps) (suc i) n e = let h = name_below ps i n e in omega (arith, h)

-- a name that stands twice is the reason why nothing is made
pub refused : (t : Tree) → has_good_names t ≡ false → refusal t ≡ Some BadNames
refused t h = rw h refl

pub ruleset bad_names = (refused, array_attributes, text_attributes)

pub field_refused : (ps xs : PartList) → differ ps && differ xs ≡ false → refusal (field ps xs) ≡ Some BadNames
field_refused ps xs h =
    by_bool (differ ps) _
    (λ e. refused (field ps xs) (field_attributes ps xs (rw e at h)))
    (λ e. refused (field ps xs) (field_names ps xs e))

pub group_refused : (ps xs : PartList) → differ ps && differ xs ≡ false → refusal (group ps xs) ≡ Some BadNames
group_refused ps xs h =
    by_bool (differ ps) _
    (λ e. refused (group ps xs) (group_attributes ps xs (rw e at h)))
    (λ e. refused (group ps xs) (group_names ps xs e))

pub composite_refused : (ps xs : PartList) → differ ps && differ xs ≡ false → refusal (composite ps xs) ≡ Some BadNames
composite_refused ps xs h =
    by_bool (differ ps) _
    (λ e. refused (composite ps xs) (composite_attributes ps xs (rw e at h)))
    (λ e. refused (composite ps xs) (composite_names ps xs e))

pub series_refused : (ps xs : PartList) → differ ps && differ xs ≡ false → refusal (series ps xs) ≡ Some BadNames
series_refused ps xs h =
    by_bool (differ ps) _
    (λ e. refused (series ps xs) (series_attributes ps xs (rw e at h)))
    (λ e. refused (series ps xs) (series_names ps xs e))
