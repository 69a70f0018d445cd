-- The components of a field stay such where an array is put among them or one is taken out.
use Rattle.std.proofs.Common.{◌≡◌, ℕ, List, Option, Some, None, Ok, Err, true, ◌&&◌, cond, refl, ap, ◌∙◌}
use Rattle.std.specs.Prelude.{bytes_eq}
use Rattle.std.proofs.lemmas.Bool.{and_parts}
use Rattle.std.specs.Cmp.Derive.{both_true}
use Rattle.dx_base.specs.declared.code.Code.TheVariants.{TooLarge}
use Rattle.dx_base.specs.Object.{Tree, PartList, array, text, field, group, composite, series, no_parts, part, parts, attributes}
use Rattle.dx_base.specs.ObjectLimits.{all_named, differ, all_arrays, is_array, is_field, has_good_names, fits, unplaced, IsLawful}
use Rattle.dx_base.specs.ObjectNames.{same_name, find, component, put, without}
use Rattle.dx_objects.specs.Makes.{Makes, refusal}
use Rattle.dx_objects.specs.declared.makers.ObjectError.{ObjectError}
use Rattle.dx_objects.specs.declared.makers.ObjectError.TheVariants as refused
use Rattle.dx_object_laws.proofs.PutLaws.{by_bool, all_named-put, differ-put, all_arrays-put, unplaced-put}
use Rattle.dx_object_laws.proofs.TakeLaws.{all_named-without, differ-without, all_arrays-without, unplaced-without}
use Rattle.dx_select.specs.Components.{AreComponents}
use Rattle.dx_select.specs.Inputs.{data_name, saved_name}
use Rattle.dx_select.specs.Mark.{with_saved, with_data, restored, remade}
use Rattle.dx_select.proofs.Answering.{only_large_ok, only_large_err}

pub components_of : (t : Tree) → is_field t ≡ true → IsLawful t → AreComponents (parts t)
components_of (array a xs) f h = cc
components_of (text b xs) f h = cc
components_of (field ps xs) f h =
    let names = and_parts (all_named ps && differ ps) (all_named xs && differ xs) h.0.names in
    let own = and_parts (all_named ps) (differ ps) names.0 in
    record { named = own.0; differ = own.1; arrays = h.0.components; unplaced = h.0.positions.0 }
components_of (group ps xs) f h = cc
components_of (composite ps xs) f h = cc
components_of (series ps xs) f h = cc

pub put_components : (n : List ℕ) (t : Tree) (ps : PartList) → is_array t ≡ true → AreComponents ps → AreComponents (put n t ps)
put_components n t ps a h = record {
  named = all_named-put n t ps h.named;
  differ = differ-put n t ps h.differ;
  arrays = all_arrays-put n t ps a h.arrays;
  unplaced = unplaced-put n t ps ∙ ap (put n t) h.unplaced;
}

pub without_components : (n : List ℕ) (ps : PartList) → AreComponents ps → AreComponents (without n ps)
without_components n ps h = record {
  named = all_named-without n ps h.named;
  differ = differ-without n ps h.differ;
  arrays = all_arrays-without n ps h.arrays;
  unplaced = unplaced-without n ps ∙ ap (without n) h.unplaced;
}

-- what a name finds among arrays is an array
pub found_array : (n : List ℕ) (ps : PartList) (c : Tree) → all_arrays ps ≡ true → find n ps ≡ Some c → is_array c ≡ true
found_array n no_parts c h e = absurd (cc e)
found_array n (part m p t ps) c h e =
    let hs = and_parts (is_array t) (all_arrays ps) h in
    by_bool (same_name n m) _
    (λ s. let same : t ≡ c = (let is : Some t ≡ Some c = rw s at e in cc) in rw (← same) hs.0)
    (λ s. found_array n ps c hs.1 (rw s at e))

pub component_array : (n : List ℕ) (t c : Tree) → IsLawful t → component n t ≡ Some c → is_array c ≡ true
component_array n (array a xs) c h e = absurd (cc e)
component_array n (text b xs) c h e = absurd (cc e)
component_array n (field ps xs) c h e = found_array n ps c h.0.components e
component_array n (group ps xs) c h e = absurd (cc e)
component_array n (composite ps xs) c h e = absurd (cc e)
component_array n (series ps xs) c h e = absurd (cc e)

-- only its size can be said against a field of such components
good_field : (ps qs xs : PartList) → AreComponents ps → IsLawful (field qs xs) → refusal (field ps xs) ≡ cond (fits (field ps xs)) None (Some refused.TooLarge)
good_field ps qs xs h k =
    let names = and_parts (all_named qs && differ qs) (all_named xs && differ xs) k.0.names in
    let good : has_good_names (field ps xs) ≡ true = both_true (both_true h.named h.differ) names.1 in
    rw (good, h.arrays) refl

pub remade_ok : (whole : Tree) (ps ys : PartList) (o : Tree) → is_field whole ≡ true → IsLawful whole → AreComponents ps → ys ≡ attributes whole → Makes (field (unplaced ps) (unplaced ys)) (Ok o) → remade whole ps ≡ Ok o
remade_ok (array a xs) ps ys o f k h e made = cc
remade_ok (text b xs) ps ys o f k h e made = cc
remade_ok (field qs xs) ps ys o f k h e made =
    only_large_ok (field ps xs) o (good_field ps qs xs h k) (rw (e, h.unplaced, k.0.positions.1) at made)
remade_ok (group qs xs) ps ys o f k h e made = cc
remade_ok (composite qs xs) ps ys o f k h e made = cc
remade_ok (series qs xs) ps ys o f k h e made = cc

pub remade_large : (whole : Tree) (ps ys : PartList) (g : ObjectError) → is_field whole ≡ true → IsLawful whole → AreComponents ps → ys ≡ attributes whole → Makes (field (unplaced ps) (unplaced ys)) (Err g) → remade whole ps ≡ Err TooLarge
remade_large (array a xs) ps ys g f k h e made = cc
remade_large (text b xs) ps ys g f k h e made = cc
remade_large (field qs xs) ps ys g f k h e made =
    only_large_err (field ps xs) g (good_field ps qs xs h k) (rw (e, h.unplaced, k.0.positions.1) at made)
remade_large (group qs xs) ps ys g f k h e made = cc
remade_large (composite qs xs) ps ys g f k h e made = cc
remade_large (series qs xs) ps ys g f k h e made = cc

-- ---- the components behind Mark and Unmark

saved_components : (found : Option Tree) (ps : PartList) → ((t : Tree) → found ≡ Some t → is_array t ≡ true) → AreComponents ps → AreComponents (with_saved found ps)
saved_components None ps a h = h
saved_components (Some t) ps a h = put_components saved_name t ps (a t refl) h

pub marked_components : (n : List ℕ) (whole c : Tree) → is_field whole ≡ true → IsLawful whole → component n whole ≡ Some c → AreComponents (put data_name c (with_saved (component data_name whole) (parts whole)))
marked_components n whole c f h e =
    put_components data_name c (with_saved (component data_name whole) (parts whole)) (component_array n whole c h e)
    (saved_components (component data_name whole) (parts whole) (λ t is. component_array data_name whole t h is) (components_of whole f h))

data_components : (n : List ℕ) (found : Option Tree) (ps : PartList) → ((t : Tree) → found ≡ Some t → is_array t ≡ true) → AreComponents ps → AreComponents (with_data n found ps)
data_components n (Some t) ps a h = without_components saved_name (put data_name t ps) (put_components data_name t ps (a t refl) h)
data_components n None ps a h =
    by_bool (bytes_eq n data_name) _
    (λ e. rw e h)
    (λ e. rw e (without_components data_name ps h))

restored_components : (n : List ℕ) (ps : PartList) → AreComponents ps → AreComponents (restored n ps)
restored_components n ps h = data_components n (find saved_name ps) ps (λ t is. found_array saved_name ps t h.arrays is) h

pub unmarked_components : (n : List ℕ) (whole c : Tree) → is_field whole ≡ true → IsLawful whole → component data_name whole ≡ Some c → AreComponents (restored n (put n c (parts whole)))
unmarked_components n whole c f h e = restored_components n (put n c (parts whole)) (put_components n c (parts whole) (component_array data_name whole c h e) (components_of whole f h))
