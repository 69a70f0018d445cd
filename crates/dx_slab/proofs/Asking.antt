-- What is known of a field, and of the slabs that are asked for, where the inputs aren't refused.
use Rattle.std.proofs.Common.{◌≡◌, ℕ, suc, ◌+◌, ◌-◌, ◌<◌, ◌≤◌, ℤ, pos, negsuc, List, length, get_or, true, Option, Some, None, Ok, Err, refl, ap, subst, ◌∙◌, arith}
use Rattle.std.specs.Prelude.{nat_le, nat_lt, ◌&&◌}
use Rattle.std.proofs.lemmas.Bool.{and_parts, leb-true}
use Rattle.dx_base.specs.declared.code.Code.TheVariants.{BadField, NotRegular}
use Rattle.dx_base.specs.Object.{Tree, PartList, array, text, field, group, composite, series, parts}
use Rattle.dx_base.specs.ObjectLimits.{IsLawful, is_field, all_named, differ}
use Rattle.dx_base.specs.ObjectNames.{find, component}
use Rattle.dx_base.specs.ObjectNumbers.{as_number}
use Rattle.dx_fields.specs.declared.check.FieldFault.{FieldFault}
use Rattle.dx_fields.specs.Faults.{field_fault}
use Rattle.dx_fields.specs.Grids.{positions_name, connections_name, points_of, without_ones, are_joined, grid_counts}
use Rattle.dx_objects.specs.Kinds.{text_of}
use Rattle.dx_objects.specs.Runs.{Values}
use Rattle.dx_objects.specs.Values.{value_at}
use Rattle.dx_object_laws.proofs.PutLaws.{by_bool}
use Rattle.dx_slab.specs.Answered.{Answered, ◌>>=◌, or_refused}
use Rattle.dx_slab.specs.Components.{data_name}
use Rattle.dx_slab.specs.Inputs.{counts_in, grid_in, with_data, unless_fault, none_refers, has_data_for, either_of, below, dimension_in, position_in, thickness_in, placed, asked_by, asked_in}
use Rattle.dx_slab.specs.Lawful.{AreCounts, IsAskedOf, PlayRoles}
use Rattle.dx_slab.specs.declared.inputs.Asked.{Asked}
use Rattle.dx_slab.specs.declared.inputs.Asked.TheVariants.{One, Each}
use Rattle.dx_slab.proofs.Playing.{by_option, IsGridOf, is_found, found_lawful, are_counts_of, plays}

pub bound : {A B : Type 0} (there : Answered A) (f : A → Answered B) (b : B) → (there >>= f) ≡ Ok b → (a : A) × (there ≡ Ok a) × (f a ≡ Ok b)
bound (Ok a) f b e = (a, refl, e)
bound (Err code) f b e = absurd (cc e)

-- ---- the slabs

placed_of : (cs : List ℕ) (d t : ℕ) (at : Option ℤ) (a : Asked) → d < length cs → AreCounts cs → placed (get_or cs d 0) d t at ≡ Some a → IsAskedOf cs a
placed_of cs d t None a h k e =
    let p = get_or cs d 0 in
    let some : 0 < p = k.some d 0 h in
    by_bool (nat_le t (p - 1)) _
    (λ s. let is : Some (Each d t) ≡ Some a = rw s at e in let same : Each d t ≡ a = cc in
    let low : t ≤ p - 1 = leb-true t (p - 1) s in
    subst (IsAskedOf cs) same (record { counts = k; dimension = h; end = omega (arith, low, some) }))
    (λ s. let is : None ≡ Some a = rw s at e in absurd (cc is))
placed_of cs d t (Some (pos q)) a h k e =
    let p = get_or cs d 0 in
    let some : 0 < p = k.some d 0 h in
    by_bool (nat_le (q + t) (p - 1)) _
    (λ s. let is : Some (One (record { dimension = d; first = q; thickness = t })) ≡ Some a = rw s at e in let same : One (record { dimension = d; first = q; thickness = t }) ≡ a = cc in
    let low : q + t ≤ p - 1 = leb-true (q + t) (p - 1) s in
    subst (IsAskedOf cs) same (record { counts = k; dimension = h; end = omega (arith, low, some) }))
    (λ s. let is : None ≡ Some a = rw s at e in absurd (cc is))
placed_of cs d t (Some (negsuc q)) a h k e = absurd (cc e)

asked_from : (cs : List ℕ) (dimension : Option ℕ) (at : Option (Option ℤ)) (t : Option ℕ) (a : Asked) → ((d : ℕ) → dimension ≡ Some d → d < length cs) → AreCounts cs → asked_by cs dimension at t ≡ Some a → IsAskedOf cs a
asked_from cs None at t a h k e = absurd (cc e)
asked_from cs (Some d) None t a h k e = absurd (cc e)
asked_from cs (Some d) (Some at) None a h k e = absurd (cc e)
asked_from cs (Some d) (Some at) (Some t) a h k e = placed_of cs d t at a (h d refl) k e

below_lt : (n : ℕ) (o : Option ℕ) (d : ℕ) → below n o ≡ Some d → d < n
below_lt n None d e = absurd (cc e)
below_lt n (Some k) d e =
    by_bool (nat_lt k n) _
    (λ s. let is : Some k ≡ Some d = rw s at e in let same : k ≡ d = cc in subst (λ m. m < n) same (leb-true (suc k) n s))
    (λ s. let is : None ≡ Some d = rw s at e in absurd (cc is))

dimension_lt : (n : ℕ) (v : Option Tree) (d : ℕ) → dimension_in n v ≡ Some d → d < n
dimension_lt n None d e = absurd (cc e)
dimension_lt n (Some t) d e = below_lt n (either_of (as_number t) (text_of t)) d e

pub asked_of : (cs : List ℕ) (inputs : Values) (a : Asked) → AreCounts cs → asked_in cs inputs ≡ Some a → IsAskedOf cs a
asked_of cs inputs a k e =
    asked_from cs (dimension_in (length cs) (value_at inputs 1)) (position_in (value_at inputs 2)) (thickness_in (value_at inputs 3)) a (dimension_lt (length cs) (value_at inputs 1)) k e

-- ---- the field

grid_facts : (ps xs : PartList) (cs : List ℕ) → grid_counts (field ps xs) ≡ Some cs →
    (points : Tree) × (find positions_name ps ≡ Some points) × (points_of points ≡ Some cs) × (are_joined (without_ones cs) (find connections_name ps) ≡ true)
grid_facts ps xs cs h =
    by_option (find positions_name ps) _
    (λ e. let is : None ≡ Some cs = rw e at h in absurd (cc is))
    (λ points e. by_option (points_of points) _
    (λ f. let is : None ≡ Some cs = rw (e, f) at h in absurd (cc is))
    (λ ks f. by_bool (are_joined (without_ones ks) (find connections_name ps)) _
    (λ j. let is : Some ks ≡ Some cs = rw (e, f, j) at h in let same : ks ≡ cs = cc in
    (points, e, f ∙ ap (λ k. Some k) same, subst (λ k. are_joined (without_ones k) (find connections_name ps) ≡ true) same j))
    (λ j. let is : None ≡ Some cs = rw (e, f, j) at h in absurd (cc is))))

refused_or : (o : Option (List ℕ)) (cs : List ℕ) → or_refused NotRegular o ≡ Ok cs → o ≡ Some cs
refused_or None cs e = absurd (cc e)
refused_or (Some ks) cs e = let same : ks ≡ cs = cc in ap (λ k. Some k) same

grid_is : (whole : Tree) (ks : List ℕ) → grid_in whole ≡ Ok ks → grid_counts whole ≡ Some ks
grid_is whole ks e =
    by_bool (none_refers (parts whole)) _
    (λ s. refused_or (grid_counts whole) ks (rw s at e))
    (λ s. let is : Err NotRegular ≡ Ok ks = rw s at e in absurd (cc is))

data_is : (whole : Tree) (ks cs : List ℕ) → with_data whole ks ≡ Ok cs → (has_data_for (component data_name whole) (component positions_name whole) ≡ true) × (ks ≡ cs)
data_is whole ks cs e =
    by_bool (has_data_for (component data_name whole) (component positions_name whole)) _
    (λ s. let is : Ok ks ≡ Ok cs = rw s at e in (s, cc))
    (λ s. let is : Err BadField ≡ Ok cs = rw s at e in absurd (cc is))

fault_none : (o : Option FieldFault) (there : Answered (List ℕ)) (cs : List ℕ) → unless_fault o there ≡ Ok cs → (o ≡ None) × (there ≡ Ok cs)
fault_none None there cs e = (refl, e)
fault_none (Some f) there cs e = absurd (cc e)

pub counts_of : (whole : Tree) (cs : List ℕ) → is_field whole ≡ true → IsLawful whole → counts_in whole ≡ Ok cs → AreCounts cs × PlayRoles cs (parts whole)
counts_of (array a xs) cs f l e = cc
counts_of (text b xs) cs f l e = cc
counts_of (group ps xs) cs f l e = cc
counts_of (composite ps xs) cs f l e = cc
counts_of (series ps xs) cs f l e = cc
counts_of (field ps xs) cs f l e =
    let whole : Tree = field ps xs in
    let sound = fault_none (field_fault whole) (grid_in whole >>= with_data whole) cs e in
    let grid = bound (grid_in whole) (with_data whole) cs sound.1 in
    let regular : grid_counts whole ≡ Some grid.0 = grid_is whole grid.0 grid.1 in
    let held = data_is whole grid.0 cs grid.2 in
    let facts = grid_facts ps xs cs (regular ∙ ap (λ k. Some k) held.1) in
    let g : IsGridOf ps xs cs = record { points = facts.0; found = facts.1; counts = facts.2; joined = facts.3; fits = held.0 } in
    let names = and_parts (all_named ps && differ ps) (all_named xs && differ xs) l.0.names in
    let own = (and_parts (all_named ps) (differ ps) names.0).1 in (
      are_counts_of facts.0 cs (found_lawful positions_name ps facts.0 l.1 facts.1) facts.2,
      plays ps xs cs g ps l.0.components sound.0 (is_found positions_name ps own) (is_found connections_name ps own) (is_found data_name ps own),
    )

-- the points and the cells of a field whose counts are found
pub grid_of : (ps xs : PartList) (cs : List ℕ) → counts_in (field ps xs) ≡ Ok cs →
    (points : Tree) × (find positions_name ps ≡ Some points) × (points_of points ≡ Some cs) × (are_joined (without_ones cs) (find connections_name ps) ≡ true)
grid_of ps xs cs e =
    let whole : Tree = field ps xs in
    let sound = fault_none (field_fault whole) (grid_in whole >>= with_data whole) cs e in
    let grid = bound (grid_in whole) (with_data whole) cs sound.1 in
    let held = data_is whole grid.0 cs grid.2 in
    grid_facts ps xs cs (grid_is whole grid.0 grid.1 ∙ ap (λ k. Some k) held.1)
