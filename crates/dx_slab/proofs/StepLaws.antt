-- From inputs of which all origins and deltas are ints Slab makes such results.
use Rattle.std.proofs.Common.{◌≡◌, ℕ, zero, suc, ◌+◌, ◌-◌, ◌*◌, ◌<◌, ◌≤◌, pos, List, [], ◌∷◌, get_or, length, drop, true, Option, Some, None, Ok, Err, refl, ap, subst, arith}
use Rattle.std.proofs.lemmas.Bool.{and_parts}
use Rattle.std.specs.Cmp.Derive.{both_true}
use Rattle.std.proofs.lemmas.List.FromFn.{length-map-range_with_len, get_or-map-range_with_len}
use Rattle.dx_base.specs.declared.elem.ElemType.TheVariants.{Int}
use Rattle.dx_base.specs.Elem.{in_range}
use Rattle.dx_base.specs.Array.{ArrayData, Class, plain, constant, regular, grid_positions, grid_connections, product, number, item, items, value, width, origin_of, deltas_of}
use Rattle.dx_base.specs.ArrayLimits.{IsLawfulArray}
use Rattle.dx_base.specs.Object.{Tree, PartList, array, text, field, group, composite, series, no_parts, part, parts}
use Rattle.dx_base.specs.ObjectLimits.{IsLawful, AreLawful, is_field}
use Rattle.dx_base.specs.ObjectNumbers.{are_ints, has_int_steps, steps_by_ints, all_step_by_ints}
use Rattle.dx_arrays.proofs.Fits.{value_in_type}
use Rattle.dx_arrays.proofs.InType.{all-of}
use Rattle.dx_fields.specs.Grids.{point_counts}
use Rattle.dx_objects.specs.Runs.{Values}
use Rattle.dx_objects.specs.Values.{value_at}
use Rattle.dx_object_laws.proofs.PutLaws.{by_bool}
use Rattle.dx_steps.specs.Steps.{all_step, KeepsStepsOfValues}
use Rattle.dx_steps.proofs.ValueLaws.{input_steps, input_lawful}
use Rattle.dx_slab.specs.Answer.{slab_answer, slab_asked}
use Rattle.dx_slab.specs.Answered.{Answered, ◌>>=◌, needed, in_limits, one_result}
use Rattle.dx_slab.specs.Components.{role, cut_array, cut_component, cut_parts, slab, slabs}
use Rattle.dx_slab.specs.Cuts.{cut_class, moved}
use Rattle.dx_slab.specs.Inputs.{field_in, counts_in, asked_in}
use Rattle.dx_slab.specs.Lawful.{AreCounts, IsCutOf, IsAskedOf, PlaysRole, PlayRoles}
use Rattle.dx_slab.specs.declared.cut.Cut.{Cut}
use Rattle.dx_slab.specs.declared.inputs.Asked.{Asked}
use Rattle.dx_slab.specs.declared.inputs.Asked.TheVariants.{One, Each}
use Rattle.dx_slab.specs.declared.role.Role.{Role}
use Rattle.dx_slab.specs.declared.role.Role.TheVariants.{Positions, Connections, OnPoints, OnCells, Other}
use Rattle.dx_slab.proofs.Asking.{asked_of, bound, counts_of}
use Rattle.dx_slab.proofs.Entire.{cut_head, limited}
use Rattle.dx_slab.proofs.Shifting.{points_are, first_item, first_within}

given : {A : Type 0} (o : Option A) (a : A) → needed o ≡ Ok a → o ≡ Some a
given None a e = absurd (cc e)
given (Some b) a e = let same : b ≡ a = cc in ap (λ x. Some x) same

-- ---- the origin of a slab is a point of the grid

item_ints : (a : ArrayData) (i : ℕ) → IsLawfulArray a → i < items a → a.elem ≡ Int → are_ints (item a i) ≡ true
item_ints a i l h e =
    all-of (in_range Int) (item a i) (λ k lt.
    let len = length-map-range_with_len (value a i) 0 (width a) in
    let below : k < width a = omega (arith, len, lt) in
    let at : number (item a i) k ≡ value a i k = get_or-map-range_with_len (value a i) 0 (width a) k k (pos 0) below (omega arith) in
    let typed : in_range Int (value a i k) ≡ true = subst (λ t. in_range t (value a i k) ≡ true) e (value_in_type a i k l h below) in
    rw at typed)

class_steps : (c : Cut) (k : Class) → has_int_steps k ≡ true → are_ints (moved (origin_of k) (deltas_of k) c) ≡ true → has_int_steps (cut_class c k) ≡ true
class_steps c (plain vs) h o = refl
class_steps c (constant n v) h o = refl
class_steps c (regular n f d) h o = h
class_steps c (grid_positions cs f ds) h o = both_true o (and_parts (are_ints f) (are_ints ds) h).1
class_steps c (grid_connections cs) h o = refl

positions_steps : (cs : List ℕ) (c : Cut) (a : ArrayData) → IsCutOf cs c → IsLawfulArray a → point_counts a.class ≡ Some cs → has_int_steps a.class ≡ true → has_int_steps (cut_class c a.class) ≡ true
positions_steps cs c a cut l e h =
    let is = points_are a cs l e in
    let n = c.first * product (drop (suc c.dimension) cs) in
    let within : n < items a = (let lt = first_within cs c cut in rw is.items lt) in
    let same = first_item a cs (origin_of a.class) (deltas_of a.class) c n is cut refl in
    class_steps c a.class h (subst (λ vs. are_ints vs ≡ true) same (item_ints a n l within is.elem))

-- ---- components

array_steps : (cs : List ℕ) (c : Cut) (r : Role) (a : ArrayData) (xs : PartList) → IsCutOf cs c → IsLawfulArray a → PlaysRole cs r (array a xs) → has_int_steps a.class ≡ true → has_int_steps (cut_array cs c r a).class ≡ true
array_steps cs c Positions a xs cut l p h = positions_steps cs c a cut l p h
array_steps cs c Connections a xs cut l p h = refl
array_steps cs c OnPoints a xs cut l p h = refl
array_steps cs c OnCells a xs cut l p h = refl
array_steps cs c Other a xs cut l p h = h

component_steps : (cs : List ℕ) (c : Cut) (r : Role) (t : Tree) → IsCutOf cs c → IsLawful t → PlaysRole cs r t → steps_by_ints t ≡ true → steps_by_ints (cut_component cs c r t) ≡ true
component_steps cs c r (array a xs) cut l p h =
    let hs = and_parts (has_int_steps a.class) (all_step_by_ints xs) h in
    both_true (array_steps cs c r a xs cut l.0 p hs.0) hs.1
component_steps cs c r (text b xs) cut l p h = h
component_steps cs c r (field ps xs) cut l p h = h
component_steps cs c r (group ps xs) cut l p h = h
component_steps cs c r (composite ps xs) cut l p h = h
component_steps cs c r (series ps xs) cut l p h = h

parts_steps : (cs : List ℕ) (c : Cut) (ps : PartList) → IsCutOf cs c → AreLawful ps → PlayRoles cs ps → all_step_by_ints ps ≡ true → all_step_by_ints (cut_parts cs c ps) ≡ true
parts_steps cs c no_parts cut l p h = refl
parts_steps cs c (part n at t ps) cut l p h =
    let hs = and_parts (steps_by_ints t) (all_step_by_ints ps) h in
    let rest = parts_steps cs c ps cut l.3 p.1 hs.1 in
    cut_head cs c n at t ps (λ qs. all_step_by_ints qs ≡ true) rest (both_true (component_steps cs c (role n t) t cut l.2 p.0 hs.0) rest)

slab_steps : (cs : List ℕ) (c : Cut) (whole : Tree) → is_field whole ≡ true → IsCutOf cs c → IsLawful whole → PlayRoles cs (parts whole) → steps_by_ints whole ≡ true → steps_by_ints (slab cs c whole) ≡ true
slab_steps cs c (array a xs) f cut l p h = cc
slab_steps cs c (text b xs) f cut l p h = cc
slab_steps cs c (field ps xs) f cut l p h =
    let hs = and_parts (all_step_by_ints ps) (all_step_by_ints xs) h in
    both_true (parts_steps cs c ps cut l.1 p hs.0) hs.1
slab_steps cs c (group ps xs) f cut l p h = cc
slab_steps cs c (composite ps xs) f cut l p h = cc
slab_steps cs c (series ps xs) f cut l p h = cc

slabs_steps : (cs : List ℕ) (d t : ℕ) (whole : Tree) (q n : ℕ) → AreCounts cs → d < length cs → q + n + t ≤ get_or cs d 0 → is_field whole ≡ true → IsLawful whole → PlayRoles cs (parts whole) → steps_by_ints whole ≡ true →
    all_step_by_ints (slabs cs d t whole q n) ≡ true
slabs_steps cs d t whole q zero k dim h f l p s = refl
slabs_steps cs d t whole q (suc n) k dim h f l p s =
    both_true (slab_steps cs (record { dimension = d; first = q; thickness = t }) whole f (record { counts = k; dimension = dim; end = omega (arith, h) }) l p s)
    (slabs_steps cs d t whole (q + 1) n k dim (omega (arith, h)) f l p s)

asked_steps : (whole : Tree) (cs : List ℕ) (a : Asked) → is_field whole ≡ true → IsAskedOf cs a → IsLawful whole → PlayRoles cs (parts whole) → steps_by_ints whole ≡ true → steps_by_ints (slab_asked whole cs a) ≡ true
asked_steps whole cs (One c) f cut l p s = slab_steps cs c whole f cut l p s
asked_steps whole cs (Each d t) f cut l p s =
    let end = cut.end in
    both_true (slabs_steps cs d t whole 0 (get_or cs d 0 - t) cut.counts cut.dimension (omega (arith, end)) f l p s) refl

-- ---- the call

field_is : (v : Option Tree) (whole : Tree) → field_in v ≡ Some whole → (v ≡ Some whole) × (is_field whole ≡ true)
field_is None whole e = absurd (cc e)
field_is (Some t) whole e =
    by_bool (is_field t) _
    (λ s. let is : Some t ≡ Some whole = rw s at e in let same : t ≡ whole = cc in (is, subst (λ u. is_field u ≡ true) same s))
    (λ s. let is : None ≡ Some whole = rw s at e in absurd (cc is))

one_steps : (there : Answered Tree) (results : Values) → one_result there ≡ Ok results → ((t : Tree) → there ≡ Ok t → steps_by_ints t ≡ true) → all_step results ≡ true
one_steps (Ok t) results e h = let same : Some t ∷ [] ≡ results = cc in subst (λ vs. all_step vs ≡ true) same (both_true (h t refl) refl)
one_steps (Err code) results e h = absurd (cc e)

pub slab_answer_steps : KeepsStepsOfValues slab_answer
slab_answer_steps inputs results lawful h e =
    let asked_for : Tree → List ℕ → Answered Tree = λ whole cs. needed (asked_in cs inputs) >>= λ asked. in_limits (slab_asked whole cs asked) in
    let of_field : Tree → Answered Tree = λ whole. counts_in whole >>= λ cs. asked_for whole cs in
    one_steps (needed (field_in (value_at inputs 0)) >>= of_field) results e
    (λ t is.
    let whole = bound (needed (field_in (value_at inputs 0))) of_field t is in
    let field_of = field_is (value_at inputs 0) whole.0 (given (field_in (value_at inputs 0)) whole.0 whole.1) in
    let cs = bound (counts_in whole.0) (λ ks. asked_for whole.0 ks) t whole.2 in
    let asked = bound (needed (asked_in cs.0 inputs)) (λ a. in_limits (slab_asked whole.0 cs.0 a)) t cs.2 in
    let own : IsLawful whole.0 = input_lawful inputs 0 whole.0 lawful field_of.0 in
    let steps : steps_by_ints whole.0 ≡ true = input_steps inputs 0 whole.0 h field_of.0 in
    let known = counts_of whole.0 cs.0 field_of.1 own cs.1 in
    let cut = asked_of cs.0 inputs asked.0 known.0 (given (asked_in cs.0 inputs) asked.0 asked.1) in
    let made : t ≡ slab_asked whole.0 cs.0 asked.0 = limited (slab_asked whole.0 cs.0 asked.0) t asked.2 in
    rw made (asked_steps whole.0 cs.0 asked.0 field_of.1 cut own known.1 steps))
