-- From inputs of which all origins and deltas are ints Compute makes such an object.
use Rattle.std.proofs.Common.{◌≡◌, ℕ, zero, suc, ◌+◌, Bool, true, false, List, [], ◌∷◌, Option, Some, None, Ok, Err, drop, refl, sym, ap, subst, ◌∙◌}
use Rattle.std.specs.Prelude.{map, ◌&&◌, if◌then◌else◌}
use Rattle.std.specs.List.{list_all, range_with_len}
use Rattle.dx_base.specs.declared.code.Code.TheVariants as code
use Rattle.dx_base.specs.Array.{ArrayData}
use Rattle.dx_base.specs.Object.{Tree, PartList, array, text, field, group, composite, series, no_parts, part, parts, attributes}
use Rattle.dx_base.specs.ObjectLimits.{fits, is_field}
use Rattle.dx_base.specs.ObjectMembers as members
use Rattle.dx_base.specs.ObjectNames.{with_component}
use Rattle.dx_base.specs.ObjectNumbers.{steps_by_ints, all_step_by_ints, has_int_steps}
use Rattle.dx_objects.specs.Kinds as kinds
use Rattle.dx_objects.specs.Values.{value_at}
use Rattle.dx_steps.specs.Steps.{value_steps, all_step, KeepsSteps}
use Rattle.dx_steps.proofs.PartLaws.{parts_steps, attributes_steps, find_steps, with_steps, placed_steps, either_steps}
use Rattle.dx_expr_grammar.specs.declared.tree.Expression.{Expression}
use Rattle.dx_expr.specs.Shape.{shape_of}
use Rattle.dx_expr.specs.Uses.{uses}
use Rattle.dx_expr_eval.specs.Items.{all_values}
use Rattle.dx_compute_meaning.specs.Answered.{Answered, ◌>>=◌, or_refused, collected}
use Rattle.dx_compute_meaning.specs.Arrays.{Arrays, data_name, stands_for, arrays_for, item_count, item_counts, given, or_code, array_of, computed, int_array}
use Rattle.dx_compute_meaning.specs.Compute.{answer, answer_within, over_arrays, over_groups, finished, placed, in_place_of, with_data, limited, in_limits, remade, first_field, as_field, or_next, has_items}
use Rattle.dx_compute_meaning.specs.Expressions.{expression_in}
use Rattle.dx_compute_meaning.specs.Operands.{Operands, occurring, if_used, used, all_given, groups, as_group, before_groups, has_members, member_count, are_all, at_place, all_at_place, object_at}

and_of : (a b : Bool) → (a && b) ≡ true → (a ≡ true) × (b ≡ true)
and_of true true h = (refl, refl)
and_of true false h = absurd cc
and_of false b h = absurd cc

and_to : {a b : Bool} → a ≡ true → b ≡ true → (a && b) ≡ true
and_to p q = rw (p, q) refl

made_of : {A B : Type 0} (o : Answered A) (f : A → Answered B) (b : B) → (o >>= f) ≡ Ok b → (a : A) × (o ≡ Ok a) × (f a ≡ Ok b)
made_of (Ok a) f b h = (a, refl, h)
made_of (Err c) f b h = absurd cc

-- what an answer gives, if it gives something
abbrev Gives : (Tree → Type 0) → Answered Tree → Type 0
Gives P o = (t : Tree) → o ≡ Ok t → P t

abbrev Steps : Tree → Type 0
Steps t = steps_by_ints t ≡ true

limits_step : (u : Tree) → Steps u → Gives Steps (in_limits u)
limits_step u h t e = by (fits u) e
  where
    by : (b : Bool) → (if b then Ok u else Err code.TooLarge) ≡ Ok t → Steps t
    by true e = let same : u ≡ t = cc in subst Steps same h
    by false e = absurd cc

-- ---- arrays and fields

stands_step : (t before : Tree) → Steps t → stands_for t ≡ Some before → Steps before
stands_step (array a xs) before h e = let same : array a xs ≡ before = cc in subst Steps same h
stands_step (text b xs) before h e = absurd cc
stands_step (field ps xs) before h e = find_steps data_name ps before (and_of (all_step_by_ints ps) (all_step_by_ints xs) h).0 e
stands_step (group ps xs) before h e = absurd cc
stands_step (composite ps xs) before h e = absurd cc
stands_step (series ps xs) before h e = absurd cc

-- an array whose class has no steps
abbrev IsPlain : ArrayData → Type 0
IsPlain a = has_int_steps a.class ≡ true

data_step : (a : ArrayData) (before whole : Tree) → IsPlain a → Steps before → Steps whole → Gives Steps (with_data a before whole)
data_step a before whole p h g t e = by (with_component data_name (array a (attributes before)) whole) refl e
  where
    by : (o : Option Tree) → with_component data_name (array a (attributes before)) whole ≡ o → or_refused code.NoComponent o ≡ Ok t → Steps t
    by None is e = absurd cc
    by (Some u) is e = let same : u ≡ t = cc in subst Steps same (with_steps data_name (array a (attributes before)) whole u (and_to p (attributes_steps before h)) g is)

in_place_step : (n : ℕ) (a : ArrayData) (whole : Tree) → IsPlain a → Steps whole → (o : Option Tree) → stands_for whole ≡ o → Gives Steps (in_place_of n a whole o)
in_place_step n a whole p g None is t e = absurd cc
in_place_step n a whole p g (Some before) is t e = by (has_items n (kinds.array_of before)) e
  where
    by : (b : Bool) → (if b then with_data a before whole else Err code.ItemMismatch) ≡ Ok t → Steps t
    by true e = data_step a before whole p (stands_step whole before g is) g t e
    by false e = absurd cc

placed_step : (n : ℕ) (a : ArrayData) (o : Option Tree) → IsPlain a → ((t : Tree) → o ≡ Some t → Steps t) → Gives Steps (placed n a o)
placed_step n a None p h t e = let same : array a no_parts ≡ t = cc in subst Steps same (and_to p refl)
placed_step n a (Some whole) p h t e = in_place_step n a whole p (h whole refl) (stands_for whole) refl t e

field_step : (v : Option Tree) (t : Tree) → value_steps v ≡ true → as_field v ≡ Some t → Steps t
field_step None t h e = absurd cc
field_step (Some u) t h e = by (is_field u) e
  where
    by : (b : Bool) → (if b then Some u else None) ≡ Some t → Steps t
    by true e = let same : u ≡ t = cc in subst Steps same h
    by false e = absurd cc

first_step : (vs : Operands) (t : Tree) → all_step vs ≡ true → first_field vs ≡ Some t → Steps t
first_step [] t h e = absurd cc
first_step (v ∷ vs) t h e = by (as_field v) refl (first_step vs t) e
  where
    by : (o : Option Tree) → as_field v ≡ o → (all_step vs ≡ true → first_field vs ≡ Some t → Steps t) → or_next o (first_field vs) ≡ Some t → Steps t
    by None is ih e = ih (and_of (value_steps v) (all_step vs) h).1 e
    by (Some u) is ih e = field_step v t (and_of (value_steps v) (all_step vs) h).0 (is ∙ e)

computed_plain : (e : Expression) (arrays : Arrays) (a : ArrayData) → computed e arrays ≡ Ok a → IsPlain a
computed_plain e arrays a h = by (are_all (item_count arrays) (item_counts arrays)) h
  where
    by : (b : Bool) → (if b then (or_refused code.ItemMismatch (shape_of (given arrays).shape e) >>= λ s. array_of e arrays (item_count arrays) s) else Err code.ItemMismatch) ≡ Ok a → IsPlain a
    by true h =
        let s = made_of (or_refused code.ItemMismatch (shape_of (given arrays).shape e)) (λ s. array_of e arrays (item_count arrays) s) a h in
        let v = made_of (or_code (all_values (given arrays) e (item_count arrays))) (λ vs. Ok (int_array s.0 vs)) a s.2 in
        let same : int_array s.0 v.0 ≡ a = let g = v.2 in cc in
        subst IsPlain same refl
    by false h = absurd cc

arrays_step : (e : Expression) (vs : Operands) → all_step vs ≡ true → Gives Steps (over_arrays e vs)
arrays_step e vs h t is =
    let arrays = made_of (arrays_for vs) (λ arrays. finished (item_count arrays) (first_field vs) (computed e arrays)) t is in
    let a = made_of (computed e arrays.0) (λ a. limited (placed (item_count arrays.0) a (first_field vs))) t arrays.2 in
    let u = made_of (placed (item_count arrays.0) a.0 (first_field vs)) in_limits t a.2 in
    limits_step u.0 (placed_step (item_count arrays.0) a.0 (first_field vs) (computed_plain e arrays.0 a.0 a.1) (λ w. first_step vs w h) u.0 u.1) t u.2

-- ---- groups and series

object_step : (ps : PartList) (i : ℕ) → all_step_by_ints ps ≡ true → value_steps (object_at ps i) ≡ true
object_step no_parts i h = refl
object_step (part n p t ps) zero h = (and_of (steps_by_ints t) (all_step_by_ints ps) h).0
object_step (part n p t ps) (suc i) h = object_step ps i (and_of (steps_by_ints t) (all_step_by_ints ps) h).1

place_step : (i : ℕ) (v : Option Tree) → value_steps v ≡ true → value_steps (at_place i v) ≡ true
place_step i None h = refl
place_step i (Some t) h = by (has_members t)
  where
    by : (b : Bool) → value_steps (if b then object_at (parts t) i else Some t) ≡ true
    by true = object_step (parts t) i (parts_steps t h)
    by false = h

places_step : (i : ℕ) (vs : Operands) → all_step vs ≡ true → all_step (all_at_place i vs) ≡ true
places_step i [] h = refl
places_step i (v ∷ vs) h = let both = and_of (value_steps v) (all_step vs) h in and_to (place_step i v both.0) (places_step i vs both.1)

collected_step : (f : ℕ → Answered Tree) → ((i : ℕ) → Gives Steps (f i)) → (ks : List ℕ) (ts : List Tree) → collected (map f ks) ≡ Ok ts → list_all steps_by_ints ts ≡ true
collected_step f each [] ts h = let same : [] ≡ ts = cc in ap (list_all steps_by_ints) (sym same)
collected_step f each (k ∷ ks) ts h =
    let t = made_of (f k) (λ x. collected (map f ks) >>= λ xs. Ok (x ∷ xs)) ts h in
    let us = made_of (collected (map f ks)) (λ xs. Ok (t.0 ∷ xs)) ts t.2 in
    let same : t.0 ∷ us.0 ≡ ts = let g = us.2 in cc in
    ap (list_all steps_by_ints) (sym same) ∙ and_to (each k t.0 t.1) (collected_step f each ks us.0 us.1)

remade_step : (t : Tree) (ts : List Tree) → Steps t → list_all steps_by_ints ts ≡ true → Steps (remade t ts)
remade_step (array a xs) ts h g = h
remade_step (text b xs) ts h g = h
remade_step (field ps xs) ts h g = h
remade_step (group ps xs) ts h g = let both = and_of (all_step_by_ints ps) (all_step_by_ints xs) h in and_to (placed_steps ps ts both.0 g) both.1
remade_step (composite ps xs) ts h g = let both = and_of (all_step_by_ints ps) (all_step_by_ints xs) h in either_steps (members.placed ps ts) xs (placed_steps ps ts both.0 g) both.1
remade_step (series ps xs) ts h g = let both = and_of (all_step_by_ints ps) (all_step_by_ints xs) h in and_to (placed_steps ps ts both.0 g) both.1

group_step : (v : Option Tree) → value_steps v ≡ true → value_steps (as_group v) ≡ true
group_step None h = refl
group_step (Some t) h = by (has_members t)
  where
    by : (b : Bool) → value_steps (if b then Some t else None) ≡ true
    by true = h
    by false = refl

groups_step : (vs : Operands) → all_step vs ≡ true → list_all steps_by_ints (groups vs) ≡ true
groups_step [] h = refl
groups_step (v ∷ vs) h = by (as_group v) (group_step v (and_of (value_steps v) (all_step vs) h).0) (groups_step vs (and_of (value_steps v) (all_step vs) h).1)
  where
    by : (o : Option Tree) → value_steps o ≡ true → list_all steps_by_ints (groups vs) ≡ true → list_all steps_by_ints (before_groups o (groups vs)) ≡ true
    by None one rest = rest
    by (Some t) one rest = and_to one rest

over_step : (f : ℕ → Answered Tree) (gs : List Tree) (this : Answered Tree) → ((i : ℕ) → Gives Steps (f i)) → list_all steps_by_ints gs ≡ true → Gives Steps this → Gives Steps (over_groups f gs this)
over_step f [] this each h here t e = here t e
over_step f (g ∷ gs) this each h here t e = by (are_all (member_count g) (map member_count (g ∷ gs))) e
  where
    by : (b : Bool) → (if b then (collected (map f (range_with_len 0 (member_count g))) >>= λ ts. in_limits (remade g ts)) else Err code.ItemMismatch) ≡ Ok t → Steps t
    by true e =
        let ts = made_of (collected (map f (range_with_len 0 (member_count g)))) (λ ts. in_limits (remade g ts)) t e in
        limits_step (remade g ts.0) (remade_step g ts.0 (and_of (steps_by_ints g) (list_all steps_by_ints gs) h).0 (collected_step f each (range_with_len 0 (member_count g)) ts.0 ts.1)) t ts.2
    by false e = absurd cc

checked_step : (b : Bool) (o : Answered Tree) → Gives Steps o → Gives Steps (if b then o else Err code.BadArgument)
checked_step true o h t e = h t e
checked_step false o h t e = absurd cc

within_step : (n : ℕ) (e : Expression) (vs : Operands) → all_step vs ≡ true → Gives Steps (answer_within n e vs)
within_step zero e vs h = checked_step (all_given (used e) vs) (over_arrays e vs) (arrays_step e vs h)
within_step (suc n) e vs h =
    checked_step (all_given (used e) vs) (over_groups (λ i. answer_within n e (all_at_place i vs)) (groups vs) (over_arrays e vs))
    (over_step (λ i. answer_within n e (all_at_place i vs)) (groups vs) (over_arrays e vs) (λ i. within_step n e (all_at_place i vs) (places_step i vs h)) (groups_step vs h) (arrays_step e vs h))

-- ---- the whole

used_step : (e : Expression) (k : ℕ) (v : Option Tree) → value_steps v ≡ true → value_steps (if_used e k v) ≡ true
used_step e k v h = by (uses k e)
  where
    by : (b : Bool) → value_steps (if b then v else None) ≡ true
    by true = h
    by false = refl

occurring_step : (e : Expression) (k : ℕ) (vs : Operands) → all_step vs ≡ true → all_step (occurring e k vs) ≡ true
occurring_step e k [] h = refl
occurring_step e k (v ∷ vs) h = let both = and_of (value_steps v) (all_step vs) h in and_to (used_step e k v both.0) (occurring_step e (k + 1) vs both.1)

behind_step : (vs : Operands) → all_step vs ≡ true → all_step (drop 1 vs) ≡ true
behind_step [] h = refl
behind_step (v ∷ vs) h = (and_of (value_steps v) (all_step vs) h).1

pub answer_steps : KeepsSteps answer
answer_steps inputs results h is =
    let e = made_of (expression_in (value_at inputs 0)) (λ e. answer_within 64 e (occurring e 0 (drop 1 inputs)) >>= λ t. Ok (Some t ∷ [])) results is in
    let t = made_of (answer_within 64 e.0 (occurring e.0 0 (drop 1 inputs))) (λ t. Ok (Some t ∷ [])) results e.2 in
    let same : Some t.0 ∷ [] ≡ results = let g = t.2 in cc in
    ap all_step (sym same) ∙ and_to (within_step 64 e.0 (occurring e.0 0 (drop 1 inputs)) (occurring_step e.0 0 (drop 1 inputs) (behind_step inputs h)) t.0 t.1) refl
