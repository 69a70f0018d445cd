-- A lawful object is one that can be written: its names, its positions and its arrays.
use Rattle.std.proofs.Common.{◌≡◌, ℕ, zero, suc, ◌+◌, ◌-◌, ◌<◌, ◌≤◌, ◌^◌, Bool, true, false, cond, List, [], ◌∷◌, ◌++◌, length, Option, Some, None, ℤ, pos, append-nil, refl, sym, ap, ◌∙◌, subst, arith}
use Rattle.std.specs.Prelude.{bytes_eq, codes, is_some, is_none, ◌&&◌, ◌||◌}
use Rattle.std.specs.List.{list_any}
use Rattle.std.proofs.lemmas.Bool.{and_parts}
use Rattle.std.proofs.lemmas.List.Folds.{list_any-append}
use Rattle.std.proofs.lemmas.Slice.Eq.{bytes_eq-Decides}
use Rattle.dx_base.specs.declared.elem.ElemType.TheVariants.{Int}
use Rattle.dx_base.specs.Array.{ArrayData}
use Rattle.dx_base.specs.ArrayLimits.{IsLawfulArray}
use Rattle.dx_base.specs.Elem.{in_range}
use Rattle.dx_base.specs.Object.{Tree, PartList, array, text, field, group, composite, series, no_parts, part}
use Rattle.dx_base.specs.ObjectNames.{find}
use Rattle.dx_base.specs.ObjectLimits.{IsLawful, AreLawful, all_named, none_named, differ, lacks, unplaced}
use Rattle.dx_arrays.proofs.InType.{plain_in_type}
use Rattle.dx_native_grammar.specs.declared.clause.ListClass.{ListClass}
use Rattle.dx_native_grammar.specs.declared.clause.ListClass.TheVariants as listing
use Rattle.dx_native_grammar.specs.Words.{int_low, int_high}
use Rattle.dx_native_grammar.specs.Names.{name_before}
use Rattle.dx_native_law.proofs.LaidLines.{number_data}
use Rattle.dx_native_text.specs.Inline.{Inline, as_text, as_number, inline_of, inline_number, int_of}
use Rattle.dx_native_text.specs.Text.{unless_inline, many, parts_many, values_many, last_of}
use Rattle.dx_native_law.proofs.Numbers.{decimal_no_file}
use Rattle.dx_native_law.proofs.Stands.{IsIn}
use Rattle.dx_native_law.proofs.Listings.{name_of, IsGiven, AreGiven}
use Rattle.dx_native_law.proofs.Parts.{IsPart, AreParts}
use Rattle.dx_native_law.proofs.Objects.{isnt_by, IsGood, IsGoodValue, AreGoodParts, AreGoodValues}
use Rattle.dx_native_law.proofs.Means.{int_again, some_many}
use Rattle.dx_native_law.proofs.Again.{is_in, lawful_again}
use Rattle.dx_native_law.proofs.Ints.{HasInts, HasIntsAll, HaveInts}

-- ---- names

no_file : (k : ℕ) → k < 2 ^ 64 → bytes_eq (name_of k) (codes "file") ≡ false
no_file k h = isnt_by (bytes_eq (name_of k) (codes "file")) (name_of k ≡ codes "file") (bytes_eq-Decides (name_of k) (codes "file")) (decimal_no_file k h)

-- no name to come is one of these
abbrev Apart : List (List ℕ) → PartList → Type 0
Apart names no_parts = Unit {0}
Apart names (part None p t ps) = Apart names ps
Apart names (part (Some m) p t ps) = (list_any (bytes_eq m) names ≡ false) × Apart names ps

found_by : (b : Bool) (t : Tree) (o : Option Tree) → cond b (Some t) o ≡ None → (b ≡ false) × (o ≡ None)
found_by true t o h = absurd cc
found_by false t o h = (refl, h)

other_way : (n m : List ℕ) → bytes_eq n m ≡ false → bytes_eq m n ≡ false
other_way n m h = isnt_by (bytes_eq m n) (m ≡ n) (bytes_eq-Decides m n) (λ e. let x : bytes_eq n m ≡ true = (bytes_eq-Decides n m).1 (sym e) in absurd (let z : true ≡ false = sym x ∙ h in cc))

apart_push : (n : List ℕ) (names : List (List ℕ)) (ps : PartList) → Apart names ps → find n ps ≡ None → Apart (names ++ n ∷ []) ps
apart_push n names no_parts h f = tt
apart_push n names (part None p t ps) h f = apart_push n names ps h f
apart_push n names (part (Some m) p t ps) h f =
    let q = found_by (bytes_eq n m) t (find n ps) f in
    (list_any-append (bytes_eq m) names (n ∷ []) ∙ ap (λ b. b || (bytes_eq m n || false)) h.0 ∙ ap (λ b. b || false) (other_way n m q.0), apart_push n names ps h.1 q.1)

none_apart : (ps : PartList) → Apart [] ps
none_apart no_parts = tt
none_apart (part None p t ps) = none_apart ps
none_apart (part (Some m) p t ps) = (refl, none_apart ps)

is_none_of : (o : Option Tree) → is_none o ≡ true → o ≡ None
is_none_of None h = refl
is_none_of (Some t) h = absurd cc

apart_next : (n : Option (List ℕ)) (names : List (List ℕ)) (ps : PartList) → Apart names ps → lacks n ps ≡ true → Apart (names ++ name_before n []) ps
apart_next None names ps h l = subst (λ (ns : List (List ℕ)). Apart ns ps) (sym (append-nil names)) h
apart_next (Some n) names ps h l = apart_push n names ps h (is_none_of (find n ps) l)

-- ---- attributes

int_in : (z : ℤ) → IsLawfulArray (number_data z) → IsIn int_low int_high z
int_in z h =
    let all = plain_in_type Int [] (z ∷ []) (omega arith) refl ∙ h.in_type in
    is_in Int z (and_parts (in_range Int z) true all).0

given_good : (t : Tree) (v : Option Inline) (j : ℕ) → IsLawful t → inline_of t ≡ v → (v ≡ None → j < 2 ^ 64) → IsGiven v j
given_good t None j h e next = no_file j (next refl)
given_good t (Some (as_text b)) j h e next = tt
given_good (array a no_parts) (Some (as_number z)) j h e next = int_in z (subst IsLawfulArray (sym (int_again a.elem a.extents a.class z e)) h.0)
given_good (array a (part n p t xs)) (Some (as_number z)) j h e next = absurd cc
given_good (text b no_parts) (Some (as_number z)) j h e next = absurd cc
given_good (text b (part n p t xs)) (Some (as_number z)) j h e next = absurd cc
given_good (field ps xs) (Some (as_number z)) j h e next = absurd cc
given_good (group ps xs) (Some (as_number z)) j h e next = absurd cc
given_good (composite ps xs) (Some (as_number z)) j h e next = absurd cc
given_good (series ps xs) (Some (as_number z)) j h e next = absurd cc

below_if : (v : Option Inline) (k m r : ℕ) → v ≡ None → k + (unless_inline v m + r) < 2 ^ 64 → k + m - 1 < 2 ^ 64
below_if None k m r e h = omega arith
below_if (Some v) k m r e h = absurd cc

attributes_good : (xs : PartList) (names : List (List ℕ)) (k : ℕ) → all_named xs ≡ true → differ xs ≡ true → Apart names xs → AreLawful xs → k + values_many xs < 2 ^ 64 → AreGiven names xs k
attributes_good no_parts names k a d g h b = tt
attributes_good (part None p t xs) names k a d g h b = absurd (let q = (and_parts false (all_named xs) a).0 in cc)
attributes_good (part (Some n) p t xs) names k a d g h b =
    let v = inline_of t in
    let after = k + unless_inline v (many t) in
    let e = and_parts (is_none (find n xs)) (differ xs) d in (
      g.0,
      given_good t v (last_of k (many t)) h.2 refl (λ none. below_if v k (many t) (values_many xs) none b),
      attributes_good xs (names ++ n ∷ []) after (and_parts true (all_named xs) a).1 e.1 (apart_push n names xs g.1 (is_none_of (find n xs) e.0)) h.3 (omega arith),
    )

-- ---- parts

-- what the names and positions of parts have to be
abbrev IsListed : ListClass → PartList → Type 0
IsListed listing.Field ps = (all_named ps ≡ true) × (differ ps ≡ true) × (unplaced ps ≡ ps)
IsListed listing.Group ps = (differ ps ≡ true) × (unplaced ps ≡ ps)
IsListed listing.Composite ps = (differ ps ≡ true) × (unplaced ps ≡ ps)
IsListed listing.Series ps = none_named ps ≡ true

part_good : (K : ListClass) (n : Option (List ℕ)) (p : ℤ) (t : Tree) (ps : PartList) (names : List (List ℕ)) (i : ℕ) → IsListed K (part n p t ps) → Apart names (part n p t ps) → in_range Int p ≡ true → i < 10000000000 → IsPart K names i n p
part_good listing.Field None p t ps names i h g r s = absurd (let q = (and_parts false (all_named ps) h.0).0 in cc)
part_good listing.Field (Some n) p t ps names i h g r s = let u = h.2 in let z : pos 0 ≡ p = cc in (g.0, z)
part_good listing.Group None p t ps names i h g r s = let u = h.1 in let z : pos 0 ≡ p = cc in (s, z)
part_good listing.Composite None p t ps names i h g r s = let u = h.1 in let z : pos 0 ≡ p = cc in (s, z)
part_good listing.Group (Some n) p t ps names i h g r s = let u = h.1 in let z : pos 0 ≡ p = cc in (g.0, z)
part_good listing.Composite (Some n) p t ps names i h g r s = let u = h.1 in let z : pos 0 ≡ p = cc in (g.0, z)
part_good listing.Series None p t ps names i h g r s = (s, is_in Int p r)
part_good listing.Series (Some n) p t ps names i h g r s = absurd (let q = (and_parts false (none_named ps) h).0 in cc)

apart_tail : (n : Option (List ℕ)) (p : ℤ) (t : Tree) (ps : PartList) (names : List (List ℕ)) → Apart names (part n p t ps) → Apart names ps
apart_tail None p t ps names h = h
apart_tail (Some n) p t ps names h = h.1

listed_next : (K : ListClass) (n : Option (List ℕ)) (p : ℤ) (t : Tree) (ps : PartList) (names : List (List ℕ)) → IsListed K (part n p t ps) → Apart names (part n p t ps) → IsListed K ps × Apart (names ++ name_before n []) ps
listed_next listing.Field n p t ps names h g =
    let d = and_parts (lacks n ps) (differ ps) h.1 in
    let u = h.2 in
    let rest : unplaced ps ≡ ps = cc in
    (((and_parts (is_some n) (all_named ps) h.0).1, d.1, rest), apart_next n names ps (apart_tail n p t ps names g) d.0)
listed_next listing.Group n p t ps names h g =
    let d = and_parts (lacks n ps) (differ ps) h.0 in
    let u = h.1 in
    let rest : unplaced ps ≡ ps = cc in
    ((d.1, rest), apart_next n names ps (apart_tail n p t ps names g) d.0)
listed_next listing.Composite n p t ps names h g =
    let d = and_parts (lacks n ps) (differ ps) h.0 in
    let u = h.1 in
    let rest : unplaced ps ≡ ps = cc in
    ((d.1, rest), apart_next n names ps (apart_tail n p t ps names g) d.0)
listed_next listing.Series None p t ps names h g = ((and_parts true (none_named ps) h).1, subst (λ (ns : List (List ℕ)). Apart ns ps) (sym (append-nil names)) g)
listed_next listing.Series (Some n) p t ps names h g = absurd (let q = (and_parts false (none_named ps) h).0 in cc)

parts_good : (K : ListClass) (ps : PartList) (names : List (List ℕ)) (i k : ℕ) → IsListed K ps → Apart names ps → AreLawful ps → k + parts_many ps < 2 ^ 64 → i + parts_many ps < 10000000000 → AreParts K names i ps k
parts_good K no_parts names i k l g h b c = tt
parts_good K (part n p t ps) names i k l g h b c =
    let some = some_many t in
    let next = listed_next K n p t ps names l g in
    (part_good K n p t ps names i l g h.1 (omega arith), no_file (last_of k (many t)) (omega arith), parts_good K ps (names ++ name_before n []) (suc i) (k + many t) next.0 next.1 h.3 (omega arith) (omega arith))

-- ---- objects

good_value : (v : Option Inline) (t : Tree) (k r : ℕ) → k + (unless_inline v (many t) + r) < 10000000000 → (k + many t < 10000000000 → IsGood t k) → IsGoodValue v (IsGood t k)
good_value None t k r b next = next (omega arith)
good_value (Some v) t k r b next = tt

mutual
  good : (t : Tree) (k : ℕ) → IsLawful t → HasIntsAll t → k + many t < 10000000000 → IsGood t k
  good (array a xs) k h i b =
      let q = and_parts (all_named xs) (differ xs) h.1.names in
      (lawful_again a h.0 i.0, attributes_good xs [] k q.0 q.1 (none_apart xs) h.2 (omega arith), good_values xs k h.2 i.1 (omega arith), omega arith)
  good (text c xs) k h i b =
      let q = and_parts (all_named xs) (differ xs) h.1.names in
      (attributes_good xs [] k q.0 q.1 (none_apart xs) h.2 (omega arith), good_values xs k h.2 i (omega arith), omega arith)
  good (field ps xs) k h i b =
      let j = k + parts_many ps in
      let n = and_parts (all_named ps && differ ps) (all_named xs && differ xs) h.0.names in
      let m = and_parts (all_named ps) (differ ps) n.0 in
      let q = and_parts (all_named xs) (differ xs) n.1 in (
        parts_good listing.Field ps [] 0 k (m.0, m.1, h.0.positions.0) (none_apart ps) h.1 (omega arith) (omega arith),
        attributes_good xs [] j q.0 q.1 (none_apart xs) h.2 (omega arith),
        good_parts ps k h.1 i.0 (omega arith),
        good_values xs j h.2 i.1 (omega arith),
        omega arith,
      )
  good (group ps xs) k h i b =
      let j = k + parts_many ps in
      let n = and_parts (differ ps) (all_named xs && differ xs) h.0.names in
      let q = and_parts (all_named xs) (differ xs) n.1 in (
        parts_good listing.Group ps [] 0 k (n.0, h.0.positions.0) (none_apart ps) h.1 (omega arith) (omega arith),
        attributes_good xs [] j q.0 q.1 (none_apart xs) h.2 (omega arith),
        good_parts ps k h.1 i.0 (omega arith),
        good_values xs j h.2 i.1 (omega arith),
        omega arith,
      )
  good (composite ps xs) k h i b =
      let j = k + parts_many ps in
      let n = and_parts (differ ps) (all_named xs && differ xs) h.0.names in
      let q = and_parts (all_named xs) (differ xs) n.1 in (
        parts_good listing.Composite ps [] 0 k (n.0, h.0.positions.0) (none_apart ps) h.1 (omega arith) (omega arith),
        attributes_good xs [] j q.0 q.1 (none_apart xs) h.2 (omega arith),
        good_parts ps k h.1 i.0 (omega arith),
        good_values xs j h.2 i.1 (omega arith),
        omega arith,
      )
  good (series ps xs) k h i b =
      let j = k + parts_many ps in
      let n = and_parts (none_named ps) (all_named xs && differ xs) h.0.names in
      let q = and_parts (all_named xs) (differ xs) n.1 in (
        parts_good listing.Series ps [] 0 k n.0 (none_apart ps) h.1 (omega arith) (omega arith),
        attributes_good xs [] j q.0 q.1 (none_apart xs) h.2 (omega arith),
        good_parts ps k h.1 i.0 (omega arith),
        good_values xs j h.2 i.1 (omega arith),
        omega arith,
      )

  good_parts : (ps : PartList) (k : ℕ) → AreLawful ps → HaveInts ps → k + parts_many ps < 10000000000 → AreGoodParts ps k
  good_parts no_parts k h i b = tt
  good_parts (part n p t ps) k h i b = (good t k h.2 i.0 (omega arith), good_parts ps (k + many t) h.3 i.1 (omega arith))

  good_values : (xs : PartList) (k : ℕ) → AreLawful xs → HaveInts xs → k + values_many xs < 10000000000 → AreGoodValues xs k
  good_values no_parts k h i b = tt
  good_values (part n p t xs) k h i b =
      let v = inline_of t in
      (good_value v t k (values_many xs) b (λ c. good t k h.2 i.0 c), good_values xs (k + unless_inline v (many t)) h.3 i.1 (omega arith))

-- each lawful object whose origins and deltas lie in the int range
pub lawful_good : (t : Tree) (k : ℕ) → IsLawful t → HasIntsAll t → k + many t < 10000000000 → IsGood t k
lawful_good t k h i b = good t k h i b
