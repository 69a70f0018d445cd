-- Parts in the order of their names: equal names are neighbours, and a search finds the part of a name.
use Rattle.std.proofs.Common.{◌≡◌, ◌≢◌, ◌<◌, ◌≤◌, ◌+◌, ℕ, zero, suc, List, Option, Some, None, Bool, true, false, ◌&&◌, length, get_or, ltb, ltb-true, ltb-false, refl, sym, ap, ◌∙◌, subst, arith}
use Rattle.std.specs.Prelude.{is_none}
use Rattle.std.specs.List.{range_with_len}
use Rattle.std.proofs.lemmas.Slice.Eq.{bytes_eq-Decides}
use Rattle.std.specs.Cmp.Derive.{both_true}
use Rattle.std.specs.declared.cmp.Ordering.{Ordering}
use Rattle.std.specs.declared.cmp.Ordering.TheVariants.{Less, Equal, Greater}
use Rattle.std.specs.Ordering.{nat_cmp, is_lt, is_eq, ordering_reverse}
use Rattle.std.specs.Cmp.Lexicographic.{slice_cmp, nat_list_cmp_total}
use Rattle.std.specs.FinMap.{slice_cmp-IsAntisymmetric, nat_cmp-IsAntisymmetric}
use Rattle.std.specs.List.{Contains, IsDistinct}
use Rattle.std.specs.List.Sorted.{IsPartitionPoint}
use Rattle.std.proofs.Math.Dec.{eqb}
use Rattle.std.proofs.lemmas.Bool.Decides.{nat_tests}
use Rattle.std.proofs.lemmas.List.{get_or_default}
use Rattle.std.proofs.lemmas.List.FromFn.{length-range_with_len, get_or-range_with_len}
use Rattle.std.proofs.lemmas.List.Sorted.{length_permutation, Contains-permutation, ranks_by, sorted_far}
use Rattle.std.proofs.lemmas.Map.Keys.{IsDistinct-IsPermutation, IsDistinct-from_apart, apart_from_distinct}
use Rattle.std.proofs.lemmas.Map.Text.{is_eq-slice_cmp}
use Rattle.dx_base.specs.Object.{PartList, array, text, field, group, composite, series, no_parts, part, part_count}
use Rattle.dx_base.specs.Array.{ArrayData}
use Rattle.dx_base.specs.ObjectNames.{same_name, find}
use Rattle.dx_base.specs.ObjectLimits.{lacks, differ, all_named, none_named, has_good_names}
use Rattle.dx_object_laws.specs.Order.{name_at, rank, rank_cmp, comes_before, share_name, IsOrder}
use Rattle.dx_object_laws.proofs.PutLaws.{by_bool}

-- a name that stands is found
pub is_found : (n : List ℕ) (ps : PartList) (i : ℕ) → same_name n (name_at ps i) ≡ true → is_none (find n ps) ≡ false
is_found n no_parts i h = cc
is_found n (part m p t ps) zero h = rw h refl
is_found n (part m p t ps) (suc i) h =
    by_bool (same_name n m) _
    (λ e. rw e refl)
    (λ e. rw e (is_found n ps i h))

-- a name that no part has isn't found
pub isn't_found : (n : List ℕ) (ps : PartList) → ((i : ℕ) → i < part_count ps → same_name n (name_at ps i) ≡ false) → find n ps ≡ None
isn't_found n no_parts h = refl
isn't_found n (part m p t ps) h = rw (h 0 (omega arith)) (isn't_found n ps (λ i k. h (suc i) (omega (arith, k))))

lacks_not : (m : Option (List ℕ)) (ps : PartList) (i : ℕ) → share_name m (name_at ps i) ≡ true → lacks m ps ≡ false
lacks_not None ps i h = cc
lacks_not (Some n) ps i h = is_found n ps i h

does_lack : (m : Option (List ℕ)) (ps : PartList) → ((i : ℕ) → i < part_count ps → share_name m (name_at ps i) ≡ false) → lacks m ps ≡ true
does_lack None ps h = refl
does_lack (Some n) ps h = rw (isn't_found n ps h) refl

-- two parts have one name
pub not_differ : (ps : PartList) (i j : ℕ) → i < j → share_name (name_at ps i) (name_at ps j) ≡ true → differ ps ≡ false
not_differ no_parts i j h s = cc
not_differ (part m p t ps) zero zero h s = absurd (omega (arith, h))
not_differ (part m p t ps) zero (suc j) h s = rw (lacks_not m ps j s) refl
not_differ (part m p t ps) (suc i) zero h s = absurd (omega (arith, h))
not_differ (part m p t ps) (suc i) (suc j) h s =
    by_bool (lacks m ps) _
    (λ e. rw e (not_differ ps i j (omega (arith, h)) s))
    (λ e. rw e refl)

-- no two parts have one name
pub all_differ : (ps : PartList) → ((i j : ℕ) → i < j → j < part_count ps → share_name (name_at ps i) (name_at ps j) ≡ false) → differ ps ≡ true
all_differ no_parts h = refl
all_differ (part m p t ps) h =
    both_true
    (does_lack m ps (λ i k. h 0 (suc i) (omega arith) (omega (arith, k))))
    (all_differ ps (λ i j k l. h (suc i) (suc j) (omega (arith, k)) (omega (arith, l))))

-- where a part has the name, and names differ, no other part has it
pub lacks_named : (n : List ℕ) (m : Option (List ℕ)) (ps : PartList) → same_name n m ≡ true → lacks m ps ≡ true → is_none (find n ps) ≡ true
lacks_named n None ps e h = cc
lacks_named n (Some j) ps e h =
    let same : n ≡ j = (bytes_eq-Decides n j).0 e in
    subst (λ x. is_none (find x ps) ≡ true) (sym same) h

-- ---- in an order

two_ways : (a b : ℕ) (P : Type 0) → a ≢ b → (a < b → P) → (b < a → P) → P
two_ways a b P off f g = by_bool (ltb a b) P (λ e. f (ltb-true a b e)) (λ e. g (omega (arith, ltb-false a b e, off)))

one_side : (a b : ℕ) (P : Type 0) → (a < b → P) → (b ≤ a → P) → P
one_side a b P f g = by_bool (ltb a b) P (λ e. f (ltb-true a b e)) (λ e. g (ltb-false a b e))

tied : (r s : Ordering) → r ≡ ordering_reverse s → is_lt r ≡ false → is_lt s ≡ false → r ≡ Equal
tied Less s e f g = cc
tied Equal s e f g = refl
tied Greater Less e f g = cc
tied Greater Equal e f g = cc
tied Greater Greater e f g = cc

equal_of : (r : Ordering) → is_eq r ≡ true → r ≡ Equal
equal_of Less e = cc
equal_of Equal e = refl
equal_of Greater e = cc

itself : (n : List ℕ) → rank_cmp (Some n) (Some n) ≡ Equal
itself n = equal_of (slice_cmp nat_cmp n n) (is_eq-slice_cmp n n ∙ (bytes_eq-Decides n n).1 refl)

has_own : (n : List ℕ) (m : Option (List ℕ)) → same_name n m ≡ true → m ≡ Some n
has_own n None e = cc
has_own n (Some m) e = ap Some (sym ((bytes_eq-Decides n m).0 e))

in_range_list : (n i : ℕ) → i < n → Contains (range_with_len 0 n) i
in_range_list n i h = (i, rw (length-range_with_len 0 n) h, omega (arith, get_or-range_with_len 0 n i i h))

unequal : (a b : ℕ) → a < b → eqb a b ≡ false
unequal a b h = grind (arith, nat_tests, h)

eqb-flips : (a b : ℕ) → eqb a b ≡ eqb b a
eqb-flips a b = grind (arith, nat_tests)

IsDistinct-range : (n : ℕ) → IsDistinct eqb (range_with_len 0 n)
IsDistinct-range n = IsDistinct-from_apart eqb (range_with_len 0 n) (λ i j d h k.
    let inside : j < n = rw (length-range_with_len 0 n) at k in
    let one = get_or-range_with_len 0 n i d (omega (arith, h, inside)) in
    let two = get_or-range_with_len 0 n j d inside in
    unequal _ _ (omega (arith, h, one, two)))

-- a part that stands in the order with the name's rank has the name
pub has_name : (m : Option (List ℕ)) (n : List ℕ) → rank_cmp m (Some n) ≡ Equal → m ≡ Some n
has_name None n e = cc
has_name (Some m) n e = ap Some (slice_cmp-IsAntisymmetric nat_cmp-IsAntisymmetric m n e)

shared : (m n : Option (List ℕ)) → share_name m n ≡ true → m ≡ n
shared None n e = cc
shared (Some m) None e = cc
shared (Some m) (Some n) e = ap Some ((bytes_eq-Decides m n).0 e)

shared_back : (m n : Option (List ℕ)) → share_name m n ≡ true → share_name n m ≡ true
shared_back None n e = cc
shared_back (Some m) None e = cc
shared_back (Some m) (Some n) e = (bytes_eq-Decides n m).1 (sym ((bytes_eq-Decides m n).0 e))

shares_itself : (m n : Option (List ℕ)) → share_name m n ≡ true → share_name m m ≡ true
shares_itself None n e = cc
shares_itself (Some m) n e = (bytes_eq-Decides m m).1 refl

-- neither comes before the other
alike : (m n : Option (List ℕ)) → is_lt (rank_cmp m n) ≡ false → is_lt (rank_cmp n m) ≡ false → rank m ≡ rank n
alike m n f g = slice_cmp-IsAntisymmetric nat_cmp-IsAntisymmetric (rank m) (rank n) (tied (rank_cmp m n) (rank_cmp n m) (nat_list_cmp_total.antisymm (rank m) (rank n)) f g)

same_rank : (m n : Option (List ℕ)) → rank m ≡ rank n → m ≡ n
same_rank None None e = refl
same_rank None (Some n) e = cc
same_rank (Some m) None e = cc
same_rank (Some m) (Some n) e = let same : m ≡ n = cc in ap Some same

order_length : (ps : PartList) (order : List ℕ) → IsOrder ps order → length order ≡ part_count ps
order_length ps order o = length_permutation _ _ o.places ∙ length-range_with_len 0 (part_count ps)

-- parts that stand at two places of the order are two
pub apart : (ps : PartList) (order : List ℕ) (i j : ℕ) → IsOrder ps order → i < j → j < length order → get_or order i 0 ≢ get_or order j 0
apart ps order i j o h k =
    let distinct = IsDistinct-IsPermutation eqb eqb-flips _ _ o.places (IsDistinct-range (part_count ps)) in
    let off = apart_from_distinct eqb order i j 0 distinct h k in
    λ e. grind (arith, nat_tests, off, e)

-- where two places of the order have one name, so have two parts
pub not_differ_in_order : (ps : PartList) (order : List ℕ) (i j : ℕ) → IsOrder ps order → i < j → j < length order → share_name (name_at ps (get_or order i 0)) (name_at ps (get_or order j 0)) ≡ true → differ ps ≡ false
not_differ_in_order ps order i j o h k s =
    two_ways (get_or order i 0) (get_or order j 0) _ (apart ps order i j o h k)
    (λ below. not_differ ps _ _ below s)
    (λ above. not_differ ps _ _ above (shared_back (name_at ps (get_or order i 0)) (name_at ps (get_or order j 0)) s))

-- where the name at a place stands again later in the order, the next place has it
next_shares : (ps : PartList) (order : List ℕ) (i j : ℕ) → IsOrder ps order → i < j → j < length order → share_name (name_at ps (get_or order i 0)) (name_at ps (get_or order j 0)) ≡ true →
    share_name (name_at ps (get_or order i 0)) (name_at ps (get_or order (i + 1) 0)) ≡ true
next_shares ps order i j o h k s =
    let a = name_at ps (get_or order i 0) in
    let b = name_at ps (get_or order (i + 1) 0) in
    let z = name_at ps (get_or order j 0) in
    let ways = ranks_by nat_list_cmp_total (λ p. rank (name_at ps p)) in
    let up : is_lt (rank_cmp b a) ≡ false = sorted_far (comes_before ps) ways order o.sorted i (i + 1) 0 (omega arith) (omega (arith, h, k)) in
    let far : is_lt (rank_cmp z b) ≡ false = sorted_far (comes_before ps) ways order o.sorted (i + 1) j 0 (omega (arith, h)) k in
    let down : is_lt (rank_cmp a b) ≡ false = subst (λ x. is_lt (rank_cmp x b) ≡ false) (sym (shared a z s)) far in
    let same : a ≡ b = same_rank a b (alike a b down up) in
    subst (λ x. share_name a x ≡ true) same (shares_itself a z s)

-- where no two neighbours in the order have one name, no two parts have
pub all_differ_in_order : (ps : PartList) (order : List ℕ) → IsOrder ps order → ((j : ℕ) → j + 1 < length order → share_name (name_at ps (get_or order j 0)) (name_at ps (get_or order (j + 1) 0)) ≡ false) → differ ps ≡ true
all_differ_in_order ps order o h = all_differ ps (λ i j below inside.
    let at = λ (p : ℕ) (q : p < part_count ps). Contains-permutation _ _ p o.places (in_range_list (part_count ps) p q) in
    let first = at i (omega (arith, below, inside)) in
    let second = at j inside in
    let one : get_or order first.0 0 ≡ i = get_or_default order first.0 0 i first.1 ∙ first.2 in
    let two : get_or order second.0 0 ≡ j = get_or_default order second.0 0 j second.1 ∙ second.2 in
    by_bool (share_name (name_at ps i) (name_at ps j)) _
    (λ s.
    let s_places : share_name (name_at ps (get_or order first.0 0)) (name_at ps (get_or order second.0 0)) ≡ true = rw (one, two) s in
    absurd (two_ways first.0 second.0 ⊥ (λ e. let same : i ≡ j = sym one ∙ ap (λ x. get_or order x 0) e ∙ two in omega (arith, below, same))
    (λ lt. let n = next_shares ps order first.0 second.0 o lt second.1 s_places in let m = h first.0 (omega (arith, lt, second.1)) in cc)
    (λ gt. let n = next_shares ps order second.0 first.0 o gt first.1 (shared_back (name_at ps (get_or order first.0 0)) (name_at ps (get_or order second.0 0)) s_places) in let m = h second.0 (omega (arith, gt, first.1)) in cc)))
    (λ f. f))

-- a name that no place of the order has isn't found
pub isn't_in_order : (n : List ℕ) (ps : PartList) (order : List ℕ) (k : ℕ) → IsOrder ps order → IsPartitionPoint (λ y. rank_cmp (name_at ps y) (Some n) ≡ Less) (λ y. rank_cmp (name_at ps y) (Some n) ≡ Greater) order k → find n ps ≡ None
isn't_in_order n ps order k o point = isn't_found n ps (λ i inside.
    let place = Contains-permutation _ _ i o.places (in_range_list (part_count ps) i inside) in
    let at : get_or order place.0 0 ≡ i = get_or_default order place.0 0 i place.1 ∙ place.2 in
    by_bool (same_name n (name_at ps i)) _
    (λ s. absurd (
    let here : name_at ps i ≡ Some n = has_own n (name_at ps i) s in
    let equal : rank_cmp (name_at ps i) (Some n) ≡ Equal = rw here (itself n) in
    one_side place.0 k ⊥
    (λ lt. let less : rank_cmp (name_at ps (get_or order place.0 0)) (Some n) ≡ Less = point.0 place.0 0 (omega arith) lt in let l = subst (λ x. rank_cmp (name_at ps x) (Some n) ≡ Less) at less in cc)
    (λ ge. let greater : rank_cmp (name_at ps (get_or order place.0 0)) (Some n) ≡ Greater = point.1 place.0 0 ge place.1 in let g = subst (λ x. rank_cmp (name_at ps x) (Some n) ≡ Greater) at greater in cc)))
    (λ f. f))

-- ---- no names twice

pub none_named-differ : (ps : PartList) → none_named ps ≡ true → differ ps ≡ true
none_named-differ no_parts h = refl
none_named-differ (part None p t ps) h = none_named-differ ps h
none_named-differ (part (Some n) p t ps) h = cc

and_false : (a : Bool) → (a && false) ≡ false
and_false true = refl
and_false false = refl

pub array_attributes : (a : ArrayData) (xs : PartList) → differ xs ≡ false → has_good_names (array a xs) ≡ false
array_attributes a xs h = rw h (and_false (all_named xs))

pub text_attributes : (b : List ℕ) (xs : PartList) → differ xs ≡ false → has_good_names (text b xs) ≡ false
text_attributes b xs h = rw h (and_false (all_named xs))

pub field_attributes : (ps xs : PartList) → differ xs ≡ false → has_good_names (field ps xs) ≡ false
field_attributes ps xs h = rw (h, and_false (all_named xs)) (and_false (all_named ps && differ ps))

pub group_attributes : (ps xs : PartList) → differ xs ≡ false → has_good_names (group ps xs) ≡ false
group_attributes ps xs h = rw (h, and_false (all_named xs)) (and_false (differ ps))

pub composite_attributes : (ps xs : PartList) → differ xs ≡ false → has_good_names (composite ps xs) ≡ false
composite_attributes ps xs h = rw (h, and_false (all_named xs)) (and_false (differ ps))

pub series_attributes : (ps xs : PartList) → differ xs ≡ false → has_good_names (series ps xs) ≡ false
series_attributes ps xs h = rw (h, and_false (all_named xs)) (and_false (none_named ps))

pub field_names : (ps xs : PartList) → differ ps ≡ false → has_good_names (field ps xs) ≡ false
field_names ps xs h = rw (h, and_false (all_named ps)) refl

pub group_names : (ps xs : PartList) → differ ps ≡ false → has_good_names (group ps xs) ≡ false
group_names ps xs h = rw h refl

pub composite_names : (ps xs : PartList) → differ ps ≡ false → has_good_names (composite ps xs) ≡ false
composite_names ps xs h = rw h refl

pub series_names : (ps xs : PartList) → differ ps ≡ false → has_good_names (series ps xs) ≡ false
series_names ps xs h =
    by_bool (none_named ps) _
    (λ e. absurd (let d = none_named-differ ps e in cc))
    (λ e. rw e refl)
