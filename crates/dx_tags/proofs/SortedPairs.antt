-- Lists of pairs in the order of their keys: where a key is found, put in and taken out.
use Rattle.std.proofs.Common.{◌≡◌, ℕ, zero, suc, ◌<◌, ◌≤◌, List, [], ◌∷◌, length, get_or, Some, None, Bool, true, false, ltb, ltb-true, ltb-false, refl, sym, ap, ◌∙◌, arith}
use Rattle.std.specs.Prelude.{slice_set, if◌then◌else◌}
use Rattle.std.specs.Map.{lookup, keys_of, remove_entry}
use Rattle.std.specs.BTreeMap.{insert_entry, is_at}
use Rattle.std.specs.List.{insert, remove, AllByRecursion}
use Rattle.std.specs.List.Sorted.{IsStrictlySortedBy, IsPartitionPoint, IsNonDecreasingBy}
use Rattle.std.specs.Ordering.{is_eq, ordering_reverse, ordering_index, match_ordering}
use Rattle.std.specs.Cmp.{IsTotalOrder, alike_right, tied_back}
use Rattle.std.specs.declared.cmp.Ordering.{Ordering}
use Rattle.std.specs.declared.cmp.Ordering.TheVariants.{Less, Equal, Greater}

module _ {K X : Type 0} where
  all_at : (P : K → Type 0) (es : List (K × X)) (i : ℕ) (d : K × X) → AllByRecursion P (keys_of es) → i < length es → P (get_or es i d).0
  all_at P [] i d a h = absurd (omega (arith, h))
  all_at P (e ∷ es) zero d a h = a.0
  all_at P (e ∷ es) (suc i) d a h = all_at P es i d a.1 (omega (arith, h))

  all_mapped : (P Q : K → Type 0) (es : List (K × X)) → ((k : K) → P k → Q k) → AllByRecursion P (keys_of es) → AllByRecursion Q (keys_of es)
  all_mapped P Q [] f a = tt
  all_mapped P Q (e ∷ es) f a = (f e.0 a.0, all_mapped P Q es f a.1)

module _ {K : Type 0} {cmp : K → K → Ordering} (o : IsTotalOrder cmp) where
  turned : (x y : K) → cmp x y ≡ Less → cmp y x ≡ Greater
  turned x y e = o.antisymm y x ∙ ap ordering_reverse e

  turned_back : (x y : K) → cmp x y ≡ Greater → cmp y x ≡ Less
  turned_back x y e = o.antisymm y x ∙ ap ordering_reverse e

module _ {K X : Type 0} {cmp : K → K → Ordering} (o : IsTotalOrder cmp) where
  -- a key that a later pair has is above the first
  passes : (k : K) (x : K × X) (es : List (K × X)) (i : ℕ) (d : K × X) → AllByRecursion (λ y. cmp x.0 y ≡ Less) (keys_of es) → i < length es → cmp (get_or es i d).0 k ≡ Equal → cmp k x.0 ≡ Greater
  passes k x es i d a h e = turned o x.0 k (sym (alike_right o (get_or es i d).0 k x.0 e) ∙ all_at (λ y. cmp x.0 y ≡ Less) es i d a h)

  pub lookup_found : (k : K) (es : List (K × X)) (i : ℕ) (d : K × X) → IsStrictlySortedBy cmp (keys_of es) → i < length es → cmp (get_or es i d).0 k ≡ Equal → lookup (is_at (cmp k)) es ≡ Some (get_or es i d).1
  unfolding IsStrictlySortedBy
  lookup_found k [] i d s h e = absurd (omega (arith, h))
  lookup_found k (x ∷ es) zero d s h e = rw (tied_back o x.0 k e) refl
  lookup_found k (x ∷ es) (suc i) d s h e = rw (passes k x es i d s.0 (omega (arith, h)) e) (lookup_found k es i d s.1 (omega (arith, h)) e)

  pub lookup_nowhere : (k : K) (es : List (K × X)) → ((i : ℕ) (d : K × X) → i < length es → is_eq (cmp k (get_or es i d).0) ≡ false) → lookup (is_at (cmp k)) es ≡ None
  lookup_nowhere k [] h = refl
  lookup_nowhere k (x ∷ es) h = rw (h 0 x (omega arith)) (lookup_nowhere k es (λ i d l. h (suc i) d (omega (arith, l))))

  pub put_found : (k : K) (v : X) (es : List (K × X)) (i : ℕ) (d : K × X) → IsStrictlySortedBy cmp (keys_of es) → i < length es → cmp (get_or es i d).0 k ≡ Equal → insert_entry cmp es k v ≡ slice_set es i ((get_or es i d).0, v)
  unfolding IsStrictlySortedBy
  put_found k v [] i d s h e = absurd (omega (arith, h))
  put_found k v (x ∷ es) zero d s h e = rw (tied_back o x.0 k e) refl
  put_found k v (x ∷ es) (suc i) d s h e = rw (passes k x es i d s.0 (omega (arith, h)) e) (ap (λ l. x ∷ l) (put_found k v es i d s.1 (omega (arith, h)) e))

  pub put_between : (k : K) (v : X) (es : List (K × X)) (i : ℕ) → i ≤ length es → ((j : ℕ) (d : K × X) → j < i → cmp k (get_or es j d).0 ≡ Greater) → ((d : K × X) → i < length es → cmp k (get_or es i d).0 ≡ Less) → insert_entry cmp es k v ≡ insert es i (k, v)
  put_between k v [] zero h a b = refl
  put_between k v [] (suc i) h a b = absurd (omega (arith, h))
  put_between k v (x ∷ es) zero h a b = rw (b x (omega arith)) refl
  put_between k v (x ∷ es) (suc i) h a b = rw (a 0 x (omega arith)) (ap (λ l. x ∷ l) (put_between k v es i (omega (arith, h)) (λ j d l. a (suc j) d (omega (arith, l))) (λ d l. b d (omega (arith, l)))))

  pub taken_found : (k : K) (es : List (K × X)) (i : ℕ) (d : K × X) → IsStrictlySortedBy cmp (keys_of es) → i < length es → cmp (get_or es i d).0 k ≡ Equal → remove_entry (is_at (cmp k)) es ≡ remove es i
  unfolding IsStrictlySortedBy
  taken_found k [] i d s h e = absurd (omega (arith, h))
  taken_found k (x ∷ es) zero d s h e = rw (tied_back o x.0 k e) refl
  taken_found k (x ∷ es) (suc i) d s h e = rw (passes k x es i d s.0 (omega (arith, h)) e) (ap (λ l. x ∷ l) (taken_found k es i d s.1 (omega (arith, h)) e))

  pub taken_nowhere : (k : K) (es : List (K × X)) → ((i : ℕ) (d : K × X) → i < length es → is_eq (cmp k (get_or es i d).0) ≡ false) → remove_entry (is_at (cmp k)) es ≡ es
  taken_nowhere k [] h = refl
  taken_nowhere k (x ∷ es) h = rw (h 0 x (omega arith)) (ap (λ l. x ∷ l) (taken_nowhere k es (λ i d l. h (suc i) d (omega (arith, l)))))

  -- ---- what is put in or taken out leaves the order

  below_put : (y k : K) (v : X) (es : List (K × X)) → cmp y k ≡ Less → AllByRecursion (λ z. cmp y z ≡ Less) (keys_of es) → AllByRecursion (λ z. cmp y z ≡ Less) (keys_of (insert_entry cmp es k v))
  below_put y k v [] e a = (e, tt)
  below_put y k v (x ∷ es) e a = by (cmp k x.0) (below_put y k v es e a.1)
    where
      by : (r : Ordering) → AllByRecursion (λ z. cmp y z ≡ Less) (keys_of (insert_entry cmp es k v)) → AllByRecursion (λ z. cmp y z ≡ Less) (keys_of (match_ordering r ((k, v) ∷ x ∷ es) ((x.0, v) ∷ es) (x ∷ insert_entry cmp es k v)))
      by Less rest = (e, a)
      by Equal rest = a
      by Greater rest = (a.0, rest)

  pub sorted_put : (k : K) (v : X) (es : List (K × X)) → IsStrictlySortedBy cmp (keys_of es) → IsStrictlySortedBy cmp (keys_of (insert_entry cmp es k v))
  unfolding IsStrictlySortedBy
  sorted_put k v [] s = (tt, tt)
  sorted_put k v (x ∷ es) s = by (cmp k x.0) refl (sorted_put k v es s.1)
    where
      by : (r : Ordering) → cmp k x.0 ≡ r → IsStrictlySortedBy cmp (keys_of (insert_entry cmp es k v)) → IsStrictlySortedBy cmp (keys_of (match_ordering r ((k, v) ∷ x ∷ es) ((x.0, v) ∷ es) (x ∷ insert_entry cmp es k v)))
      by Less e rest = ((e, all_mapped (λ z. cmp x.0 z ≡ Less) (λ z. cmp k z ≡ Less) es (λ z l. o.trans k x.0 z e l) s.0), s)
      by Equal e rest = s
      by Greater e rest = (below_put x.0 k v es (turned_back o k x.0 e) s.0, rest)

  below_taken : (y : K) (k : K) (es : List (K × X)) → AllByRecursion (λ z. cmp y z ≡ Less) (keys_of es) → AllByRecursion (λ z. cmp y z ≡ Less) (keys_of (remove_entry (is_at (cmp k)) es))
  below_taken y k [] a = tt
  below_taken y k (x ∷ es) a = by (cmp k x.0) (below_taken y k es a.1)
    where
      by : (r : Ordering) → AllByRecursion (λ z. cmp y z ≡ Less) (keys_of (remove_entry (is_at (cmp k)) es)) → AllByRecursion (λ z. cmp y z ≡ Less) (keys_of (if is_eq r then es else x ∷ remove_entry (is_at (cmp k)) es))
      by Less rest = (a.0, rest)
      by Equal rest = a.1
      by Greater rest = (a.0, rest)

  pub sorted_taken : (k : K) (es : List (K × X)) → IsStrictlySortedBy cmp (keys_of es) → IsStrictlySortedBy cmp (keys_of (remove_entry (is_at (cmp k)) es))
  unfolding IsStrictlySortedBy
  sorted_taken k [] s = tt
  sorted_taken k (x ∷ es) s = by (cmp k x.0) (sorted_taken k es s.1)
    where
      by : (r : Ordering) → IsStrictlySortedBy cmp (keys_of (remove_entry (is_at (cmp k)) es)) → IsStrictlySortedBy cmp (keys_of (if is_eq r then es else x ∷ remove_entry (is_at (cmp k)) es))
      by Less rest = (below_taken x.0 k es s.0, rest)
      by Equal rest = s.1
      by Greater rest = (below_taken x.0 k es s.0, rest)

  -- ---- where a search ends

  pub rises : (k : K) (es : List (K × X)) → IsStrictlySortedBy cmp (keys_of es) → IsNonDecreasingBy (λ e. ordering_index (cmp e.0 k)) es
  unfolding IsStrictlySortedBy
  rises k [] s i j d a b = absurd (omega (arith, b))
  rises k (x ∷ es) s zero zero d a b = omega arith
  rises k (x ∷ es) s zero (suc j) d a b = no_higher (cmp x.0 k) refl (all_at (λ z. cmp x.0 z ≡ Less) es j d s.0 (omega (arith, b)))
    where
      no_higher : (r : Ordering) → cmp x.0 k ≡ r → cmp x.0 (get_or es j d).0 ≡ Less → ordering_index r ≤ ordering_index (cmp (get_or es j d).0 k)
      no_higher Less e l = omega arith
      no_higher Equal e l = let up : cmp (get_or es j d).0 k ≡ Greater = turned o k (get_or es j d).0 (sym (o.congr x.0 k (get_or es j d).0 e) ∙ l) in rw up (omega arith)
      no_higher Greater e l = let up : cmp (get_or es j d).0 k ≡ Greater = turned o k (get_or es j d).0 (o.trans k x.0 (get_or es j d).0 (turned_back o x.0 k e) l) in rw up (omega arith)
  rises k (x ∷ es) s (suc i) zero d a b = absurd (omega (arith, a))
  rises k (x ∷ es) s (suc i) (suc j) d a b = rises k es s.1 i j d (omega (arith, a)) (omega (arith, b))

  module _ (k : K) (es : List (K × X)) (i : ℕ) (at : IsPartitionPoint (λ (e : K × X). cmp e.0 k ≡ Less) (λ (e : K × X). cmp e.0 k ≡ Greater) es i) where
    pub front : (j : ℕ) (d : K × X) → j < i → cmp k (get_or es j d).0 ≡ Greater
    front j d h = turned o (get_or es j d).0 k (at.0 j d (omega arith) h)

    pub back : (j : ℕ) (d : K × X) → i ≤ j → j < length es → cmp k (get_or es j d).0 ≡ Less
    back j d h l = turned_back o (get_or es j d).0 k (at.1 j d h l)

    pub nowhere : (j : ℕ) (d : K × X) → j < length es → is_eq (cmp k (get_or es j d).0) ≡ false
    nowhere j d l = by_test (ltb j i) refl
      where
        by_test : (b : Bool) → ltb j i ≡ b → is_eq (cmp k (get_or es j d).0) ≡ false
        by_test true e = ap is_eq (front j d (ltb-true j i e))
        by_test false e = ap is_eq (back j d (ltb-false j i e) l)
