-- What a key holds after something is put under a key or taken away.
use Rattle.std.proofs.Common.{◌≡◌, List, [], ◌∷◌, Option, Some, None, Bool, true, false, refl, ap, ◌∙◌}
use Rattle.std.specs.Prelude.{if◌then◌else◌}
use Rattle.std.specs.Map.{lookup, keys_of, remove_entry}
use Rattle.std.specs.BTreeMap.{insert_entry, is_at}
use Rattle.std.specs.List.{AllByRecursion}
use Rattle.std.specs.List.Sorted.{IsStrictlySortedBy}
use Rattle.std.specs.Ordering.{is_eq, ordering_reverse, match_ordering}
use Rattle.std.specs.Cmp.{IsTotalOrder, alike_right}
use Rattle.std.specs.declared.cmp.Ordering.{Ordering}
use Rattle.std.specs.declared.cmp.Ordering.TheVariants.{Less, Equal, Greater}

equal_of : (r : Ordering) → is_eq r ≡ true → r ≡ Equal
equal_of Less e = cc
equal_of Equal e = refl
equal_of Greater e = cc

module _ {K : Type 0} {cmp : K → K → Ordering} (o : IsTotalOrder cmp) where
  -- where q is the first key, and the first key is below k, q isn't k
  apart : (q k x : K) → cmp k x ≡ Greater → is_eq (cmp q x) ≡ true → is_eq (cmp q k) ≡ false
  apart q k x g e =
      let same : cmp q k ≡ cmp x k = o.congr q x k (equal_of (cmp q x) e) in
      let below : cmp x k ≡ Less = o.antisymm x k ∙ ap ordering_reverse g in
      ap is_eq (same ∙ below)

module _ {K X : Type 0} {cmp : K → K → Ordering} (o : IsTotalOrder cmp) where
  pub lookup_put : (q k : K) (v : X) (es : List (K × X)) → lookup (is_at (cmp q)) (insert_entry cmp es k v) ≡ (if is_eq (cmp q k) then Some v else lookup (is_at (cmp q)) es)
  lookup_put q k v [] = refl
  lookup_put q k v (x ∷ es) = by (cmp k x.0) refl (lookup_put q k v es)
    where
      same : (b : Bool) (rest : Option X) → (if b then Some v else rest) ≡ (if b then Some v else (if b then Some x.1 else rest))
      same true rest = refl
      same false rest = refl

      later : (b c : Bool) (rest : Option X) → (b ≡ true → c ≡ false) → (if b then Some x.1 else (if c then Some v else rest)) ≡ (if c then Some v else (if b then Some x.1 else rest))
      later true c rest h = rw (h refl) refl
      later false true rest h = refl
      later false false rest h = refl

      by : (r : Ordering) → cmp k x.0 ≡ r → lookup (is_at (cmp q)) (insert_entry cmp es k v) ≡ (if is_eq (cmp q k) then Some v else lookup (is_at (cmp q)) es)
          → lookup (is_at (cmp q)) (match_ordering r ((k, v) ∷ x ∷ es) ((x.0, v) ∷ es) (x ∷ insert_entry cmp es k v)) ≡ (if is_eq (cmp q k) then Some v else (if is_eq (cmp q x.0) then Some x.1 else lookup (is_at (cmp q)) es))
      by Less e rest = refl
      by Equal e rest = rw (alike_right o k x.0 q e) (same (is_eq (cmp q x.0)) (lookup (is_at (cmp q)) es))
      by Greater e rest = ap (λ l. if is_eq (cmp q x.0) then Some x.1 else l) rest ∙ later (is_eq (cmp q x.0)) (is_eq (cmp q k)) (lookup (is_at (cmp q)) es) (apart o q k x.0 e)

  -- no key behind the first is the first
  none_behind : (q x : K) (es : List (K × X)) → cmp q x ≡ Equal → AllByRecursion (λ y. cmp x y ≡ Less) (keys_of es) → lookup (is_at (cmp q)) es ≡ None
  none_behind q x [] e a = refl
  none_behind q x (y ∷ es) e a = rw (o.congr q x y.0 e ∙ a.0) (none_behind q x es e a.1)

  pub lookup_taken : (q k : K) (es : List (K × X)) → IsStrictlySortedBy cmp (keys_of es) → lookup (is_at (cmp q)) (remove_entry (is_at (cmp k)) es) ≡ (if is_eq (cmp q k) then None else lookup (is_at (cmp q)) es)
  unfolding IsStrictlySortedBy
  lookup_taken q k [] s = by (is_eq (cmp q k)) None
    where
      by : (b : Bool) (n : Option X) → n ≡ (if b then n else n)
      by true n = refl
      by false n = refl
  lookup_taken q k (x ∷ es) s = by (cmp k x.0) refl (lookup_taken q k es s.1) (λ e. none_behind q x.0 es e s.0)
    where
      other : (b c : Bool) (rest : Option X) → (b ≡ true → c ≡ false) → (if b then Some x.1 else (if c then None else rest)) ≡ (if c then None else (if b then Some x.1 else rest))
      other true c rest h = rw (h refl) refl
      other false true rest h = refl
      other false false rest h = refl

      gone : (r : Ordering) (rest : Option X) → (r ≡ Equal → rest ≡ None) → rest ≡ (if is_eq r then None else (if is_eq r then Some x.1 else rest))
      gone Less rest h = refl
      gone Equal rest h = h refl
      gone Greater rest h = refl

      below : cmp k x.0 ≡ Less → is_eq (cmp q x.0) ≡ true → is_eq (cmp q k) ≡ false
      below l e =
          let up : cmp x.0 k ≡ Greater = o.antisymm x.0 k ∙ ap ordering_reverse l in
          ap is_eq (o.congr q x.0 k (equal_of (cmp q x.0) e) ∙ up)

      by : (r : Ordering) → cmp k x.0 ≡ r → lookup (is_at (cmp q)) (remove_entry (is_at (cmp k)) es) ≡ (if is_eq (cmp q k) then None else lookup (is_at (cmp q)) es) → (cmp q x.0 ≡ Equal → lookup (is_at (cmp q)) es ≡ None)
          → lookup (is_at (cmp q)) (if is_eq r then es else x ∷ remove_entry (is_at (cmp k)) es) ≡ (if is_eq (cmp q k) then None else (if is_eq (cmp q x.0) then Some x.1 else lookup (is_at (cmp q)) es))
      by Less e rest h = ap (λ l. if is_eq (cmp q x.0) then Some x.1 else l) rest ∙ other (is_eq (cmp q x.0)) (is_eq (cmp q k)) (lookup (is_at (cmp q)) es) (below e)
      by Equal e rest h = rw (alike_right o k x.0 q e) (gone (cmp q x.0) (lookup (is_at (cmp q)) es) h)
      by Greater e rest h = ap (λ l. if is_eq (cmp q x.0) then Some x.1 else l) rest ∙ other (is_eq (cmp q x.0)) (is_eq (cmp q k)) (lookup (is_at (cmp q)) es) (apart o q k x.0 e)
