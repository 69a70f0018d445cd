-- Lists by their places, and entries of a table by theirs.
use Rattle.std.proofs.Common.{◌≡◌, ℕ, zero, suc, ◌+◌, ◌-◌, ◌<◌, ◌≤◌, List, [], ◌∷◌, ◌++◌, length, map, take, get_or, Bool, true, false, Option, Some, None, refl, sym, ap, ap₂, ◌∙◌, arith, is_some, true≢false}
use Rattle.std.specs.Prelude.{slice_get, slice_set}
use Rattle.std.specs.List.{swap_remove}
use Rattle.std.specs.Option.{option_map}
use Rattle.std.specs.Map.{keys_of, values_of, lookup}
use Rattle.indexmap.specs.IndexMap.{set_value_at}
use Rattle.dx_cache.proofs.SlotLaws.{cases, get_set_same, get_set_other}

-- Lists by their places.

pub same_lists : {X : Type 0} (xs ys : List X) → ((j : ℕ) → slice_get xs j ≡ slice_get ys j) → xs ≡ ys
same_lists [] [] h = refl
same_lists [] (y ∷ ys) h = let e : None ≡ Some y = h 0 in cc
same_lists (x ∷ xs) [] h = let e : Some x ≡ None = h 0 in cc
same_lists (x ∷ xs) (y ∷ ys) h =
    let e : Some x ≡ Some y = h 0 in
    let same : x ≡ y = cc in
    ap₂ (λ a b. a ∷ b) same (same_lists xs ys (λ j. h (suc j)))

pub get_map : {X Y : Type 0} (f : X → Y) (xs : List X) (j : ℕ) → slice_get (map f xs) j ≡ option_map f (slice_get xs j)
get_map f [] j = refl
get_map f (x ∷ xs) zero = refl
get_map f (x ∷ xs) (suc j) = get_map f xs j

pub map_set : {X Y : Type 0} (f : X → Y) (xs : List X) (i : ℕ) (v : X) → map f (slice_set xs i v) ≡ slice_set (map f xs) i (f v)
map_set f [] i v = refl
map_set f (x ∷ xs) zero v = refl
map_set f (x ∷ xs) (suc i) v = ap (λ ys. f x ∷ ys) (map_set f xs i v)

pub map_where : {X Y : Type 0} (f g : X → Y) (xs : List X) → ((j : ℕ) (x : X) → slice_get xs j ≡ Some x → f x ≡ g x) → map f xs ≡ map g xs
map_where f g [] h = refl
map_where f g (x ∷ xs) h = ap₂ (λ a b. a ∷ b) (h 0 x refl) (map_where f g xs (λ j y e. h (suc j) y e))

pub set_itself : {X : Type 0} (xs : List X) (i : ℕ) (v : X) → slice_get xs i ≡ Some v → slice_set xs i v ≡ xs
set_itself [] i v h = refl
set_itself (x ∷ xs) zero v h = let same : v ≡ x = cc in ap (λ y. y ∷ xs) same
set_itself (x ∷ xs) (suc i) v h = ap (λ ys. x ∷ ys) (set_itself xs i v h)

pub get_left : {X : Type 0} (xs ys : List X) (i : ℕ) → i < length xs → slice_get (xs ++ ys) i ≡ slice_get xs i
get_left [] ys i w = absurd (omega (arith, w))
get_left (x ∷ xs) ys zero w = refl
get_left (x ∷ xs) ys (suc i) w = get_left xs ys i (omega (arith, w))

pub get_last : {X : Type 0} (xs : List X) (x : X) → slice_get (xs ++ x ∷ []) (length xs) ≡ Some x
get_last [] x = refl
get_last (y ∷ xs) x = get_last xs x

pub get_past : {X : Type 0} (xs : List X) (i : ℕ) → length xs ≤ i → slice_get xs i ≡ None
get_past [] i w = refl
get_past (x ∷ xs) zero w = absurd (omega (arith, w))
get_past (x ∷ xs) (suc i) w = get_past xs i (omega (arith, w))

pub get_take : {X : Type 0} (xs : List X) (n i : ℕ) → i < n → slice_get (take n xs) i ≡ slice_get xs i
get_take [] zero i w = refl
get_take [] (suc n) i w = refl
get_take (x ∷ xs) zero i w = absurd (omega (arith, w))
get_take (x ∷ xs) (suc n) zero w = refl
get_take (x ∷ xs) (suc n) (suc i) w = get_take xs n i (omega (arith, w))

pub take_past : {X : Type 0} (xs : List X) (n i : ℕ) → n ≤ i → slice_get (take n xs) i ≡ None
take_past [] zero i w = refl
take_past [] (suc n) i w = refl
take_past (x ∷ xs) zero i w = refl
take_past (x ∷ xs) (suc n) zero w = absurd (omega (arith, w))
take_past (x ∷ xs) (suc n) (suc i) w = take_past xs n i (omega (arith, w))

pub get_within : {X : Type 0} (xs : List X) (i : ℕ) (d : X) → i < length xs → slice_get xs i ≡ Some (get_or xs i d)
get_within [] i d w = absurd (omega (arith, w))
get_within (x ∷ xs) zero d w = refl
get_within (x ∷ xs) (suc i) d w = get_within xs i d (omega (arith, w))

-- after the last took a place
module _ {X : Type 0} (xs : List X) (k : ℕ) (d : X) where
  pub swapped_other : (a : ℕ) → ¬ (a ≡ k) → a + 1 < length xs → slice_get (swap_remove xs k d) a ≡ slice_get xs a
  swapped_other a n w =
      get_take (slice_set xs k (get_or xs (length xs - 1) d)) (length xs - 1) a (omega (arith, w))
      ∙ get_set_other xs k a (get_or xs (length xs - 1) d) n

  pub swapped_moved : k + 1 < length xs → slice_get (swap_remove xs k d) k ≡ slice_get xs (length xs - 1)
  swapped_moved w =
      get_take (slice_set xs k (get_or xs (length xs - 1) d)) (length xs - 1) k (omega (arith, w))
      ∙ get_set_same xs k (get_or xs (length xs - 1) d) (omega (arith, w))
      ∙ sym (get_within xs (length xs - 1) d (omega (arith, w)))

  pub swapped_past : (a : ℕ) → length xs ≤ a + 1 → slice_get (swap_remove xs k d) a ≡ None
  swapped_past a w = take_past (slice_set xs k (get_or xs (length xs - 1) d)) (length xs - 1) a (omega (arith, w))

-- Entries.

module _ {K X : Type 0} where
  pub get_keys : (es : List (K × X)) (i : ℕ) (p : K × X) → slice_get es i ≡ Some p → slice_get (keys_of es) i ≡ Some p.0
  get_keys [] i p h = cc
  get_keys (e ∷ es) zero p h = let same : e ≡ p = cc in ap (λ (x : K × X). Some x.0) same
  get_keys (e ∷ es) (suc i) p h = get_keys es i p h

  pub keys_past : (es : List (K × X)) (i : ℕ) → slice_get es i ≡ None → slice_get (keys_of es) i ≡ None
  keys_past [] i h = refl
  keys_past (e ∷ es) zero h = cc
  keys_past (e ∷ es) (suc i) h = keys_past es i h

  pub entry_of_value : (es : List (K × X)) (i : ℕ) (v : X) → slice_get (values_of es) i ≡ Some v → (k : K) × (slice_get es i ≡ Some (k, v))
  entry_of_value [] i v h = cc
  entry_of_value (e ∷ es) zero v h = let same : e.1 ≡ v = cc in (e.0, ap (λ x. Some (e.0, x)) same)
  entry_of_value (e ∷ es) (suc i) v h = entry_of_value es i v h

  pub keys_set : (es : List (K × X)) (i : ℕ) (w : X) → keys_of (set_value_at es i w) ≡ keys_of es
  keys_set [] i w = refl
  keys_set (e ∷ es) zero w = refl
  keys_set (e ∷ es) (suc i) w = ap (λ ks. e.0 ∷ ks) (keys_set es i w)

  pub get_value_same : (es : List (K × X)) (i : ℕ) (p : K × X) (w : X) → slice_get es i ≡ Some p → slice_get (set_value_at es i w) i ≡ Some (p.0, w)
  get_value_same [] i p w h = cc
  get_value_same (e ∷ es) zero p w h = let same : e ≡ p = cc in ap (λ (x : K × X). Some (x.0, w)) same
  get_value_same (e ∷ es) (suc i) p w h = get_value_same es i p w h

  pub get_value_other : (es : List (K × X)) (i j : ℕ) (w : X) → ¬ (j ≡ i) → slice_get (set_value_at es i w) j ≡ slice_get es j
  get_value_other [] i j w n = refl
  get_value_other (e ∷ es) zero zero w n = absurd (n refl)
  get_value_other (e ∷ es) zero (suc j) w n = refl
  get_value_other (e ∷ es) (suc i) zero w n = refl
  get_value_other (e ∷ es) (suc i) (suc j) w n = get_value_other es i j w (λ e. n (ap suc e))

  pub found_set : (test : K → Bool) (es : List (K × X)) (i : ℕ) (w : X) → is_some (lookup test (set_value_at es i w)) ≡ is_some (lookup test es)
  found_set test [] i w = refl
  found_set test (e ∷ es) zero w = cases (test e.0) (λ q. rw q refl) (λ q. rw q refl)
  found_set test (e ∷ es) (suc i) w = cases (test e.0) (λ q. rw q refl) (λ q. rw q (found_set test es i w))

  pub found_more : (test : K → Bool) (es fs : List (K × X)) → is_some (lookup test es) ≡ true → is_some (lookup test (es ++ fs)) ≡ true
  found_more test [] fs h = cc
  found_more test (e ∷ es) fs h =
      cases (test e.0)
      (λ q. rw q refl)
      (λ q. let h1 : is_some (lookup test es) ≡ true = rw q at h in rw q (found_more test es fs h1))

pub lookup_map : {K X Y : Type 0} (f : X → Y) (test : K → Bool) (es : List (K × X)) → lookup test (map (λ (p : K × X). (p.0, f p.1)) es) ≡ option_map f (lookup test es)
lookup_map f test [] = refl
lookup_map f test (e ∷ es) = cases (test e.0) (λ q. rw q refl) (λ q. rw q (lookup_map f test es))

pub keys_map : {K X Y : Type 0} (f : X → Y) (es : List (K × X)) → map (λ (p : K × Y). p.0) (map (λ (p : K × X). (p.0, f p.1)) es) ≡ keys_of es
keys_map f [] = refl
keys_map f (e ∷ es) = ap (λ ks. e.0 ∷ ks) (keys_map f es)

module _ {K X : Type 0} (test : K → Bool) where
  pub lookup_stays : (es fs : List (K × X)) (v : X) → lookup test es ≡ Some v → lookup test (es ++ fs) ≡ Some v
  lookup_stays [] fs v h = cc
  lookup_stays (e ∷ es) fs v h =
      cases (test e.0)
      (λ q. let h1 : Some e.1 ≡ Some v = rw q at h in rw q h1)
      (λ q. let h1 : lookup test es ≡ Some v = rw q at h in rw q (lookup_stays es fs v h1))

  pub lookup_new : (es : List (K × X)) (p : K × X) → lookup test es ≡ None → test p.0 ≡ true → lookup test (es ++ p ∷ []) ≡ Some p.1
  lookup_new [] p h t = rw t refl
  lookup_new (e ∷ es) p h t =
      cases (test e.0)
      (λ q. let h1 : Some e.1 ≡ None = rw q at h in cc)
      (λ q. let h1 : lookup test es ≡ None = rw q at h in rw q (lookup_new es p h1 t))

  pub lookup_same : (es : List (K × X)) (p : K × X) → test p.0 ≡ false → lookup test (es ++ p ∷ []) ≡ lookup test es
  lookup_same [] p t = rw t refl
  lookup_same (e ∷ es) p t = cases (test e.0) (λ q. rw q refl) (λ q. rw q (lookup_same es p t))

pub none_some : {A : Type 0} (o : Option A) → false ≡ is_some o → o ≡ None
none_some None h = refl
none_some (Some x) h = absurd (true≢false (sym h))
