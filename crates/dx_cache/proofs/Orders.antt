-- Lists of slots, and the entries that they give.
use Rattle.std.proofs.Common.{◌≡◌, ℕ, zero, suc, ◌+◌, ◌<◌, List, [], ◌∷◌, ◌++◌, length, map, Bool, true, false, Some, None, refl, sym, ap, ap₂, ◌∙◌, arith, inl, inr}
use Rattle.std.specs.Prelude.{slice_get, filter, ◌==◌}
use Rattle.std.specs.List.{remove}
use Rattle.dx_cache.specs.Chain.{IsIn, IsOut, AreApart, first_or}
use Rattle.dx_cache.proofs.SlotLaws.{cases, not_in_out, out_not_in}
use Rattle.dx_cache.specs.declared.entry.Entry.{Entry}
use Rattle.dx_cache.specs.Cached.{has_tag, place_from}
use Rattle.dx_cache.proofs.Places.{NonePass}

-- Filters.

pub filter_append : (p : ℕ → Bool) (xs ys : List ℕ) → filter p (xs ++ ys) ≡ filter p xs ++ filter p ys
filter_append p [] ys = refl
filter_append p (x ∷ xs) ys =
    cases (p x)
    (λ q. rw q (ap (λ zs. x ∷ zs) (filter_append p xs ys)))
    (λ q. rw q (filter_append p xs ys))

pub filter_keeps : (p : ℕ → Bool) (i : ℕ) (ys : List ℕ) → p i ≡ true → filter p (i ∷ ys) ≡ i ∷ filter p ys
filter_keeps p i ys q = rw q refl

pub filter_skips : (p : ℕ → Bool) (i : ℕ) (ys : List ℕ) → p i ≡ false → filter p (i ∷ ys) ≡ filter p ys
filter_skips p i ys q = rw q refl

pub filter_middle : (p : ℕ → Bool) (xs ys : List ℕ) (i : ℕ) → p i ≡ true → filter p (xs ++ i ∷ ys) ≡ filter p xs ++ i ∷ filter p ys
filter_middle p xs ys i q = filter_append p xs (i ∷ ys) ∙ ap (λ zs. filter p xs ++ zs) (filter_keeps p i ys q)

pub filter_without : (p : ℕ → Bool) (xs ys : List ℕ) (i : ℕ) → p i ≡ false → filter p (xs ++ i ∷ ys) ≡ filter p (xs ++ ys)
filter_without p xs ys i q = filter_append p xs (i ∷ ys) ∙ ap (λ zs. filter p xs ++ zs) (filter_skips p i ys q) ∙ sym (filter_append p xs ys)

pub filter_last : (p : ℕ → Bool) (xs : List ℕ) (i : ℕ) → p i ≡ true → filter p (xs ++ i ∷ []) ≡ filter p xs ++ i ∷ []
filter_last p xs i q = filter_middle p xs [] i q

pub filter_not_last : (p : ℕ → Bool) (xs : List ℕ) (i : ℕ) → p i ≡ false → filter p (xs ++ i ∷ []) ≡ filter p xs
filter_not_last p xs i q = filter_append p xs (i ∷ []) ∙ ap (λ zs. filter p xs ++ zs) (filter_skips p i [] q) ∙ nil (filter p xs)
  where
    nil : (zs : List ℕ) → zs ++ [] ≡ zs
    nil [] = refl
    nil (z ∷ zs) = ap (λ ws. z ∷ ws) (nil zs)

pub in_filter : (p : ℕ → Bool) (xs : List ℕ) (j : ℕ) → IsIn j (filter p xs) → IsIn j xs × (p j ≡ true)
in_filter p [] j n = absurd n
in_filter p (x ∷ xs) j n =
    cases (p x)
    (λ q. let m : IsIn j (x ∷ filter p xs) = rw q at n in by q (in_filter p xs j) m)
    (λ q. let m : IsIn j (filter p xs) = rw q at n in let r = in_filter p xs j m in (inr r.0, r.1))
  where
    by : p x ≡ true → (IsIn j (filter p xs) → IsIn j xs × (p j ≡ true)) → IsIn j (x ∷ filter p xs) → IsIn j (x ∷ xs) × (p j ≡ true)
    by q more (inl e) = (inl e, ap p e ∙ q)
    by q more (inr m) = let r = more m in (inr r.0, r.1)

pub filter_in : (p : ℕ → Bool) (xs : List ℕ) (j : ℕ) → IsIn j xs → p j ≡ true → IsIn j (filter p xs)
filter_in p [] j n q = absurd n
filter_in p (x ∷ xs) j (inl e) q = let here : p x ≡ true = ap p (sym e) ∙ q in rw here (inl e)
filter_in p (x ∷ xs) j (inr n) q = cases (p x) (λ r. rw r (inr (filter_in p xs j n q))) (λ r. rw r (filter_in p xs j n q))

pub out_filter : (p : ℕ → Bool) (xs : List ℕ) (j : ℕ) → IsOut j xs → IsOut j (filter p xs)
out_filter p xs j o = not_in_out j (filter p xs) (λ n. out_not_in j xs o (in_filter p xs j n).0)

pub apart_filter : (p : ℕ → Bool) (xs : List ℕ) → AreApart xs → AreApart (filter p xs)
apart_filter p [] a = tt
apart_filter p (x ∷ xs) a = cases (p x) (λ q. rw q (out_filter p xs x a.0, apart_filter p xs a.1)) (λ q. rw q (apart_filter p xs a.1))

pub filter_same : (p q : ℕ → Bool) (xs : List ℕ) → ((j : ℕ) → IsIn j xs → p j ≡ q j) → filter p xs ≡ filter q xs
filter_same p q [] f = refl
filter_same p q (x ∷ xs) f =
    let e = f x (inl refl) in
    let rest = filter_same p q xs (λ j n. f j (inr n)) in
    cases (q x)
    (λ r. let r1 : p x ≡ true = e ∙ r in rw (r1, r) (ap (λ zs. x ∷ zs) rest))
    (λ r. let r1 : p x ≡ false = e ∙ r in rw (r1, r) rest)

-- Entries of slots.

pub map_same : (f g : ℕ → Entry) (xs : List ℕ) → ((j : ℕ) → IsIn j xs → f j ≡ g j) → map f xs ≡ map g xs
map_same f g [] h = refl
map_same f g (x ∷ xs) h = ap₂ (λ a b. a ∷ b) (h x (inl refl)) (map_same f g xs (λ j n. h j (inr n)))

pub map_both : (f : ℕ → Entry) (xs ys : List ℕ) → map f (xs ++ ys) ≡ map f xs ++ map f ys
map_both f [] ys = refl
map_both f (x ∷ xs) ys = ap (λ zs. f x ∷ zs) (map_both f xs ys)

pub get_middle : (f : ℕ → Entry) (xs ys : List ℕ) (i : ℕ) → slice_get (map f (xs ++ i ∷ ys)) (length xs) ≡ Some (f i)
get_middle f [] ys i = refl
get_middle f (x ∷ xs) ys i = get_middle f xs ys i

pub remove_middle : (f : ℕ → Entry) (xs ys : List ℕ) (i : ℕ) → remove (map f (xs ++ i ∷ ys)) (length xs) ≡ map f (xs ++ ys)
remove_middle f [] ys i = refl
remove_middle f (x ∷ xs) ys i = ap (λ zs. f x ∷ zs) (remove_middle f xs ys i)

pub length_both : (xs ys : List ℕ) → length (xs ++ ys) ≡ length xs + length ys
length_both [] ys = omega arith
length_both (x ∷ xs) ys = let r = length_both xs ys in omega (arith, r)

pub none_pass : (f : ℕ → Entry) (t : ℕ) (js : List ℕ) → ((j : ℕ) → IsIn j js → ((f j).tag == t) ≡ false) → NonePass (has_tag t) (map f js)
none_pass f t [] h = tt
none_pass f t (j ∷ js) h = (h j (inl refl), none_pass f t js (λ k n. h k (inr n)))

-- The first slot of a filter stands at the first place.

pub record IsPlaced (order : List ℕ) (i : ℕ) (q : Entry → Bool) (f : ℕ → Entry) (n : ℕ) : Type 0 where
  pub left : List ℕ
  pub right : List ℕ
  pub whole : order ≡ left ++ i ∷ right
  pub place : place_from n q (map f order) ≡ Some (n + length left)

pub first_placed : (p : ℕ → Bool) (q : Entry → Bool) (f : ℕ → Entry) (order : List ℕ) (i n : ℕ) → ((j : ℕ) → IsIn j order → q (f j) ≡ p j) → first_or (filter p order) None ≡ Some i → IsPlaced order i q f n
first_placed p q f [] i n s e = cc
first_placed p q f (x ∷ xs) i n s e =
    let here = s x (inl refl) in
    cases (p x)
    (λ r.
    let e1 : Some x ≡ Some i = rw r at e in
    let same : x ≡ i = cc in
    let passes : q (f x) ≡ true = here ∙ r in
    record { left = []; right = xs; whole = ap (λ y. y ∷ xs) same; place = rw passes (ap Some (omega arith)) })
    (λ r.
    let e1 : first_or (filter p xs) None ≡ Some i = rw r at e in
    let rest = first_placed p q f xs i (suc n) (λ j m. s j (inr m)) e1 in
    let fails : q (f x) ≡ false = here ∙ r in
    record { left = x ∷ rest.left; right = rest.right; whole = ap (λ ys. x ∷ ys) rest.whole; place = rw fails (rest.place ∙ ap Some (omega arith)) })

pub none_placed : (p : ℕ → Bool) (q : Entry → Bool) (f : ℕ → Entry) (order : List ℕ) (n : ℕ) → ((j : ℕ) → IsIn j order → q (f j) ≡ p j) → first_or (filter p order) None ≡ None → place_from n q (map f order) ≡ None
none_placed p q f [] n s e = refl
none_placed p q f (x ∷ xs) n s e =
    let here = s x (inl refl) in
    cases (p x)
    (λ r. let e1 : Some x ≡ None = rw r at e in cc)
    (λ r.
    let e1 : first_or (filter p xs) None ≡ None = rw r at e in
    let fails : q (f x) ≡ false = here ∙ r in
    rw fails (none_placed p q f xs (suc n) (λ j m. s j (inr m)) e1))

-- The slot at a place.

pub length_map : (f : ℕ → Entry) (xs : List ℕ) → length (map f xs) ≡ length xs
length_map f [] = refl
length_map f (x ∷ xs) = let r = length_map f xs in omega (arith, r)

pub has_place : (xs : List ℕ) (n : ℕ) → n < length xs → slice_get xs n ≡ None → ⊥
has_place [] n w h = let no : 0 < 0 = omega (arith, w) in omega (arith, no)
has_place (x ∷ xs) zero w h = cc
has_place (x ∷ xs) (suc n) w h = has_place xs n (omega (arith, w)) h

pub record IsSplitAt (xs : List ℕ) (n i : ℕ) : Type 0 where
  pub left : List ℕ
  pub right : List ℕ
  pub whole : xs ≡ left ++ i ∷ right
  pub place : length left ≡ n

pub split_place : (xs : List ℕ) (n i : ℕ) → slice_get xs n ≡ Some i → IsSplitAt xs n i
split_place [] n i h = cc
split_place (x ∷ xs) zero i h = let same : x ≡ i = cc in record { left = []; right = xs; whole = ap (λ y. y ∷ xs) same; place = refl }
split_place (x ∷ xs) (suc n) i h =
    let r = split_place xs n i h in
    let p = r.place in
    record { left = x ∷ r.left; right = r.right; whole = ap (λ ys. x ∷ ys) r.whole; place = omega (arith, p) }
