-- One entry after the other is dropped.
use Rattle.std.proofs.Common.{◌≡◌, ℕ, zero, suc, ◌+◌, ◌≤◌, List, [], ◌∷◌, Bool, true, false, Option, Some, None, refl, sym, ap, ◌∙◌, subst, arith}
use Rattle.std.specs.Prelude.{slice_get, filter, not, ◌==◌, nat_le}
use Rattle.std.specs.List.{remove}
use Rattle.std.proofs.lemmas.Bool.Decides.{nat_tests}
use Rattle.dx_cache.specs.declared.entry.Entry.{Entry}
use Rattle.dx_cache.specs.Cached.{Cached, Drops, total, of_site, find, place, front_place, or_place, next_place, fitting, passed, left_for, dropped_for, stays, IsPartOf, part_none, part_keep, part_skip}
use Rattle.dx_cache.proofs.Places.{cases, IsFirst, NonePass, first_place, none_place, none_filter, all_filter, first_slot}

-- What the front leaves.

pub front_none : (size budget : ℕ) (es : List Entry) → front_place size budget es ≡ None → nat_le size budget ≡ true → (fitting budget size es ≡ es) × (passed budget size es ≡ [])
front_none size budget [] h w = (refl, refl)
front_none size budget (e ∷ es) h w =
    cases (nat_le (total (e ∷ es) + size) budget)
    (λ q. (rw q refl, rw q refl))
    (λ q. let h1 : Some 0 ≡ None = rw (w, q) at h in cc)

pub front_some : (size budget : ℕ) (es : List Entry) (i : ℕ) (e : Entry) → front_place size budget es ≡ Some i → slice_get es i ≡ Some e → (nat_le size budget ≡ true) × (fitting budget size (remove es i) ≡ fitting budget size es) × (passed budget size es ≡ e ∷ passed budget size (remove es i))
front_some size budget [] i e h g = cc
front_some size budget (x ∷ es) i e h g =
    cases (nat_le size budget)
    (λ w. cases (nat_le (total (x ∷ es) + size) budget)
    (λ q. let h1 : None ≡ Some i = rw (w, q) at h in cc)
    (λ q. let h1 : Some 0 ≡ Some i = rw (w, q) at h in
    let at : 0 ≡ i = cc in
    let same : Some x ≡ Some e = subst (λ j. slice_get (x ∷ es) j ≡ Some e) (sym at) g in
    let xe : x ≡ e = cc in
    (w, subst (λ j. fitting budget size (remove (x ∷ es) j) ≡ fitting budget size (x ∷ es)) at (rw q refl), subst (λ j. passed budget size (x ∷ es) ≡ e ∷ passed budget size (remove (x ∷ es) j)) at (rw q (ap (λ y. y ∷ passed budget size es) xe)))))
    (λ w. let h1 : None ≡ Some i = rw w at h in cc)

-- What the oldest of a site leaves.

pub others-remove : (p : Entry → Bool) (es : List Entry) (i : ℕ) → IsFirst p es i → filter (λ e. not (p e)) (remove es i) ≡ filter (λ e. not (p e)) es
others-remove p [] i f = absurd f
others-remove p (x ∷ es) zero f = rw f refl
others-remove p (x ∷ es) (suc i) f = rw f.0 (ap (λ xs. x ∷ xs) (others-remove p es i f.1))

pub own-remove : (p : Entry → Bool) (es : List Entry) (i : ℕ) (e : Entry) → IsFirst p es i → slice_get es i ≡ Some e → filter p es ≡ e ∷ filter p (remove es i)
own-remove p [] i e f g = absurd f
own-remove p (x ∷ es) zero e f g = let same : x ≡ e = cc in rw f (ap (λ y. y ∷ filter p es) same)
own-remove p (x ∷ es) (suc i) e f g = rw f.0 (own-remove p es i e f.1 g)

none-remove : (p : Entry → Bool) (es : List Entry) (i : ℕ) → NonePass p es → NonePass p (remove es i)
none-remove p [] zero n = tt
none-remove p [] (suc i) n = tt
none-remove p (x ∷ es) zero n = n.1
none-remove p (x ∷ es) (suc i) n = (n.0, none-remove p es i n.1)

-- The next to be dropped.

pub next_none : (site : List ℕ) (attribute size budget : ℕ) (es : List Entry) → next_place site attribute size budget es ≡ None → (left_for site attribute size budget es ≡ es) × (dropped_for site attribute size budget es ≡ [])
next_none site attribute size budget es h =
    cases (attribute == 0)
    (λ a. (rw a refl, rw a refl))
    (λ a. cases (attribute == 2)
    (λ b. let h1 : or_place (place (of_site site) es) (front_place size budget es) ≡ None = rw (a, b) at h in
    by_place a b (place (of_site site) es) refl h1)
    (λ b. let h1 : front_place size budget es ≡ None = rw (a, b) at h in
    cases (nat_le size budget)
    (λ w. let f = front_none size budget es h1 w in (rw (a, w, b) f.0, rw (a, w, b) f.1))
    (λ w. (rw (a, w, b) refl, rw (a, w, b) refl))))
  where
    by_place : (attribute == 0) ≡ false → (attribute == 2) ≡ true → (o : Option ℕ) → place (of_site site) es ≡ o → or_place o (front_place size budget es) ≡ None → (left_for site attribute size budget es ≡ es) × (dropped_for site attribute size budget es ≡ [])
    by_place a b (Some i) e h = cc
    by_place a b None e h =
        let n = none_place (of_site site) es 0 e in
        cases (nat_le size budget)
        (λ w. let f = front_none size budget es h w in
        (rw (a, w, b, all_filter (of_site site) es n) f.0, rw (a, w, b, all_filter (of_site site) es n, none_filter (of_site site) es n) f.1))
        (λ w. (rw (a, w, b) (all_filter (of_site site) es n), rw (a, w, b) (none_filter (of_site site) es n)))

pub next_some : (site : List ℕ) (attribute size budget : ℕ) (es : List Entry) (i : ℕ) (e : Entry) → next_place site attribute size budget es ≡ Some i → slice_get es i ≡ Some e → (left_for site attribute size budget (remove es i) ≡ left_for site attribute size budget es) × (dropped_for site attribute size budget es ≡ e ∷ dropped_for site attribute size budget (remove es i))
next_some site attribute size budget es i e h g =
    cases (attribute == 0)
    (λ a. let h1 : None ≡ Some i = rw a at h in cc)
    (λ a. cases (attribute == 2)
    (λ b. let h1 : or_place (place (of_site site) es) (front_place size budget es) ≡ Some i = rw (a, b) at h in
    by_place a b (place (of_site site) es) refl h1)
    (λ b. let h1 : front_place size budget es ≡ Some i = rw (a, b) at h in
    let f = front_some size budget es i e h1 g in
    (rw (a, f.0, b) f.1, rw (a, f.0, b) f.2)))
  where
    by_place : (attribute == 0) ≡ false → (attribute == 2) ≡ true → (o : Option ℕ) → place (of_site site) es ≡ o → or_place o (front_place size budget es) ≡ Some i → (left_for site attribute size budget (remove es i) ≡ left_for site attribute size budget es) × (dropped_for site attribute size budget es ≡ e ∷ dropped_for site attribute size budget (remove es i))
    by_place a b (Some j) p h =
        let first = subst (λ k. IsFirst (of_site site) es k) (let same : j ≡ i = cc in same) (first_place (of_site site) es j p) in
        let left = others-remove (of_site site) es i first in
        let own = own-remove (of_site site) es i e first g in
        cases (nat_le size budget)
        (λ w. (rw (a, w, b, left) refl, rw (a, w, b, left, own) refl))
        (λ w. (rw (a, w, b) left, rw (a, w, b) own))
    by_place a b None p h =
        let n = none_place (of_site site) es 0 p in
        let m = none-remove (of_site site) es i n in
        let f = front_some size budget es i e h g in (
          rw (a, f.0, b, all_filter (of_site site) es n, all_filter (of_site site) (remove es i) m) f.1,
          rw (a, f.0, b, all_filter (of_site site) es n, all_filter (of_site site) (remove es i) m, none_filter (of_site site) es n, none_filter (of_site site) (remove es i) m) f.2,
        )

front_slot : (size budget : ℕ) (es : List Entry) (i : ℕ) → front_place size budget es ≡ Some i → (e : Entry) × (slice_get es i ≡ Some e)
front_slot size budget [] i h =
    cases (nat_le size budget)
    (λ w. let z : 0 + size ≡ size = omega arith in let h1 : None ≡ Some i = rw (w, z, w) at h in cc)
    (λ w. let h1 : None ≡ Some i = rw w at h in cc)
front_slot size budget (x ∷ es) i h =
    cases (nat_le size budget)
    (λ w. cases (nat_le (total (x ∷ es) + size) budget)
    (λ q. let h1 : None ≡ Some i = rw (w, q) at h in cc)
    (λ q. let h1 : Some 0 ≡ Some i = rw (w, q) at h in let at : 0 ≡ i = cc in (x, subst (λ j. slice_get (x ∷ es) j ≡ Some x) at refl)))
    (λ w. let h1 : None ≡ Some i = rw w at h in cc)

-- there is an entry to be dropped
pub next_slot : (site : List ℕ) (attribute size budget : ℕ) (es : List Entry) (i : ℕ) → next_place site attribute size budget es ≡ Some i → (e : Entry) × (slice_get es i ≡ Some e)
next_slot site attribute size budget es i h =
    cases (attribute == 0)
    (λ a. let h1 : None ≡ Some i = rw a at h in cc)
    (λ a. cases (attribute == 2)
    (λ b. let h1 : or_place (place (of_site site) es) (front_place size budget es) ≡ Some i = rw (a, b) at h in
    by_place (place (of_site site) es) refl h1)
    (λ b. let h1 : front_place size budget es ≡ Some i = rw (a, b) at h in front_slot size budget es i h1))
  where
    by_place : (o : Option ℕ) → place (of_site site) es ≡ o → or_place o (front_place size budget es) ≡ Some i → (e : Entry) × (slice_get es i ≡ Some e)
    by_place (Some j) p h =
        let slot = first_slot (of_site site) es j (first_place (of_site site) es j p) in
        let same : j ≡ i = cc in
        (slot.0, subst (λ k. slice_get es k ≡ Some slot.0) same slot.1)
    by_place None p h = front_slot size budget es i h

-- What `make_room` says.

pub room_none : (site : List ℕ) (attribute size : ℕ) (old new : Cached) → Drops (next_place site attribute size old.budget old.entries) old None new → (next_place site attribute size old.budget old.entries ≡ None) × (new ≡ old)
room_none site attribute size old new h = go (next_place site attribute size old.budget old.entries) refl h
  where
    go : (o : Option ℕ) → next_place site attribute size old.budget old.entries ≡ o → Drops o old None new → (next_place site attribute size old.budget old.entries ≡ None) × (new ≡ old)
    go None e d = (e, d.1)
    go (Some i) e d = let slot = next_slot site attribute size old.budget old.entries i e in let none = d.0 ∙ slot.1 in cc

pub record IsDrop (site : List ℕ) (attribute size : ℕ) (old new : Cached) (e : Entry) : Type 0 where
  pub place : ℕ
  pub slot : slice_get old.entries place ≡ Some e
  pub entries : new.entries ≡ remove old.entries place
  pub budget : new.budget ≡ old.budget
  pub room : old.room ≤ new.room
  pub left : left_for site attribute size old.budget new.entries ≡ left_for site attribute size old.budget old.entries
  pub dropped : dropped_for site attribute size old.budget old.entries ≡ e ∷ dropped_for site attribute size old.budget new.entries

pub room_some : (site : List ℕ) (attribute size : ℕ) (old new : Cached) (e : Entry) → Drops (next_place site attribute size old.budget old.entries) old (Some e) new → IsDrop site attribute size old new e
room_some site attribute size old new e h = go (next_place site attribute size old.budget old.entries) refl h
  where
    go : (o : Option ℕ) → next_place site attribute size old.budget old.entries ≡ o → Drops o old (Some e) new → IsDrop site attribute size old new e
    go None p d = let no = d.0 in cc
    go (Some i) p d =
        let n = next_some site attribute size old.budget old.entries i e p (sym d.0) in
        record {
          place = i;
          slot = sym d.0;
          entries = d.1;
          budget = d.2;
          room = d.3;
          left = ap (left_for site attribute size old.budget) d.1 ∙ n.0;
          dropped = n.1 ∙ ap (λ xs. e ∷ dropped_for site attribute size old.budget xs) (sym d.1);
        }

-- where none is dropped, and one of this size stays, its sum with the others is within the budget
pub none_fits : (site : List ℕ) (attribute size budget : ℕ) (es : List Entry) → next_place site attribute size budget es ≡ None → stays attribute size budget ≡ true → total es + size ≤ budget
none_fits site attribute size budget es h s =
    cases (attribute == 0)
    (λ a. let s1 : false ≡ true = rw a at s in cc)
    (λ a. cases (nat_le size budget)
    (λ w. cases (attribute == 2)
    (λ b. let h1 : or_place (place (of_site site) es) (front_place size budget es) ≡ None = rw (a, b) at h in
    by_front w (or_none (place (of_site site) es) (front_place size budget es) h1))
    (λ b. let h1 : front_place size budget es ≡ None = rw (a, b) at h in by_front w h1))
    (λ w. let s1 : false ≡ true = rw (a, w) at s in cc))
  where
    or_none : (o p : Option ℕ) → or_place o p ≡ None → p ≡ None
    or_none None p e = e
    or_none (Some i) p e = cc

    by_front : nat_le size budget ≡ true → front_place size budget es ≡ None → total es + size ≤ budget
    by_front w h =
        cases (nat_le (total es + size) budget)
        (λ q. grind (arith, nat_tests, q))
        (λ q. let h1 : Some 0 ≡ None = rw (w, q) at h in cc)

-- Some of a list.

pub part_all : {A : Type 0} (xs : List A) → IsPartOf xs xs
part_all [] = part_none
part_all (x ∷ xs) = part_keep (part_all xs)

pub part-remove : {A : Type 0} (xs : List A) (i : ℕ) → IsPartOf (remove xs i) xs
part-remove [] zero = part_none
part-remove [] (suc i) = part_none
part-remove (x ∷ xs) zero = part_skip (part_all xs)
part-remove (x ∷ xs) (suc i) = part_keep (part-remove xs i)

pub part_then : {A : Type 0} (xs ys zs : List A) → IsPartOf xs ys → IsPartOf ys zs → IsPartOf xs zs
part_then xs ys zs p part_none = p
part_then xs ys zs p (part_skip {y = y} {xs = ys1} {ys = zs1} q) = part_skip (part_then xs ys zs1 p q)
part_then xs ys zs (part_keep {x = x} {xs = xs1} {ys = ys1} p) (part_keep {x = x'} {xs = ys2} {ys = zs1} q) = part_keep (part_then xs1 ys2 zs1 p q)
part_then xs ys zs (part_skip p) (part_keep {x = x} {xs = ys2} {ys = zs1} q) = part_skip (part_then xs ys2 zs1 p q)

pub find-part : (t : ℕ) {xs ys : List Entry} → IsPartOf xs ys → find t ys ≡ None → find t xs ≡ None
find-part t part_none h = refl
find-part t (part_keep {x = x} {xs = xs1} {ys = ys1} p) h =
    cases (x.tag == t)
    (λ q. let h1 : Some x ≡ None = rw q at h in cc)
    (λ q. let h1 : find t ys1 ≡ None = rw q at h in rw q (find-part t p h1))
find-part t (part_skip {y = y} {ys = ys1} p) h =
    cases (y.tag == t)
    (λ q. let h1 : Some y ≡ None = rw q at h in cc)
    (λ q. let h1 : find t ys1 ≡ None = rw q at h in find-part t p h1)
