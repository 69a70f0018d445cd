-- Links whose terms are those of their places.
use Rattle.std.proofs.Common.{◌≡◌, ℕ, zero, suc, ◌+◌, ◌<◌, ◌≤◌, List, [], ◌∷◌, ◌++◌, length, map, take, Option, Some, None, Bool, true, false, refl, sym, ap, ◌∙◌, arith}
use Rattle.std.specs.Prelude.{slice_get, if◌then◌else◌}
use Rattle.std.specs.Map.{keys_of, remove_entry}
use Rattle.std.specs.BTreeMap.{insert_entry, is_at}
use Rattle.std.specs.Ordering.{is_eq, match_ordering}
use Rattle.std.specs.declared.cmp.Ordering.{Ordering}
use Rattle.std.specs.declared.cmp.Ordering.TheVariants.{Less, Equal, Greater}
use Rattle.dx_base.specs.Object.{Tree}
use Rattle.dx_objects.specs.Values.{value_at}
use Rattle.dx_links.specs.declared.held.Change.{Change}
use Rattle.dx_links.specs.declared.key.Key.{Key}
use Rattle.dx_links.specs.Emptied.{all_held, front_held, held_tag, values_held}
use Rattle.dx_links.specs.Holding.{Holding}
use Rattle.dx_links.specs.LinkMap.{LinkMap, after, held_at, key_cmp, put_at, tag_at}

-- one link more
pub front_more : (count n : ℕ) (links : LinkMap) → count < length links → tag_at (front_held count n links) count (held_tag (n + count)) ≡ front_held (suc count) n links
front_more zero n [] h = absurd (omega (arith, h))
front_more zero n (l ∷ ls) h = ap (λ k. (l.0, record { value = l.1.value; tag = held_tag k }) ∷ ls) (omega arith)
front_more (suc count) n [] h = absurd (omega (arith, h))
front_more (suc count) n (l ∷ ls) h = ap (λ xs. (l.0, record { value = l.1.value; tag = held_tag n }) ∷ xs) (ap (λ k. tag_at (front_held count (suc n) ls) count (held_tag k)) (omega arith) ∙ front_more count (suc n) ls (omega (arith, h)))

pub front_length : (count n : ℕ) (links : LinkMap) → length (front_held count n links) ≡ length links
front_length zero n links = refl
front_length (suc count) n [] = refl
front_length (suc count) n (l ∷ ls) = ap suc (front_length count (suc n) ls)

-- the later links stay
pub front_at : (count n i : ℕ) (links : LinkMap) → count ≤ i → slice_get (front_held count n links) i ≡ slice_get links i
front_at zero n i links h = refl
front_at (suc count) n i [] h = refl
front_at (suc count) n zero (l ∷ ls) h = absurd (omega (arith, h))
front_at (suc count) n (suc i) (l ∷ ls) h = front_at count (suc n) i ls (omega (arith, h))

-- the earlier ones have the terms of their places
pub front_here : (count n i : ℕ) (links : LinkMap) (l : Key × Holding) → i < count → slice_get links i ≡ Some l → slice_get (front_held count n links) i ≡ Some (l.0, record { value = l.1.value; tag = held_tag (n + i) })
front_here zero n i links l h e = absurd (omega (arith, h))
front_here (suc count) n i [] l h e = cc
front_here (suc count) n zero (x ∷ ls) l h e =
    let same : x ≡ l = cc in
    let place : n ≡ n + 0 = omega arith in
    λ t. Some ((same t).0, record { value = (same t).1.value; tag = held_tag (place t) })
front_here (suc count) n (suc i) (x ∷ ls) l h e =
    let place : suc n + i ≡ n + suc i = omega arith in
    front_here count (suc n) i ls l (omega (arith, h)) e ∙ ap (λ k. Some (l.0, record { value = l.1.value; tag = held_tag k })) place

pub front_keys : (count n : ℕ) (links : LinkMap) → keys_of (front_held count n links) ≡ keys_of links
front_keys zero n links = refl
front_keys (suc count) n [] = refl
front_keys (suc count) n (l ∷ ls) = ap (λ ks. l.0 ∷ ks) (front_keys count (suc n) ls)

pub front_none : (count n : ℕ) (k : Key) (links : LinkMap) → held_at k links ≡ None → held_at k (front_held count n links) ≡ None
front_none zero n k links e = e
front_none (suc count) n k [] e = refl
front_none (suc count) n k (l ∷ ls) e = by (is_eq (key_cmp k l.0)) e (front_none count (suc n) k ls)
  where
    by : (b : Bool) → (if b then Some l.1 else held_at k ls) ≡ None → (held_at k ls ≡ None → held_at k (front_held count (suc n) ls) ≡ None)
        → (if b then Some (record { value = l.1.value; tag = held_tag n }) else held_at k (front_held count (suc n) ls)) ≡ None
    by true e rest = cc
    by false e rest = rest e

-- ---- the values

pub values_more : (links : LinkMap) (i : ℕ) (l : Key × Holding) → slice_get links i ≡ Some l → values_held (take (suc i) links) ≡ values_held (take i links) ++ Some l.1.value ∷ []
values_more [] i l e = cc
values_more (x ∷ ls) zero l e = let same : x ≡ l = cc in ap (λ (y : Key × Holding). Some y.1.value ∷ []) same
values_more (x ∷ ls) (suc i) l e = ap (λ vs. Some x.1.value ∷ vs) (values_more ls i l e)

pub value_here : (links : LinkMap) (i : ℕ) (l : Key × Holding) → slice_get links i ≡ Some l → value_at (values_held links) i ≡ Some l.1.value
value_here [] i l e = cc
value_here (x ∷ ls) zero l e = let same : x ≡ l = cc in ap (λ (y : Key × Holding). Some y.1.value) same
value_here (x ∷ ls) (suc i) l e = value_here ls i l e

pub value_past : (links : LinkMap) (i : ℕ) → length links ≤ i → value_at (values_held links) i ≡ None
value_past [] i h = refl
value_past (x ∷ ls) zero h = absurd (omega (arith, h))
value_past (x ∷ ls) (suc i) h = value_past ls i (omega (arith, h))

-- ---- links without their terms, on which an emptying depends alone

abbrev pub bare : LinkMap → List (Key × Tree)
bare links = map (λ (l : Key × Holding). (l.0, l.1.value)) links

pub front_bare : (count n : ℕ) (links : LinkMap) → bare (front_held count n links) ≡ bare links
front_bare zero n links = refl
front_bare (suc count) n [] = refl
front_bare (suc count) n (l ∷ ls) = ap (λ es. (l.0, l.1.value) ∷ es) (front_bare count (suc n) ls)

bare_inserted : (links : LinkMap) (k : Key) (h : Holding) → bare (insert_entry key_cmp links k h) ≡ insert_entry key_cmp (bare links) k h.value
bare_inserted [] k h = refl
bare_inserted (x ∷ es) k h = by (key_cmp k x.0) (bare_inserted es k h)
  where
    by : (r : Ordering) → bare (insert_entry key_cmp es k h) ≡ insert_entry key_cmp (bare es) k h.value
        → bare (match_ordering r ((k, h) ∷ x ∷ es) ((x.0, h) ∷ es) (x ∷ insert_entry key_cmp es k h))
        ≡ match_ordering r ((k, h.value) ∷ (x.0, x.1.value) ∷ bare es) ((x.0, h.value) ∷ bare es) ((x.0, x.1.value) ∷ insert_entry key_cmp (bare es) k h.value)
    by Less e = refl
    by Equal e = refl
    by Greater e = ap (λ l. (x.0, x.1.value) ∷ l) e

bare_removed : (links : LinkMap) (k : Key) → bare (remove_entry (is_at (key_cmp k)) links) ≡ remove_entry (is_at (key_cmp k)) (bare links)
bare_removed [] k = refl
bare_removed (x ∷ es) k = by (is_eq (key_cmp k x.0)) (bare_removed es k)
  where
    by : (b : Bool) → bare (remove_entry (is_at (key_cmp k)) es) ≡ remove_entry (is_at (key_cmp k)) (bare es)
        → bare (if b then es else x ∷ remove_entry (is_at (key_cmp k)) es) ≡ (if b then bare es else (x.0, x.1.value) ∷ remove_entry (is_at (key_cmp k)) (bare es))
    by true e = refl
    by false e = ap (λ l. (x.0, x.1.value) ∷ l) e

bare_put : (links others : LinkMap) (k : Key) (o : Option Holding) → bare links ≡ bare others → bare (put_at links k o) ≡ bare (put_at others k o)
bare_put links others k (Some h) e = bare_inserted links k h ∙ ap (λ es. insert_entry key_cmp es k h.value) e ∙ sym (bare_inserted others k h)
bare_put links others k None e = bare_removed links k ∙ ap (remove_entry (is_at (key_cmp k))) e ∙ sym (bare_removed others k)

pub bare_after : (links others : LinkMap) (cs : List Change) → bare links ≡ bare others → bare (after links cs) ≡ bare (after others cs)
bare_after links others [] e = e
bare_after links others (c ∷ cs) e = bare_after (put_at links c.key c.held) (put_at others c.key c.held) cs (bare_put links others c.key c.held e)

same_front : (n : ℕ) (links others : LinkMap) → bare links ≡ bare others → front_held (length links) n links ≡ front_held (length others) n others
same_front n [] [] e = refl
same_front n [] (m ∷ ms) e = cc
same_front n (l ∷ ls) [] e = cc
same_front n (l ∷ ls) (m ∷ ms) e =
    let first : Key × Tree = (l.0, l.1.value) in
    let other : Key × Tree = (m.0, m.1.value) in
    let same : first ≡ other = cc in
    let rest : bare ls ≡ bare ms = cc in
    λ t. ((same t).0, record { value = (same t).1; tag = held_tag n }) ∷ same_front (suc n) ls ms rest t

pub same_held : (links others : LinkMap) → bare links ≡ bare others → all_held links ≡ all_held others
same_held links others e = same_front 0 links others e

values_bare : (links : LinkMap) → values_held links ≡ map (λ (p : Key × Tree). Some p.1) (bare links)
values_bare [] = refl
values_bare (l ∷ ls) = ap (λ vs. Some l.1.value ∷ vs) (values_bare ls)

pub same_values : (links others : LinkMap) → bare links ≡ bare others → values_held links ≡ values_held others
same_values links others e = values_bare links ∙ ap (map (λ (p : Key × Tree). Some p.1)) e ∙ sym (values_bare others)
