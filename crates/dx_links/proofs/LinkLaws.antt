-- Links, as a search of their keys finds them.
use Rattle.std.proofs.Common.{◌≡◌, ℕ, zero, suc, ◌<◌, ◌≤◌, List, [], ◌∷◌, length, get_or, Option, Some, None, refl, sym, ap, ◌∙◌, subst, arith}
use Rattle.std.specs.Prelude.{slice_set}
use Rattle.std.specs.Map.{keys_of}
use Rattle.std.specs.List.{insert, remove}
use Rattle.std.specs.List.Sorted.{IsStrictlySortedBy, IsPartitionPoint, IsNonDecreasingBy}
use Rattle.std.specs.Ordering.{ordering_index}
use Rattle.std.specs.Cmp.{IsTotalOrder}
use Rattle.std.specs.declared.cmp.Ordering.TheVariants.{Less, Equal, Greater}
use Rattle.dx_links.specs.declared.key.Key.{Key}
use Rattle.dx_links.specs.Holding.{Holding}
use Rattle.dx_links.specs.LinkMap.{LinkMap, key_cmp, held_at, put_at, tag_at}
use Rattle.dx_links.specs.declared.held.Change.{Change}
use Rattle.dx_tags.specs.declared.term.ValueTag.{ValueTag}
use Rattle.dx_links.specs.contracts.key.KeyOrd.TheImpl.Laws as laws
use Rattle.dx_tags.proofs.SortedPairs.{lookup_found, lookup_nowhere, put_found, put_between, taken_found, taken_nowhere, sorted_put, sorted_taken, rises, front, back, nowhere}

pub key_cmp_total : IsTotalOrder key_cmp
key_cmp_total = laws.total-law

abbrev pub AreSorted : LinkMap → Type 0
AreSorted links = IsStrictlySortedBy key_cmp (keys_of links)

-- a search has ended at i between two keys
abbrev pub EndsAt : Key → LinkMap → ℕ → Type 0
EndsAt k es i = IsNonDecreasingBy (λ (e : Key × Holding). ordering_index (key_cmp e.0 k)) es → IsPartitionPoint (λ (e : Key × Holding). key_cmp e.0 k ≡ Less) (λ (e : Key × Holding). key_cmp e.0 k ≡ Greater) es i

-- it has ended at i with a hit
abbrev pub HitsAt : Key → LinkMap → ℕ → Type 0
HitsAt k es i = (d : Key × Holding) → key_cmp (get_or es i d).0 k ≡ Equal

pub none_sorted : (es : LinkMap) → es ≡ [] → AreSorted es
unfolding IsStrictlySortedBy
none_sorted es e = subst AreSorted (sym e) tt

pub found : (es seen : LinkMap) (k : Key) (i : ℕ) (r : Key × Holding) → AreSorted es → seen ≡ es → i < length seen → HitsAt k seen i → r ≡ get_or es i r → held_at k es ≡ Some r.1
found es seen k i r s a h e at =
    lookup_found key_cmp_total k es i r s (subst (λ l. i < length l) a h) (subst (λ l. key_cmp (get_or l i r).0 k ≡ Equal) a (e r)) ∙ ap (λ (p : Key × Holding). Some p.1) (sym at)

pub not_found : (es seen : LinkMap) (k : Key) (i : ℕ) → AreSorted es → seen ≡ es → EndsAt k seen i → held_at k es ≡ None
not_found es seen k i s a p = lookup_nowhere key_cmp_total k es (nowhere key_cmp_total k es i (subst (λ l. EndsAt k l i) a p (rises key_cmp_total k es s)))

pub replaces : (es seen : LinkMap) (k : Key) (o : Option Holding) (v : Holding) (i : ℕ) (r : Key × Holding) → AreSorted es → seen ≡ es → o ≡ Some v → i < length seen → HitsAt k seen i → r ≡ get_or es i r → slice_set es i (r.0, v) ≡ put_at es k o
replaces es seen k o v i r s a is h e at =
    ap (λ (p : Key × Holding). slice_set es i (p.0, v)) at
    ∙ sym (put_found key_cmp_total k v es i r s (subst (λ l. i < length l) a h) (subst (λ l. key_cmp (get_or l i r).0 k ≡ Equal) a (e r)))
    ∙ ap (put_at es k) (sym is)

pub joins : (es seen : LinkMap) (k : Key) (o : Option Holding) (v : Holding) (i : ℕ) → AreSorted es → seen ≡ es → o ≡ Some v → i ≤ length seen → EndsAt k seen i → insert es i (k, v) ≡ put_at es k o
joins es seen k o v i s a is h p =
    let point = subst (λ l. EndsAt k l i) a p (rises key_cmp_total k es s) in
    sym (put_between key_cmp_total k v es i (subst (λ l. i ≤ length l) a h) (front key_cmp_total k es i point) (λ d l. back key_cmp_total k es i point i d (omega arith) l))
    ∙ ap (put_at es k) (sym is)

pub leaves : (es seen : LinkMap) (k : Key) (o : Option Holding) (i : ℕ) (d : Key × Holding) → AreSorted es → seen ≡ es → o ≡ None → i < length seen → HitsAt k seen i → remove es i ≡ put_at es k o
leaves es seen k o i d s a is h e =
    sym (taken_found key_cmp_total k es i d s (subst (λ l. i < length l) a h) (subst (λ l. key_cmp (get_or l i d).0 k ≡ Equal) a (e d)))
    ∙ ap (put_at es k) (sym is)

pub stays : (es seen : LinkMap) (k : Key) (o : Option Holding) (i : ℕ) → AreSorted es → seen ≡ es → o ≡ None → EndsAt k seen i → es ≡ put_at es k o
stays es seen k o i s a is p =
    sym (taken_nowhere key_cmp_total k es (nowhere key_cmp_total k es i (subst (λ l. EndsAt k l i) a p (rises key_cmp_total k es s))))
    ∙ ap (put_at es k) (sym is)

pub put_sorted : (es : LinkMap) (k : Key) (o : Option Holding) → AreSorted es → AreSorted (put_at es k o)
put_sorted es k (Some v) s = sorted_put key_cmp_total k v es s
put_sorted es k None s = sorted_taken key_cmp_total k es s

pub after_put : (es after : LinkMap) (k : Key) (o : Option Holding) → AreSorted es → after ≡ put_at es k o → AreSorted after
after_put es after k o s e = subst AreSorted (sym e) (put_sorted es k o s)

-- ---- another tag

pub tagged : (es : LinkMap) (i : ℕ) (r : Key × Holding) (h : Holding) (t : ValueTag) → i < length es → r ≡ get_or es i r → h.value ≡ r.1.value → h.tag ≡ t → slice_set es i (r.0, h) ≡ tag_at es i t
tagged [] i r h t l at v g = absurd (omega (arith, l))
tagged (e ∷ es) zero r h t l at v g = λ k. ((at k).0, record { value = (v ∙ ap (λ (p : Key × Holding). p.1.value) at) k; tag = g k }) ∷ es
tagged (e ∷ es) (suc i) r h t l at v g = ap (λ ls. e ∷ ls) (tagged es i r h t (omega (arith, l)) at v g)

keys_tagged : (es : LinkMap) (i : ℕ) (t : ValueTag) → keys_of (tag_at es i t) ≡ keys_of es
keys_tagged [] i t = refl
keys_tagged (e ∷ es) zero t = refl
keys_tagged (e ∷ es) (suc i) t = ap (λ ks. e.0 ∷ ks) (keys_tagged es i t)

pub tag_sorted : (es after : LinkMap) (i : ℕ) (t : ValueTag) → AreSorted es → after ≡ tag_at es i t → AreSorted after
tag_sorted es after i t s e = subst (IsStrictlySortedBy key_cmp) (sym (ap keys_of e ∙ keys_tagged es i t)) s

-- ---- changes

pub nothing_left : (cs : List Change) → length cs ≡ 0 → cs ≡ []
nothing_left [] e = refl
nothing_left (c ∷ cs) e = cc
