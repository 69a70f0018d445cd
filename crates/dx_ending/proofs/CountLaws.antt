-- How many links have a tag, as links and values change.
use Rattle.std.proofs.Common.{◌≡◌, ◌⊎◌, inl, inr, ⊎_elim, ℕ, zero, suc, ◌+◌, ◌≤◌, ◌<◌, List, [], ◌∷◌, length, Bool, true, false, Option, Some, None, refl, sym, ap, ◌∙◌, subst, arith}
use Rattle.std.specs.Prelude.{◌==◌, ◌&&◌, ◌-◌, not, is_some, if◌then◌else◌}
use Rattle.std.proofs.lemmas.Bool.{cases_lt}
use Rattle.std.specs.List.{IsDistinct, AllByRecursion}
use Rattle.std.specs.List.Sorted.{IsStrictlySortedBy}
use Rattle.std.specs.Map.{keys_of, lookup, remove_entry}
use Rattle.std.specs.BTreeMap.{insert_entry, is_at}
use Rattle.std.specs.Cmp.{unsigned_Decides}
use Rattle.std.specs.Ordering.{is_eq, match_ordering}
use Rattle.std.specs.declared.cmp.Ordering.{Ordering}
use Rattle.std.specs.declared.cmp.Ordering.TheVariants.{Less, Equal, Greater}
use Rattle.dx_base.specs.Object.{Tree as Object}
use Rattle.dx_cache.proofs.Places.{cases}
use Rattle.dx_tags.specs.declared.term.ValueTag.{ValueTag}
use Rattle.dx_tags.specs.contracts.term.ValueTagPartialEq.TheImpl as tags
use Rattle.dx_links.specs.declared.key.Key.{Key}
use Rattle.dx_links.specs.declared.held.Change.{Change}
use Rattle.dx_links.specs.Emptied.{front_held, all_held}
use Rattle.dx_links.specs.Holding.{Holding}
use Rattle.dx_links.specs.LinkMap.{LinkMap, key_cmp, held_at, put_at}
use Rattle.dx_links.proofs.LinkLaws.{AreSorted, key_cmp_total}
use Rattle.dx_machine.proofs.SameTerms.{same_test}
use Rattle.dx_getting.specs.Terms.{BoundValues, Table, count_in}
use Rattle.dx_getting.specs.Bound.{links_with, IsBound, AreLinks}
use Rattle.dx_getting.proofs.Names.{tag_decides}
use Rattle.dx_ending.specs.InPlace.{held_with, found_with, IsReleased, IsSet, ComeFrom}

-- ---- tags

one_way : (t u : ValueTag) → tags.ghosts.eq t u ≡ tags.ghosts.eq u t
one_way t u = same_test (tags.ghosts.eq t u) (tags.ghosts.eq u t) (λ e. (tag_decides u t).1 (sym ((tag_decides t u).0 e))) (λ e. (tag_decides t u).1 (sym ((tag_decides u t).0 e)))

-- ---- links with a tag

few_each : (b : Bool) (n m : ℕ) → n ≤ m → (if b then 1 else 0) + n ≤ suc m
few_each true n m h = omega (arith, h)
few_each false n m h = omega (arith, h)

pub with_few : (t : ValueTag) (links : LinkMap) → links_with t links ≤ length links
with_few t [] = omega arith
with_few t (l ∷ ls) = few_each (tags.ghosts.eq t l.1.tag) (links_with t ls) (length ls) (with_few t ls)

-- what a key holds is one of those with its tag, so that none has a tag that isn't counted
with_held : (t : ValueTag) (k : Key) (links : LinkMap) → held_with t (held_at k links) ≤ links_with t links
with_held t k [] = omega arith
with_held t k (l ∷ ls) = by (is_eq (key_cmp k l.0)) (with_held t k ls)
  where
    by : (b : Bool) → held_with t (held_at k ls) ≤ links_with t ls → held_with t (if b then Some l.1 else held_at k ls) ≤ (if tags.ghosts.eq t l.1.tag then 1 else 0) + links_with t ls
    by true h = omega arith
    by false h = omega (arith, h)

-- a key below each key has no link
not_below : (k : Key) (ls : LinkMap) → AllByRecursion (λ q. key_cmp k q ≡ Less) (keys_of ls) → held_at k ls ≡ None
not_below k [] a = refl
not_below k (l ∷ ls) a = rw a.0 (not_below k ls a.1)

all_below : (k q : Key) (ls : LinkMap) → key_cmp k q ≡ Less → AllByRecursion (λ r. key_cmp q r ≡ Less) (keys_of ls) → AllByRecursion (λ r. key_cmp k r ≡ Less) (keys_of ls)
all_below k q [] e a = tt
all_below k q (l ∷ ls) e a = (key_cmp_total.trans k q l.0 e a.0, all_below k q ls e a.1)

with_set : (t : ValueTag) (k : Key) (h : Holding) (links : LinkMap) → AreSorted links → links_with t (insert_entry key_cmp links k h) + held_with t (held_at k links) ≡ links_with t links + held_with t (Some h)
unfolding IsStrictlySortedBy
with_set t k h [] s = omega arith
with_set t k h (l ∷ ls) s = by (key_cmp k l.0) refl (with_set t k h ls s.1)
  where
    by : (r : Ordering) → key_cmp k l.0 ≡ r → links_with t (insert_entry key_cmp ls k h) + held_with t (held_at k ls) ≡ links_with t ls + held_with t (Some h)
        → links_with t (match_ordering r ((k, h) ∷ l ∷ ls) ((l.0, h) ∷ ls) (l ∷ insert_entry key_cmp ls k h)) + held_with t (if is_eq r then Some l.1 else held_at k ls) ≡ links_with t (l ∷ ls) + held_with t (Some h)
    by Less e next =
        let none : held_with t (held_at k ls) ≡ 0 = ap (held_with t) (not_below k ls (all_below k l.0 ls e s.0)) in
        omega (arith, none)
    by Equal e next = omega arith
    by Greater e next = omega (arith, next)

with_taken : (t : ValueTag) (k : Key) (links : LinkMap) → links_with t (remove_entry (is_at (key_cmp k)) links) + held_with t (held_at k links) ≡ links_with t links + 0
with_taken t k [] = refl
with_taken t k (l ∷ ls) = by (is_eq (key_cmp k l.0)) (with_taken t k ls)
  where
    by : (b : Bool) → links_with t (remove_entry (is_at (key_cmp k)) ls) + held_with t (held_at k ls) ≡ links_with t ls + 0
        → links_with t (if b then ls else l ∷ remove_entry (is_at (key_cmp k)) ls) + held_with t (if b then Some l.1 else held_at k ls) ≡ links_with t (l ∷ ls) + 0
    by true next = omega arith
    by false next = omega (arith, next)

-- where a key holds something else, its link no longer counts, and what it holds now does
with_put : (t : ValueTag) (k : Key) (o : Option Holding) (links : LinkMap) → AreSorted links → links_with t (put_at links k o) + held_with t (held_at k links) ≡ links_with t links + held_with t o
with_put t k (Some h) links s = with_set t k h links s
with_put t k None links s = with_taken t k links

-- ---- how many links there are

count_set : (k : Key) (h : Holding) (links : LinkMap) → length (insert_entry key_cmp links k h) ≤ 1 + length links
count_set k h [] = omega arith
count_set k h (l ∷ ls) = by (key_cmp k l.0) (count_set k h ls)
  where
    by : (r : Ordering) → length (insert_entry key_cmp ls k h) ≤ 1 + length ls → length (match_ordering r ((k, h) ∷ l ∷ ls) ((l.0, h) ∷ ls) (l ∷ insert_entry key_cmp ls k h)) ≤ 1 + suc (length ls)
    by Less next = omega arith
    by Equal next = omega arith
    by Greater next = omega (arith, next)

count_taken : (k : Key) (links : LinkMap) → length (remove_entry (is_at (key_cmp k)) links) ≤ 1 + length links
count_taken k [] = omega arith
count_taken k (l ∷ ls) = by (is_eq (key_cmp k l.0)) (count_taken k ls)
  where
    by : (b : Bool) → length (remove_entry (is_at (key_cmp k)) ls) ≤ 1 + length ls → length (if b then ls else l ∷ remove_entry (is_at (key_cmp k)) ls) ≤ 1 + suc (length ls)
    by true next = omega arith
    by false next = omega (arith, next)

pub count_put : (links : LinkMap) (k : Key) (o : Option Holding) → length (put_at links k o) ≤ 1 + length links
count_put links k (Some h) = count_set k h links
count_put links k None = count_taken k links

-- ---- what is found by tags

some_there : (n : ℕ) → (n == 0) ≡ false → 1 ≤ n
some_there zero q = cc
some_there (suc n) q = omega arith

not_none : (n : ℕ) → 1 ≤ n → true ≡ not (n == 0)
not_none n h = cases (n == 0)
    (λ q. let none : n ≡ 0 = (unsigned_Decides n 0).0 q in absurd (omega (arith, h, none)))
    (λ q. ap not (sym q))

-- a value is found where a link more holds one, or others did
found_more : (t : ValueTag) (o : Option Holding) (was now : Option Object) (n m : ℕ) → is_some was ≡ not (n == 0) → now ≡ found_with t o was → m ≡ held_with t o + n → is_some now ≡ not (m == 0)
found_more t None was now n m w v e =
    let same : n ≡ m = omega (arith, e) in
    ap is_some v ∙ w ∙ ap (λ x. not (x == 0)) same
found_more t (Some h) was now n m w v e = cases (tags.ghosts.eq h.tag t)
    (λ q. let one : held_with t (Some h) ≡ 1 = ap (λ (b : Bool). if b then 1 else 0) (one_way t h.tag ∙ q) in
    ap is_some v ∙ ap (λ (b : Bool). is_some (if b then Some h.value else was)) q ∙ not_none m (omega (arith, e, one)))
    (λ q. let none : held_with t (Some h) ≡ 0 = ap (λ (b : Bool). if b then 1 else 0) (one_way t h.tag ∙ q) in
    let same : n ≡ m = omega (arith, e, none) in
    ap is_some v ∙ ap (λ (b : Bool). is_some (if b then Some h.value else was)) q ∙ w ∙ ap (λ x. not (x == 0)) same)

-- ---- a link is released

module _ (links : LinkMap) (k : Key) (h : Holding) (old new : Table) (at : held_at k links ≡ Some h) (b : IsBound links old) (from : new.from ≡ old.from)
    (counts : (t : ValueTag) → count_in t new.counts ≡ (if tags.ghosts.eq h.tag t then count_in h.tag old.counts - 1 else count_in t old.counts))
    (values : (t : ValueTag) → lookup (tags.ghosts.eq t) new.pairs ≡ (if tags.ghosts.eq h.tag t && (count_in h.tag old.counts - 1 == 0) then None else lookup (tags.ghosts.eq t) old.pairs)) where
  -- whether the link has a tag
  has : (t : ValueTag) → held_with t (held_at k links) ≡ (if tags.ghosts.eq h.tag t then 1 else 0)
  has t = ap (held_with t) at ∙ ap (λ (x : Bool). if x then 1 else 0) (one_way t h.tag)

  has_own : (t : ValueTag) → tags.ghosts.eq h.tag t ≡ true → held_with t (held_at k links) ≡ 1
  has_own t q = has t ∙ ap (λ (x : Bool). if x then 1 else 0) q

  count_own : (t : ValueTag) → tags.ghosts.eq h.tag t ≡ true → count_in t new.counts ≡ count_in t old.counts - 1
  count_own t q =
      counts t ∙ ap (λ (x : Bool). if x then count_in h.tag old.counts - 1 else count_in t old.counts) q
      ∙ ap (λ u. count_in u old.counts - 1) ((tag_decides h.tag t).0 q)

  count_other : (t : ValueTag) → tags.ghosts.eq h.tag t ≡ false → count_in t new.counts ≡ count_in t old.counts
  count_other t q = counts t ∙ ap (λ (x : Bool). if x then count_in h.tag old.counts - 1 else count_in t old.counts) q

  none_more : (t : ValueTag) → count_in t new.counts ≤ count_in t old.counts
  none_more t = cases (tags.ghosts.eq h.tag t) (λ q. let count = count_own t q in omega (arith, count)) (λ q. let count = count_other t q in omega (arith, count))

  still_below : (t : ValueTag) → t.tag < new.from → count_in t new.counts ≡ 0
  still_below t l = let was = b.below t (subst (λ n. t.tag < n) from l) in let less = none_more t in omega (arith, was, less)

  less : (t : ValueTag) → new.from ≤ t.tag → count_in t new.counts + held_with t (held_at k links) ≡ links_with t links
  less t l =
      let was = b.counted t (subst (λ n. n ≤ t.tag) from l) in
      cases (tags.ghosts.eq h.tag t)
      (λ q. let one = has_own t q in let count = count_own t q in let some = with_held t k links in omega (arith, one, count, was, some))
      (λ q. let none : held_with t (held_at k links) ≡ 0 = has t ∙ ap (λ (x : Bool). if x then 1 else 0) q in let count = count_other t q in omega (arith, none, count, was))

  still_found : (t : ValueTag) → is_some (lookup (tags.ghosts.eq t) new.pairs) ≡ not (count_in t new.counts == 0)
  still_found t = cases (tags.ghosts.eq h.tag t)
      (λ q. own q (cases (count_in h.tag old.counts - 1 == 0)
      (λ none. ap (λ (x : Bool). is_some (if x then None else lookup (tags.ghosts.eq t) old.pairs)) none ∙ ap not (sym none))
      (λ left. ap (λ (x : Bool). is_some (if x then None else lookup (tags.ghosts.eq t) old.pairs)) left ∙ b.found t
      ∙ sym (not_none (count_in t old.counts) (left_some (count_in h.tag old.counts) (count_in t old.counts) left (ap (λ u. count_in u old.counts) ((tag_decides h.tag t).0 q)))) ∙ ap not (sym left))))
      (λ q. ap is_some (values t) ∙ ap (λ (x : Bool). is_some (if x && (count_in h.tag old.counts - 1 == 0) then None else lookup (tags.ghosts.eq t) old.pairs)) q
      ∙ b.found t ∙ ap (λ n. not (n == 0)) (sym (count_other t q)))
    where
      left_some : (n m : ℕ) → (n - 1 == 0) ≡ false → n ≡ m → 1 ≤ m
      left_some n m q e = cases (m == 0)
          (λ z. let none : m ≡ 0 = (unsigned_Decides m 0).0 z in
          let zero : (n - 1) ≡ 0 = omega (arith, none, e) in
          absurd (let two : true ≡ false = sym ((unsigned_Decides (n - 1) 0).1 zero) ∙ q in cc))
          (λ z. some_there m z)

      own : tags.ghosts.eq h.tag t ≡ true → is_some (if count_in h.tag old.counts - 1 == 0 then None else lookup (tags.ghosts.eq t) old.pairs) ≡ not (count_in h.tag old.counts - 1 == 0) → is_some (lookup (tags.ghosts.eq t) new.pairs) ≡ not (count_in t new.counts == 0)
      own q e =
          ap is_some (values t) ∙ ap (λ (x : Bool). is_some (if x && (count_in h.tag old.counts - 1 == 0) then None else lookup (tags.ghosts.eq t) old.pairs)) q
          ∙ e ∙ ap (λ n. not (n == 0)) (ap (λ u. count_in u old.counts - 1) ((tag_decides h.tag t).0 q) ∙ sym (count_own t q))

  pub released : IsDistinct tags.ghosts.eq (keys_of new.pairs) → IsReleased links (held_at k links) new
  released once = record { once = once; below = still_below; counted = less; found = still_found }

-- ---- a key holds something else

-- what holding does to counts and values
pub record IsHeldFrom (o : Option Holding) (old new : Table) : Type 0 where
  pub from : new.from ≡ old.from
  pub counts : (t : ValueTag) → old.from ≤ t.tag → count_in t new.counts ≡ held_with t o + count_in t old.counts
  pub values : (t : ValueTag) → old.from ≤ t.tag → lookup (tags.ghosts.eq t) new.pairs ≡ found_with t o (lookup (tags.ghosts.eq t) old.pairs)
  pub counts_below : (t : ValueTag) → t.tag < old.from → count_in t new.counts ≡ count_in t old.counts
  pub values_below : (t : ValueTag) → t.tag < old.from → lookup (tags.ghosts.eq t) new.pairs ≡ lookup (tags.ghosts.eq t) old.pairs
  pub once : IsDistinct tags.ghosts.eq (keys_of new.pairs)

module _ (links : LinkMap) (k : Key) (o : Option Holding) (mid new : Table) (sorted : AreSorted links) (r : IsReleased links (held_at k links) mid) (is : IsHeldFrom o mid new) where
  counted : (t : ValueTag) → new.from ≤ t.tag → count_in t new.counts ≡ links_with t (put_at links k o)
  counted t l =
      let h : mid.from ≤ t.tag = subst (λ n. n ≤ t.tag) is.from l in
      let made = with_put t k o links sorted in let was = r.counted t h in let now = is.counts t h in omega (arith, made, was, now)

  found_now : (t : ValueTag) → is_some (lookup (tags.ghosts.eq t) new.pairs) ≡ not (count_in t new.counts == 0)
  found_now t = ⊎_elim
      (λ l. ap is_some (is.values_below t l) ∙ r.found t ∙ ap (λ n. not (n == 0)) (sym (is.counts_below t l)))
      (λ l. found_more t o (lookup (tags.ghosts.eq t) mid.pairs) (lookup (tags.ghosts.eq t) new.pairs) (count_in t mid.counts) (count_in t new.counts) (r.found t) (is.values t l) (is.counts t l))
      (cases_lt t.tag mid.from)

  pub changed : IsBound (put_at links k o) new
  changed = record {
    once = is.once;
    below = λ t l. let h : t.tag < mid.from = subst (λ n. t.tag < n) is.from l in is.counts_below t h ∙ r.below t h;
    counted = counted;
    found = found_now;
  }

pub few_released : (links : LinkMap) (held : Option Holding) (bound : Table) (n : ℕ) → IsReleased links held bound → length links + 1 < n → (t : ValueTag) → 1 + count_in t bound.counts < n
few_released links held bound n r h t = ⊎_elim
    (λ l. let none = r.below t l in omega (arith, none, h))
    (λ l. let was = r.counted t l in let few = with_few t links in omega (arith, was, few, h))
    (cases_lt t.tag bound.from)

-- ---- where values come from

pub come_set : (c : Change) (old : BoundValues) (mid new : Table) → ComeFrom [] old mid.pairs → ((t : ValueTag) → mid.from ≤ t.tag → lookup (tags.ghosts.eq t) new.pairs ≡ found_with t c.held (lookup (tags.ghosts.eq t) mid.pairs))
    → ((t : ValueTag) → t.tag < mid.from → lookup (tags.ghosts.eq t) new.pairs ≡ lookup (tags.ghosts.eq t) mid.pairs) → ComeFrom (c ∷ []) old new.pairs
come_set c old mid new from values below t o e = ⊎_elim (λ l. kept c.held (sym (below t l) ∙ e)) (λ l. by c.held (sym (values t l) ∙ e)) (cases_lt t.tag mid.from)
  where
    kept : (held : Option Holding) → lookup (tags.ghosts.eq t) mid.pairs ≡ Some o → (lookup (tags.ghosts.eq t) old ≡ Some o) ⊎ ((held ≡ Some (record { value = o; tag = t })) ⊎ ⊥)
    kept held at = was (from t o at)
      where
        was : (lookup (tags.ghosts.eq t) old ≡ Some o) ⊎ ⊥ → (lookup (tags.ghosts.eq t) old ≡ Some o) ⊎ ((held ≡ Some (record { value = o; tag = t })) ⊎ ⊥)
        was (inl a) = inl a
        was (inr n) = absurd n

    by : (held : Option Holding) → found_with t held (lookup (tags.ghosts.eq t) mid.pairs) ≡ Some o → (lookup (tags.ghosts.eq t) old ≡ Some o) ⊎ ((held ≡ Some (record { value = o; tag = t })) ⊎ ⊥)
    by None at = kept None at
    by (Some h) at = cases (tags.ghosts.eq h.tag t)
        (λ q. inr (inl (let both : Some h.value ≡ Some o = sym (ap (λ (b : Bool). if b then Some h.value else lookup (tags.ghosts.eq t) mid.pairs) q) ∙ at in
        let value : h.value ≡ o = cc in
        λ j. Some (record { value = value j; tag = (tag_decides h.tag t).0 q j }))))
        (λ q. kept (Some h) (sym (ap (λ (b : Bool). if b then Some h.value else lookup (tags.ghosts.eq t) mid.pairs) q) ∙ at))

pub come_more : (c : Change) (cs : List Change) (old mid new : BoundValues) → ComeFrom (c ∷ []) old mid → ComeFrom cs mid new → ComeFrom (c ∷ cs) old new
come_more c cs old mid new first rest t o e = later (rest t o e)
  where
    here : (lookup (tags.ghosts.eq t) old ≡ Some o) ⊎ ((c.held ≡ Some (record { value = o; tag = t })) ⊎ ⊥) → (lookup (tags.ghosts.eq t) old ≡ Some o) ⊎ ((c.held ≡ Some (record { value = o; tag = t })) ⊎ IsSet cs t o)
    here (inl a) = inl a
    here (inr (inl s)) = inr (inl s)
    here (inr (inr n)) = absurd n

    later : (lookup (tags.ghosts.eq t) mid ≡ Some o) ⊎ IsSet cs t o → (lookup (tags.ghosts.eq t) old ≡ Some o) ⊎ ((c.held ≡ Some (record { value = o; tag = t })) ⊎ IsSet cs t o)
    later (inl a) = here (first t o a)
    later (inr s) = inr (inr s)

pub come_none : (values : BoundValues) → ComeFrom [] values values
come_none values t o e = inl e

-- ---- no values

pub first_bound : (bound : Table) → bound.pairs ≡ [] → bound.counts ≡ [] → IsBound [] bound
unfolding IsDistinct
first_bound bound p n = record {
  once = subst (λ (xs : BoundValues). IsDistinct tags.ghosts.eq (keys_of xs)) (sym p) tt;
  below = λ t _. ap (count_in t) n;
  counted = λ t _. ap (count_in t) n;
  found = λ t. ap (λ xs. is_some (lookup (tags.ghosts.eq t) xs)) p ∙ ap (λ cs. not (count_in t cs == 0)) (sym n);
}

pub nothing_found : (links : LinkMap) (values : BoundValues) → values ≡ [] → AreLinks links values
nothing_found links values p t o e = absurd (let none : None ≡ Some o = sym (ap (lookup (tags.ghosts.eq t)) p) ∙ e in cc)

-- each link has a tag below this
abbrev AllBelow : ℕ → LinkMap → Type 0
AllBelow n [] = Unit {0}
AllBelow n (l ∷ ls) = (l.1.tag.tag < n) × AllBelow n ls

none_from : (n : ℕ) (links : LinkMap) → AllBelow n links → (t : ValueTag) → n ≤ t.tag → links_with t links ≡ 0
none_from n [] a t h = refl
none_from n (l ∷ ls) a t h = cases (tags.ghosts.eq t l.1.tag)
    (λ q. let same = ap (λ (u : ValueTag). u.tag) ((tag_decides t l.1.tag).0 q) in let low = a.0 in absurd (omega (arith, same, low, h)))
    (λ q. ap (λ (b : Bool). (if b then 1 else 0) + links_with t ls) q ∙ ap (λ m. 0 + m) (none_from n ls a.1 t h))

below_bound : (links : LinkMap) (bound : Table) → AllBelow bound.from links → bound.pairs ≡ [] → bound.counts ≡ [] → IsBound links bound
below_bound links bound a p n = let none = first_bound bound p n in record {
  once = none.once;
  below = none.below;
  counted = λ t h. ap (count_in t) n ∙ sym (none_from bound.from links a t h);
  found = none.found;
}

held_below : (n m : ℕ) (links : LinkMap) → m + length links ≤ n → AllBelow n (front_held (length links) m links)
held_below n m [] h = tt
held_below n m (l ∷ ls) h = (omega (arith, h), held_below n (suc m) ls (omega (arith, h)))

-- after an emptying no values are kept by terms
pub emptied_bound : (links : LinkMap) (bound : Table) → bound.from ≡ length links → bound.pairs ≡ [] → bound.counts ≡ [] → IsBound (all_held links) bound
emptied_bound links bound f p n = below_bound (all_held links) bound (subst (λ m. AllBelow m (all_held links)) (sym f) (held_below (length links) 0 links (omega arith))) p n
