-- Links in slots: where they stand in the order, and what a change of the slots comes to.
use Rattle.std.proofs.Common.{◌≡◌, ◌<◌, ◌≤◌, ◌+◌, ◌-◌, ℕ, zero, suc, List, [], ◌∷◌, ◌++◌, length, get_or, take, None, Result, Ok, Err, refl, sym, ap, ◌∙◌, subst, arith, ◌⊎◌, inl, inr}
use Rattle.std.specs.Prelude.{slice_get, slice_set, IsPermutation}
use Rattle.std.specs.List.{All, Contains, insert, remove, swap, range_with_len}
use Rattle.std.specs.List.Sorted.{IsBinarySearchResult, IsSearchInRange}
use Rattle.std.specs.Map.{keys_of}
use Rattle.std.specs.Ordering.{is_eq, ordering_index}
use Rattle.std.specs.declared.cmp.Ordering.TheVariants.{Less, Equal}
use Rattle.std.proofs.lemmas.Bool.{cases_lt, cases_eq}
use Rattle.std.proofs.lemmas.Cmp.{tied_itself, tied_back}
use Rattle.std.proofs.lemmas.List.{length-map, length-append, length-take, get_or-map, get_or_default, take_more}
use Rattle.std.proofs.lemmas.List.Edits.{length-remove, length-swap, get_or-remove_below, get_or-remove_above, swapped_from_swap}
use Rattle.std.proofs.lemmas.List.Elements.{All-cons, All-from_get_or}
use Rattle.std.proofs.lemmas.List.FromFn.{length-range_with_len, get_or-range_with_len}
use Rattle.std.proofs.lemmas.List.Sorted.{All-permutation, Contains-permutation, IsPermutation-insert, IsPermutation-remove, IsPermutation-swap}
use Rattle.std.proofs.lemmas.Map.Keys.{Less-from_sorted}
use Rattle.std.proofs.lemmas.Option.{slice_get-get_or}
use Rattle.dx_links.specs.declared.key.Key.{Key}
use Rattle.dx_links.specs.Holding.{Holding}
use Rattle.dx_links.specs.LinkMap.{LinkMap, key_cmp}
use Rattle.dx_links.specs.Slots.{no_link, links_of, slot_cmp, AreOrdered}
use Rattle.dx_links.proofs.LinkLaws.{AreSorted, EndsAt, HitsAt, key_cmp_total, leaves, none_sorted, put_sorted}
use Rattle.dx_links.proofs.Reading.{read_at, read_set, read_insert, read_remove, read_swap, read_all}
use Rattle.dx_tags.proofs.SortedPairs.{rises, nowhere}

abbrev pub Link : Type 0
Link = Key × Holding

pub links_count : (slots : LinkMap) (order : List ℕ) → length (links_of slots order) ≡ length order
links_count slots order = length-map order _

pub link_at : (slots : LinkMap) (order : List ℕ) (i : ℕ) (d : Link) → i < length order → get_or (links_of slots order) i d ≡ get_or slots (get_or order i 0) no_link
link_at slots order i d h = read_at no_link slots order i d h

pub seen_links : (slots same : LinkMap) (order like : List ℕ) → same ≡ slots → like ≡ order → links_of same like ≡ links_of slots order
seen_links slots same order like e f = λ t. links_of (e t) (f t)

-- what an element is that is read by its number
pub read_link : (slots : LinkMap) (order : List ℕ) (i n : ℕ) (r : Link) → AreOrdered slots order → i < length order → n ≡ get_or order i n → r ≡ get_or slots n r → r ≡ get_or (links_of slots order) i r
read_link slots order i n r o h at_n at_r =
    at_r ∙ get_or_default slots n r no_link (subst (λ m. m < length slots) (sym at_n) (o.below i n h)) ∙ ap (λ m. get_or slots m no_link) (at_n ∙ get_or_default order i n 0 h) ∙ sym (link_at slots order i r h)

-- ---- a key stands at one place, and so does a slot

ascends : (es : LinkMap) (i j : ℕ) (d e : Link) → AreSorted es → i < j → j < length es → key_cmp (get_or es i d).0 (get_or es j e).0 ≡ Less
ascends es i j d e s h l =
    let key : Link → Key = λ x. x.0 in
    sym (λ t. key_cmp (get_or-map key es i d d.0 (omega (arith, h, l)) t) (get_or-map key es j e d.0 l t))
    ∙ Less-from_sorted key_cmp (keys_of es) i j d.0 s h (omega (arith, l, length-map es key))

one_place : (es : LinkMap) (i j : ℕ) (d e : Link) → AreSorted es → i < length es → j < length es → key_cmp (get_or es i d).0 (get_or es j e).0 ≡ Equal → i ≡ j
one_place es i j d e s h l tie = by (cases_lt i j) (cases_lt j i)
  where
    by : (i < j) ⊎ (j ≤ i) → (j < i) ⊎ (i ≤ j) → i ≡ j
    by (inl low) q = let less = ascends es i j d e s low l in cc
    by (inr up) (inl low) = let less = ascends es j i e d s low h in let back = tied_back key_cmp_total (get_or es i d).0 (get_or es j e).0 tie in cc
    by (inr up) (inr down) = omega (arith, up, down)

module _ (slots : LinkMap) (order : List ℕ) (o : AreOrdered slots order) where
  stands_once : (i j : ℕ) → i < length order → j < length order → get_or order i 0 ≡ get_or order j 0 → i ≡ j
  stands_once i j h l e =
      let count = links_count slots order in
      let same : get_or (links_of slots order) i no_link ≡ get_or (links_of slots order) j no_link = link_at slots order i no_link h ∙ ap (λ n. get_or slots n no_link) e ∙ sym (link_at slots order j no_link l) in
      one_place (links_of slots order) i j no_link no_link o.sorted (omega (arith, h, count)) (omega (arith, l, count))
      (ap (λ (x : Link). key_cmp x.0 (get_or (links_of slots order) j no_link).0) same ∙ tied_itself key_cmp_total (get_or (links_of slots order) j no_link).0)

  -- where a slot stands, its link is the one that is read
  link_of_slot : (n : ℕ) (r : Link) (q : ℕ) → n < length slots → r ≡ get_or slots n r → q < length order → get_or order q n ≡ n → get_or (links_of slots order) q r ≡ r
  link_of_slot n r q h at l e =
      link_at slots order q r l ∙ ap (λ m. get_or slots m no_link) (get_or_default order q 0 n l ∙ e) ∙ get_or_default slots n no_link r h ∙ sym at

  pub is_somewhere : (n i : ℕ) (r : Link) → n < length slots → r ≡ get_or slots n r → EndsAt r.0 (links_of slots order) i → ⊥
  is_somewhere n i r h at p =
      let place = o.each n h in
      let here = link_of_slot n r place.0 h at place.1 place.2 in
      let none = nowhere key_cmp_total r.0 (links_of slots order) i (p (rises key_cmp_total r.0 (links_of slots order) o.sorted)) place.0 r (omega (arith, place.1, links_count slots order)) in
      let own = ap is_eq (ap (λ (x : Link). key_cmp r.0 x.0) here ∙ tied_itself key_cmp_total r.0) in
      cc

  pub is_there : (n i : ℕ) (r : Link) → n < length slots → r ≡ get_or slots n r → i < length order → HitsAt r.0 (links_of slots order) i → get_or order i 0 ≡ n
  is_there n i r h at l hit =
      let place = o.each n h in
      let here = link_of_slot n r place.0 h at place.1 place.2 in
      let count = links_count slots order in
      let same = one_place (links_of slots order) i place.0 r r o.sorted (omega (arith, l, count)) (omega (arith, place.1, count)) (ap (λ (x : Link). key_cmp (get_or (links_of slots order) i r).0 x.0) here ∙ hit r) in
      ap (λ m. get_or order m 0) same ∙ get_or_default order place.0 0 n place.1 ∙ place.2

-- ---- what a search of the numbers finds

found_at : (slots : LinkMap) (order : List ℕ) (k : Key) (i : ℕ) (d : Link) → All (λ n. n < length slots) order → i < length order → slot_cmp (slice_get slots (get_or order i 0)) k ≡ key_cmp (get_or (links_of slots order) i d).0 k
found_at slots order k i d b h =
    ap (λ s. slot_cmp s k) (slice_get-get_or slots (get_or order i 0) no_link (b i 0 h)) ∙ ap (λ (x : Link). key_cmp x.0 k) (sym (link_at slots order i d h))

pub searched : (slots : LinkMap) (order : List ℕ) (k : Key) (r : Result ℕ ℕ) → All (λ n. n < length slots) order → IsSearchInRange r (length order)
    → IsBinarySearchResult (λ n. slot_cmp (slice_get slots n) k) order r → IsBinarySearchResult (λ link. key_cmp link.0 k) (links_of slots order) r
searched slots order k (Ok i) b h at = λ d. sym (found_at slots order k i d b h) ∙ at 0
searched slots order k (Err i) b h at = λ up.
    let count = links_count slots order in
    let point = at (λ p q e low l.
    let first = ap ordering_index (ap (λ n. slot_cmp (slice_get slots n) k) (get_or_default order p e 0 (omega (arith, low, l))) ∙ found_at slots order k p no_link b (omega (arith, low, l))) in
    let second = ap ordering_index (ap (λ n. slot_cmp (slice_get slots n) k) (get_or_default order q e 0 l) ∙ found_at slots order k q no_link b l) in
    omega (arith, first, second, up p q no_link low (omega (arith, l, count)))) in (
      (λ p d low l. sym (found_at slots order k p d b (omega (arith, l, h))) ∙ point.0 p 0 low l),
      (λ p d low l. sym (found_at slots order k p d b (omega (arith, l, count))) ∙ point.1 p 0 low (omega (arith, l, count))),
    )

-- ---- a slot is changed

pub set_slot : (slots : LinkMap) (order : List ℕ) (i n : ℕ) (x : Link) → AreOrdered slots order → i < length order → n ≡ get_or order i n → links_of (slice_set slots n x) order ≡ slice_set (links_of slots order) i x
set_slot slots order i n x o h at =
    let number = get_or_default order i 0 n h ∙ sym at in
    read_set no_link slots order i n x h number (subst (λ m. m < length slots) (sym at) (o.below i n h)) (λ k l e. stands_once slots order o k i l h (e ∙ sym number))

pub order_kept : (slots now : LinkMap) (order : List ℕ) → AreOrdered slots order → length now ≡ length slots → AreSorted (links_of now order) → AreOrdered now order
order_kept slots now order o len s = record {
  below = λ k d l. (let low = o.below k d l in omega (arith, low, len));
  each = λ n h. o.each n (omega (arith, h, len));
  sorted = s;
}

-- ---- a slot is pushed

contains_later : (n : ℕ) (ns : List ℕ) (m : ℕ) → Contains ns m → Contains (n ∷ ns) m
contains_later n ns m c = (suc c.0, (let l = c.1 in omega (arith, l)), c.2)

contains_cases : (n : ℕ) (ns : List ℕ) (m : ℕ) → Contains (n ∷ ns) m → (n ≡ m) ⊎ Contains ns m
contains_cases n ns m (zero, l, e) = inl e
contains_cases n ns m (suc k, l, e) = inr (k, omega (arith, l), e)

pub put_slot : (slots : LinkMap) (order : List ℕ) (i : ℕ) (x : Link) → AreOrdered slots order → links_of (slots ++ x ∷ []) (insert order i (length slots)) ≡ insert (links_of slots order) i x
put_slot slots order i x o = read_insert no_link slots order i x o.below

pub order_put : (slots : LinkMap) (order : List ℕ) (i : ℕ) (x : Link) → AreOrdered slots order → AreSorted (insert (links_of slots order) i x) → AreOrdered (slots ++ x ∷ []) (insert order i (length slots))
order_put slots order i x o s =
    let more = length-append slots (x ∷ []) in
    let moved = IsPermutation-insert order i (length slots) in
    record {
      below = All-permutation (λ n. n < length (slots ++ x ∷ [])) (length slots ∷ order) _ moved
          (All-cons (λ n. n < length (slots ++ x ∷ [])) (length slots) order (omega (arith, more)) (λ k d l. (let low = o.below k d l in omega (arith, low, more))));
      each = λ n h. Contains-permutation (length slots ∷ order) _ n moved (by n (omega (arith, h, more)) (cases_eq n (length slots)));
      sorted = subst AreSorted (sym (put_slot slots order i x o)) s;
    }
  where
    by : (n : ℕ) → n < length slots + 1 → (n ≡ length slots) ⊎ (n ≡ length slots → ⊥) → Contains (length slots ∷ order) n
    by n h (inl e) = (0, omega arith, sym e)
    by n h (inr off) = contains_later (length slots) order n (o.each n (by_omega n h off))
      where
        by_omega : (n : ℕ) → n < length slots + 1 → (n ≡ length slots → ⊥) → n < length slots
        by_omega n h off = omega (arith, h, off)

-- ---- the last slot goes, behind the last number

module _ (slots : LinkMap) (order : List ℕ) (i : ℕ) (o : AreOrdered slots order) (h : i < length order) (at : get_or order i 0 ≡ length slots - 1) where
  others_below : All (λ n. n < length slots - 1) (remove order i)
  others_below = All-from_get_or (λ n. n < length slots - 1) (remove order i) 0 (λ k l. by k l (cases_lt k i))
    where
      other : (k : ℕ) → k < length order → (k ≡ i → ⊥) → get_or order k 0 < length slots - 1
      other k l off = let low = o.below k 0 l in let not = λ (e : get_or order k 0 ≡ length slots - 1). off (stands_once slots order o k i l h (e ∙ sym at)) in omega (arith, low, not)

      by : (k : ℕ) → k < length (remove order i) → (k < i) ⊎ (i ≤ k) → get_or (remove order i) k 0 < length slots - 1
      by k l (inl low) = subst (λ n. n < length slots - 1) (sym (get_or-remove_below order i 0 k low h)) (other k (omega (arith, low, h)) (λ e. omega (arith, low, e)))
      by k l (inr up) = subst (λ n. n < length slots - 1) (sym (get_or-remove_above order i 0 k up h)) (other (k + 1) (omega (arith, l, length-remove order i h)) (λ e. omega (arith, up, e)))

  pub drop_slot : links_of (take (length slots - 1) slots) (remove order i) ≡ remove (links_of slots order) i
  drop_slot = read_remove no_link slots order i (length slots - 1) others_below

  taken_sorted : AreSorted (remove (links_of slots order) i)
  taken_sorted =
      let es = links_of slots order in
      let k = (get_or es i no_link).0 in
      let count = links_count slots order in
      let within : i < length es = omega (arith, h, count) in
      let hit : HitsAt k es i = λ d. ap (λ (x : Link). key_cmp x.0 k) (get_or_default es i d no_link within) ∙ tied_itself key_cmp_total k in
      subst AreSorted (sym (leaves es es k None i no_link o.sorted refl refl within hit)) (put_sorted es k None o.sorted)

  pub order_dropped : AreOrdered (take (length slots - 1) slots) (remove order i)
  order_dropped =
      let short : length (take (length slots - 1) slots) ≡ length slots - 1 = (let count = length-take (length slots - 1) slots in omega (arith, count)) in
      record {
        below = λ k d l. (let low = others_below k d l in omega (arith, low, short));
        each = λ n l. by n (omega (arith, l, short));
        sorted = subst AreSorted (sym drop_slot) taken_sorted;
      }
    where
      moved : IsPermutation order ((length slots - 1) ∷ remove order i)
      moved = IsPermutation-remove order i (length slots - 1) h (sym (get_or_default order i (length slots - 1) 0 h ∙ at))

      by : (n : ℕ) → n < length slots - 1 → Contains (remove order i) n
      by n l = elim (contains_cases (length slots - 1) (remove order i) n (Contains-permutation order _ n moved (o.each n (omega (arith, l))))) [ inl e ↦ absurd (omega (arith, l, e)) | inr c ↦ c ]

-- ---- two slots change places, and so do their numbers

module _ (slots : LinkMap) (order : List ℕ) (i j a b : ℕ) (o : AreOrdered slots order) (h : i < length order) (l : j < length order) (at_i : get_or order i 0 ≡ a) (at_j : get_or order j 0 ≡ b) where
  slot_i : a < length slots
  slot_i = subst (λ n. n < length slots) at_i (o.below i 0 h)

  slot_j : b < length slots
  slot_j = subst (λ n. n < length slots) at_j (o.below j 0 l)

  pub swap_slots : links_of (swap slots a b) (swap order i j) ≡ links_of slots order
  swap_slots = read_swap no_link slots order i j a b h l slot_i slot_j at_i at_j
      (λ k m e. stands_once slots order o k i m h (e ∙ sym at_i)) (λ k m e. stands_once slots order o k j m l (e ∙ sym at_j))

  pub order_swapped : AreOrdered (swap slots a b) (swap order i j)
  order_swapped =
      let len = length-swap slots a b in
      let moved = IsPermutation-swap order (swap order i j) i j h l refl in
      record {
        below = All-permutation (λ n. n < length (swap slots a b)) order _ moved (λ k d m. (let low = o.below k d m in omega (arith, low, len)));
        each = λ n m. Contains-permutation order _ n moved (o.each n (omega (arith, m, len)));
        sorted = subst AreSorted (sym swap_slots) o.sorted;
      }

-- ---- a slot is taken away: it becomes the last one, and goes

pub take_slot : (slots rest : LinkMap) (order left : List ℕ) (i j a b : ℕ) → AreOrdered slots order → i < length order → j < length order → a ≡ get_or order i a → get_or order j 0 ≡ b → b ≡ length slots - 1
    → rest ≡ take (length slots - 1) (swap slots a b) → left ≡ remove (swap order i j) i
    → AreOrdered rest left × (links_of rest left ≡ remove (links_of slots order) i)
take_slot slots rest order left i j a b o h l at_i at_j last shorter fewer =
    let number = get_or_default order i 0 a h ∙ sym at_i in
    let swapped = order_swapped slots order i j a b o h l number at_j in
    let same = swap_slots slots order i j a b o h l number at_j in
    let len = length-swap slots a b in
    let count = length-swap order i j in
    let at = (swapped_from_swap order (swap order i j) i j 0 h l refl).0 ∙ at_j ∙ last ∙ ap (λ n. n - 1) (sym len) in
    let within : i < length (swap order i j) = omega (arith, h, count) in
    let now = shorter ∙ ap (λ n. take (n - 1) (swap slots a b)) (sym len) in (
      subst (λ ss. AreOrdered ss left) (sym now) (subst (AreOrdered (take (length (swap slots a b) - 1) (swap slots a b))) (sym fewer) (order_dropped (swap slots a b) (swap order i j) i swapped within at)),
      (λ t. links_of (now t) (fewer t)) ∙ drop_slot (swap slots a b) (swap order i j) i swapped within at ∙ ap (λ es. remove es i) same,
    )

-- ---- no links

pub none_ordered : (slots : LinkMap) (order : List ℕ) → slots ≡ [] → order ≡ [] → AreOrdered slots order
none_ordered slots order e f = subst (λ ss. AreOrdered ss order) (sym e) (subst (AreOrdered []) (sym f) (record {
  below = λ k d l. absurd (omega (arith, l));
  each = λ n l. absurd (omega (arith, l));
  sorted = none_sorted [] refl;
}))

-- ---- links that stand in their order

listed_links : (slots : LinkMap) → links_of slots (range_with_len 0 (length slots)) ≡ slots
listed_links slots = read_all no_link slots

pub listed : (es slots : LinkMap) (order : List ℕ) → AreSorted es → slots ≡ es → order ≡ range_with_len 0 (length slots) → AreOrdered slots order × (links_of slots order ≡ es)
listed es slots order s e f = (
  subst (AreOrdered slots) (sym f) (record {
    below = λ k d l. (let n = length-range_with_len 0 (length slots) in let number = get_or-range_with_len 0 (length slots) k d (omega (arith, l, n)) in omega (arith, l, n, number));
    each = λ n l. (n, (let count = length-range_with_len 0 (length slots) in omega (arith, l, count)), (let number = get_or-range_with_len 0 (length slots) n n l in omega (arith, number)));
    sorted = subst AreSorted (sym (listed_links slots ∙ e)) s;
  }),
  ap (links_of slots) f ∙ listed_links slots ∙ e,
)

pub copied_more : (es copied now : LinkMap) (i : ℕ) (x : Link) → copied ≡ take i es → i < length es → x ≡ get_or es i x → now ≡ copied ++ x ∷ [] → now ≡ take (i + 1) es
copied_more es copied now i x so h at more = more ∙ ap (λ l. l ++ x ∷ []) so ∙ ap (λ y. take i es ++ y ∷ []) at ∙ sym (take_more es i x h)
