-- What the steps leave of the slots, chains and tables that hold the list.
use Rattle.std.proofs.Common.{◌≡◌, ℕ, zero, suc, ◌+◌, ◌<◌, ◌≤◌, List, [], ◌∷◌, ◌++◌, length, map, true, false, cond, Option, Some, None, refl, sym, ap, ap₂, ◌∙◌, subst, arith, ◌⊎◌, inl, inr, true≢false}
use Rattle.std.specs.Prelude.{slice_get, slice_set, not, ◌==◌, nat_eq, nat_le, ◌&&◌, if◌then◌else◌, bytes_eq}
use Rattle.std.specs.Map.{lookup}
use Rattle.std.specs.Cmp.{unsigned_Decides}
use Rattle.std.specs.Cmp.Lexicographic.{bytes_decides}
use Rattle.dx_cache.specs.declared.chains.Link.{Link}
use Rattle.dx_cache.specs.declared.chains.Ends.{Ends}
use Rattle.dx_cache.specs.Chain.{IsChain, IsIn, IsOut, AreApart, first_or}
use Rattle.dx_cache.proofs.SlotLaws.{cases, same_or_not, get_set_same, get_set_other, length_set, within, out_not_in, not_in_out, in_left, in_right, in_either, in_others, others_in, apart_both, apart_middle, apart_others, split_at}
use Rattle.dx_cache.proofs.ChainLaws.{chain_same, chain_none, walk_chain}
use Rattle.dx_cache.specs.Named.{HasName, IsHeir, HasHeir, or_no_ends, added_ends, given_ends, taken_ends}
use Rattle.dx_cache.proofs.Lists.{get_left, get_last}
use Rattle.dx_cache.specs.declared.entry.Entry.{Entry}
use Rattle.dx_cache.specs.declared.slots.Body.{Body}
use Rattle.dx_cache.specs.Cached.{total, has_tag, of_site, find, place, front_place, or_place, next_place}
use Rattle.dx_cache.specs.Sound.{AreKept}
use Rattle.dx_cache.specs.Tied.{body_in, site_in, entry_of, entry_at, entries_at, is_at, slots_of, IsSiteChain, IsFull, IsFree, IsTied, order_in, IsSound, first_in, front_slot, next_slot}
use Rattle.dx_cache.proofs.Places.{IsFirst, none_found, first_found}
use Rattle.dx_cache.proofs.Orders.{filter_append, filter_middle, filter_without, filter_last, filter_not_last, in_filter, filter_in, out_filter, apart_filter, filter_same, map_same, map_both, get_middle, length_both, none_pass, first_placed, none_placed}

-- Sites.

pub at_name : (site : List ℕ) (o : Option (Option (List ℕ))) → is_at site o ≡ true → o ≡ Some (Some site)
at_name site None h = cc
at_name site (Some None) h = cc
at_name site (Some (Some s)) h = ap (λ x. Some (Some x)) (sym ((bytes_decides site s).0 h))

pub name_at : (site : List ℕ) (o : Option (Option (List ℕ))) → o ≡ Some (Some site) → is_at site o ≡ true
name_at site o h = ap (is_at site) h ∙ (bytes_decides site site).1 refl

pub not_at : (site other : List ℕ) (o : Option (Option (List ℕ))) → o ≡ Some (Some site) → bytes_eq site other ≡ false → is_at other o ≡ false
not_at site other o h n =
    cases (is_at other o)
    (λ q.
    let e : Some (Some site) ≡ Some (Some other) = sym h ∙ at_name other o q in
    let same : site ≡ other = cc in
    absurd (true≢false (sym ((bytes_decides site other).1 same) ∙ n)))
    (λ q. q)

pub site_chain_same : (own own' : List Link) (o : Option Ends) (xs : List ℕ) → ((j : ℕ) → IsIn j xs → slice_get own' j ≡ slice_get own j) → IsSiteChain own o xs → IsSiteChain own' o xs
site_chain_same own own' None xs s c = c
site_chain_same own own' (Some e) xs s c = chain_same own own' e xs s c

-- one of a site is none of another's
pub other_out : (names : List (Option (List ℕ))) (site other : List ℕ) (xs : List ℕ) (j : ℕ) (ys : List ℕ) → bytes_eq site other ≡ false → IsIn j (slots_of other names ys) → IsOut j (slots_of site names xs)
other_out names site other xs j ys n m =
    not_in_out j (slots_of site names xs) (λ k.
    let a = at_name site (slice_get names j) (in_filter (λ i. is_at site (slice_get names i)) xs j k).1 in
    let b = (in_filter (λ i. is_at other (slice_get names i)) ys j m).1 in
    true≢false (sym b ∙ not_at site other (slice_get names j) a n))

-- The list of entries.

pub kept_first : (es : List Entry) (p t : ℕ) (e : Entry) → AreKept es → slice_get es p ≡ Some e → e.tag ≡ t → IsFirst (has_tag t) es p
kept_first [] p t e k g q = cc
kept_first (x ∷ es) zero t e k g q = let same : x ≡ e = cc in (unsigned_Decides x.tag t).1 (ap (λ (y : Entry). y.tag) same ∙ q)
kept_first (x ∷ es) (suc p) t e k g q = (
  cases (x.tag == t)
      (λ r.
      let none : find t es ≡ None = subst (λ u. find u es ≡ None) ((unsigned_Decides x.tag t).0 r) k.1 in
      let first = kept_first es p t e k.2 g q in
      let found = first_found t es p e first g in
      let no : None ≡ Some e = sym none ∙ found in cc)
      (λ r. r),
  kept_first es p t e k.2 g q,
)

pub kept_found : (es : List Entry) (p t : ℕ) (e : Entry) → AreKept es → slice_get es p ≡ Some e → e.tag ≡ t → find t es ≡ Some e
kept_found es p t e k g q = first_found t es p e (kept_first es p t e k g q) g

-- Reading what is tied.

module _ (slots : List (Option Body)) (names : List (Option (List ℕ))) (ends : List (List ℕ × Ends)) (links own : List Link) (all free : Ends) (tags : List (ℕ × ℕ)) (order vacant : List ℕ) (t : IsTied slots names ends links own all free tags order vacant) where
  pub order_is : order_in links slots all ≡ order
  order_is = let n = t.count in walk_chain links all order (length slots) t.chain (omega (arith, n))

  pub vacant_is : order_in links slots free ≡ vacant
  vacant_is = let n = t.count in walk_chain links free vacant (length slots) t.free_chain (omega (arith, n))

  -- no slot is both
  pub not_both : (i : ℕ) → IsIn i order → IsIn i vacant → ⊥
  not_both i m n =
      let f = t.full i m in
      let e = t.empty i n in
      let no : Some (Some f.body) ≡ Some None = sym f.at ∙ e.at in cc

  pub order_within : (i : ℕ) → IsIn i order → i < length slots
  order_within i m = let f = t.full i m in within slots i (Some f.body) f.at

  pub vacant_within : (i : ℕ) → IsIn i vacant → i < length slots
  vacant_within i m = let f = t.empty i m in within slots i None f.at

  pub entry_is : (i : ℕ) (m : IsIn i order) → entry_at slots names i ≡ entry_of (t.full i m).body (t.full i m).site
  entry_is i m = ap₂ (λ b s. entry_of b s) (ap body_in (t.full i m).at) (ap site_in (t.full i m).name)

  pub sound_by : (budget used : ℕ) → used ≡ total (entries_at slots names order) → used ≤ budget → AreKept (entries_at slots names order) → length tags ≡ length order → IsSound budget used slots names ends links own all free tags
  sound_by budget used u b k n = record {
    tied = subst (λ o. IsTied slots names ends links own all free tags o (order_in links slots free)) (sym order_is) (subst (λ v. IsTied slots names ends links own all free tags order v) (sym vacant_is) t);
    used_is = u ∙ ap (λ o. total (entries_at slots names o)) (sym order_is);
    bounded = b;
    kept = subst (λ o. AreKept (entries_at slots names o)) (sym order_is) k;
    counted = n ∙ ap length (sym order_is);
  }

  -- a tag that the table hasn't got has no entry
  pub no_tag : (tag : ℕ) → lookup (nat_eq tag) tags ≡ None → find tag (entries_at slots names order) ≡ None
  no_tag tag n =
      none_found tag (entries_at slots names order) (none_pass (entry_at slots names) tag order (λ j m.
      cases ((entry_at slots names j).tag == tag)
      (λ q.
      let f = t.full j m in
      let same : f.body.tag ≡ tag = sym (ap (λ (x : Entry). x.tag) (entry_is j m)) ∙ (unsigned_Decides (entry_at slots names j).tag tag).0 q in
      let found : lookup (nat_eq tag) tags ≡ Some j = subst (λ u. lookup (nat_eq u) tags ≡ Some j) same f.found in
      let no : None ≡ Some j = sym n ∙ found in cc)
      (λ q. q)))

  -- and one that has no entry isn't in the table
  pub no_slot : (tag : ℕ) → AreKept (entries_at slots names order) → find tag (entries_at slots names order) ≡ None → lookup (nat_eq tag) tags ≡ None
  no_slot tag k n = by (lookup (nat_eq tag) tags) refl
    where
      by : (o : Option ℕ) → lookup (nat_eq tag) tags ≡ o → o ≡ None
      by None e = refl
      by (Some i) e =
          let h = t.tagged tag i e in
          let s = split_at i order h.is_in in
          let at : slice_get (entries_at slots names order) (length s.left) ≡ Some (entry_at slots names i) = ap (λ o. slice_get (entries_at slots names o) (length s.left)) s.whole ∙ get_middle (entry_at slots names) s.left s.right i in
          let tag_is : (entry_at slots names i).tag ≡ tag = ap (λ o. (body_in o).tag) h.at ∙ h.tag in
          let found = kept_found (entries_at slots names order) (length s.left) tag (entry_at slots names i) k at tag_is in
          let no : None ≡ Some (entry_at slots names i) = sym n ∙ found in cc

  -- the chain of a slot's site
  pub site_chain : (site : List ℕ) (e : Ends) → lookup (bytes_eq site) ends ≡ Some e → IsChain own e (slots_of site names order)
  site_chain site e l = subst (λ o. IsSiteChain own o (slots_of site names order)) l (t.sites site)

-- A slot in the middle moves to the end of both chains.

module _ (slots : List (Option Body)) (names : List (Option (List ℕ))) (ends : List (List ℕ × Ends)) (links own : List Link) (all free : Ends) (tags : List (ℕ × ℕ)) (xs ys vacant : List ℕ) (i : ℕ) (t : IsTied slots names ends links own all free tags (xs ++ i ∷ ys) vacant) where
  here : IsIn i (xs ++ i ∷ ys)
  here = in_right i xs (i ∷ ys) (inl refl)

  pub middle_out : IsOut i (xs ++ ys)
  middle_out = apart_middle xs ys i t.apart

  pub middle_apart : AreApart (xs ++ ys)
  middle_apart = apart_others xs ys i t.apart

  -- the slots of its site, without it
  pub site_split : (site : List ℕ) → HasName names i site → slots_of site names (xs ++ i ∷ ys) ≡ slots_of site names xs ++ i ∷ slots_of site names ys
  site_split site n = filter_middle (λ j. is_at site (slice_get names j)) xs ys i (name_at site (slice_get names i) n)

  pub site_apart : (site : List ℕ) → HasName names i site → AreApart (slots_of site names xs ++ i ∷ slots_of site names ys)
  site_apart site n = subst AreApart (site_split site n) (apart_filter (λ j. is_at site (slice_get names j)) (xs ++ i ∷ ys) t.apart)

  pub to_end : List ℕ
  to_end = (xs ++ ys) ++ i ∷ []

  in_end : (j : ℕ) → IsIn j ((xs ++ ys) ++ i ∷ []) → IsIn j (xs ++ i ∷ ys)
  in_end j n = by (in_either j (xs ++ ys) (i ∷ []) n)
    where
      by : IsIn j (xs ++ ys) ⊎ IsIn j (i ∷ []) → IsIn j (xs ++ i ∷ ys)
      by (inl m) = in_others xs ys i j m
      by (inr (inl e)) = subst (λ k. IsIn k (xs ++ i ∷ ys)) (sym e) here
      by (inr (inr m)) = absurd m

  end_in : (j : ℕ) → IsIn j (xs ++ i ∷ ys) → IsIn j ((xs ++ ys) ++ i ∷ [])
  end_in j n =
      same_or_not j i
      (λ e. in_right j (xs ++ ys) (i ∷ []) (inl e))
      (λ d. in_left j (xs ++ ys) (i ∷ []) (others_in xs ys i j n d))

  pub moved_tied : (links' own' : List Link) (all' e' : Ends) (ends' : List (List ℕ × Ends)) (site : List ℕ)
      → IsChain links' all' ((xs ++ ys) ++ i ∷ []) → ((j : ℕ) → IsOut j (xs ++ i ∷ ys) → slice_get links' j ≡ slice_get links j) → length links' ≡ length links
      → HasName names i site → IsChain own' e' ((slots_of site names xs ++ slots_of site names ys) ++ i ∷ []) → ((j : ℕ) → IsOut j (slots_of site names (xs ++ i ∷ ys)) → slice_get own' j ≡ slice_get own j) → length own' ≡ length own
      → ((other : List ℕ) → lookup (bytes_eq other) ends' ≡ given_ends site e' other (lookup (bytes_eq other) ends))
      → IsTied slots names ends' links' own' all' free tags ((xs ++ ys) ++ i ∷ []) vacant
  moved_tied links' own' all' e' ends' site c f l n oc of ol es = record {
    chain = c;
    free_chain = chain_same links links' free vacant (λ j m. f j (not_in_out j (xs ++ i ∷ ys) (λ k. not_both slots names ends links own all free tags (xs ++ i ∷ ys) vacant t j k m))) t.free_chain;
    apart = apart_both (xs ++ ys) (i ∷ []) middle_apart (tt, tt) (λ j m k. by_last j m k);
    free_apart = t.free_apart;
    count =
        let a = t.count in
        let b = length_both xs (i ∷ ys) in
        let d = length_both (xs ++ ys) (i ∷ []) in
        let e = length_both xs ys in
        omega (arith, a, b, d, e);
    links_long = l ∙ t.links_long;
    own_long = ol ∙ t.own_long;
    names_long = t.names_long;
    full = λ j m. t.full j (in_end j m);
    empty = t.empty;
    named = λ j s h. end_in j (t.named j s h);
    tagged = λ u j h. let r = t.tagged u j h in record { body = r.body; at = r.at; tag = r.tag; is_in = end_in j r.is_in };
    sites = λ other. cases (bytes_eq site other)
        (λ q.
        let same = (bytes_decides site other).0 q in
        let given : lookup (bytes_eq other) ends' ≡ Some e' = es other ∙ ap (λ b. if b then Some e' else lookup (bytes_eq other) ends) q in
        let whole : slots_of other names ((xs ++ ys) ++ i ∷ []) ≡ (slots_of site names xs ++ slots_of site names ys) ++ i ∷ [] =
        ap (λ s. slots_of s names ((xs ++ ys) ++ i ∷ [])) (sym same)
        ∙ filter_last (λ j. is_at site (slice_get names j)) (xs ++ ys) i (name_at site (slice_get names i) n)
        ∙ ap (λ zs. zs ++ i ∷ []) (filter_append (λ j. is_at site (slice_get names j)) xs ys) in
        rw (given, whole) oc)
        (λ q.
        let found : lookup (bytes_eq other) ends' ≡ lookup (bytes_eq other) ends = es other ∙ ap (λ b. if b then Some e' else lookup (bytes_eq other) ends) q in
        let not_here = not_at site other (slice_get names i) n q in
        let whole : slots_of other names ((xs ++ ys) ++ i ∷ []) ≡ slots_of other names (xs ++ i ∷ ys) =
        filter_not_last (λ j. is_at other (slice_get names j)) (xs ++ ys) i not_here
        ∙ sym (filter_without (λ j. is_at other (slice_get names j)) xs ys i not_here) in
        rw (found, whole) (site_chain_same own own' (lookup (bytes_eq other) ends) (slots_of other names (xs ++ i ∷ ys)) (λ j m. of j (other_out names site other (xs ++ i ∷ ys) j (xs ++ i ∷ ys) q m)) (t.sites other)));
  }
    where
      by_last : (j : ℕ) → IsIn j (xs ++ ys) → IsIn j (i ∷ []) → ⊥
      by_last j m (inl e) = out_not_in i (xs ++ ys) middle_out (subst (λ k. IsIn k (xs ++ ys)) e m)
      by_last j m (inr k) = k

  -- A slot goes, and is free.

  others_name : (j : ℕ) → ¬ (j ≡ i) → slice_get (slice_set names i None) j ≡ slice_get names j
  others_name j d = get_set_other names i j None d

  others_slot : (j : ℕ) → ¬ (j ≡ i) → slice_get (slice_set slots i None) j ≡ slice_get slots j
  others_slot j d = get_set_other slots i j None d

  apart_from : (j : ℕ) → IsIn j (xs ++ ys) → ¬ (j ≡ i)
  apart_from j m e = out_not_in i (xs ++ ys) middle_out (subst (λ k. IsIn k (xs ++ ys)) e m)

  -- the entries that are left
  pub left_entries : entries_at (slice_set slots i None) (slice_set names i None) (xs ++ ys) ≡ entries_at slots names (xs ++ ys)
  left_entries = map_same (entry_at (slice_set slots i None) (slice_set names i None)) (entry_at slots names) (xs ++ ys) (λ j m.
      ap₂ (λ b s. entry_of (body_in b) (site_in s)) (others_slot j (apart_from j m)) (others_name j (apart_from j m)))

  -- the first of the others of the site is its heir
  pub heir_of : (own' : List Link) (e' : Ends) (site : List ℕ) → HasName names i site → IsChain own' e' (slots_of site names xs ++ slots_of site names ys) → HasHeir names i e'.first
  heir_of own' e' site n c s m =
      let both : Some (Some s) ≡ Some (Some site) = sym m ∙ n in
      let same : s ≡ site = cc in
      subst (λ x. IsHeir names i x e'.first) (sym same) (rw c.first (by (slots_of site names (xs ++ ys)) (sym (filter_append (λ j. is_at site (slice_get names j)) xs ys)) refl))
    where
      by : (zs : List ℕ) → slots_of site names xs ++ slots_of site names ys ≡ zs → slots_of site names (xs ++ ys) ≡ zs → IsHeir names i site (first_or (slots_of site names xs ++ slots_of site names ys) None)
      by [] e f = rw e (λ j h.
          same_or_not j i (λ q. q) (λ d.
          let m = filter_in (λ k. is_at site (slice_get names k)) (xs ++ ys) j (others_in xs ys i j (t.named j site h) d) (name_at site (slice_get names j) h) in
          absurd (subst (IsIn j) f m)))
      by (z ∷ zs) e f =
          let m : IsIn z (slots_of site names (xs ++ ys)) = subst (IsIn z) (sym f) (inl refl) in
          let r = in_filter (λ k. is_at site (slice_get names k)) (xs ++ ys) z m in
          rw e (apart_from z r.0, at_name site (slice_get names z) r.1)

  pub removed_tied : (links' own' : List Link) (all' free' e' : Ends) (ends' : List (List ℕ × Ends)) (tags' : List (ℕ × ℕ)) (b : Body) (site : List ℕ)
      → slice_get slots i ≡ Some (Some b)
      → ((q : ℕ) → lookup (nat_eq q) tags' ≡ cond (nat_eq b.tag q) None (lookup (nat_eq q) tags))
      → IsChain links' all' (xs ++ ys) → IsChain links' free' (vacant ++ i ∷ []) → length links' ≡ length links
      → HasName names i site → IsChain own' e' (slots_of site names xs ++ slots_of site names ys) → ((j : ℕ) → IsOut j (slots_of site names (xs ++ i ∷ ys)) → slice_get own' j ≡ slice_get own j) → length own' ≡ length own
      → ((other : List ℕ) → lookup (bytes_eq other) ends' ≡ taken_ends e'.first site other (given_ends site e' other (lookup (bytes_eq other) ends)))
      → IsTied (slice_set slots i None) (slice_set names i None) ends' links' own' all' free' tags' (xs ++ ys) (vacant ++ i ∷ [])
  removed_tied links' own' all' free' e' ends' tags' b site at ts c fc l n oc of ol es = record {
    chain = c;
    free_chain = fc;
    apart = middle_apart;
    free_apart = apart_both vacant (i ∷ []) t.free_apart (tt, tt) (λ j m k. by_last j m k);
    count =
        let a = t.count in
        let d = length_both xs (i ∷ ys) in
        let e = length_both xs ys in
        let f = length_both vacant (i ∷ []) in
        let g = length_set slots i None in
        omega (arith, a, d, e, f, g);
    links_long = l ∙ t.links_long ∙ sym (length_set slots i None);
    own_long = ol ∙ t.own_long ∙ sym (length_set slots i None);
    names_long = length_set names i None ∙ t.names_long ∙ sym (length_set slots i None);
    full = λ j m.
        let d = apart_from j m in
        let f = t.full j (in_others xs ys i j m) in
        record {
          body = f.body;
          site = f.site;
          at = others_slot j d ∙ f.at;
          name = others_name j d ∙ f.name;
          found = ts f.body.tag ∙ cases (nat_eq b.tag f.body.tag)
              (λ q.
              let same = (unsigned_Decides b.tag f.body.tag).0 q in
              let mine : lookup (nat_eq f.body.tag) tags ≡ Some i = subst (λ u. lookup (nat_eq u) tags ≡ Some i) same tag_here in
              let two : Some j ≡ Some i = sym f.found ∙ mine in
              let is : j ≡ i = cc in
              absurd (d is))
              (λ q. ap (λ x. cond x None (lookup (nat_eq f.body.tag) tags)) q ∙ f.found);
        };
    empty = λ j m. by_empty j (in_either j vacant (i ∷ []) m);
    named = λ j s h.
        same_or_not j i
        (λ e. let no : Some None ≡ Some (Some s) = sym (get_set_same names i None (within names i (Some site) n)) ∙ subst (λ k. slice_get (slice_set names i None) k ≡ Some (Some s)) e h in cc)
        (λ d. others_in xs ys i j (t.named j s (sym (others_name j d) ∙ h)) d);
    tagged = λ u j h.
        cases (nat_eq b.tag u)
        (λ q. let no : None ≡ Some j = sym (ts u ∙ ap (λ x. cond x None (lookup (nat_eq u) tags)) q) ∙ h in cc)
        (λ q.
        let old : lookup (nat_eq u) tags ≡ Some j = sym (ap (λ x. cond x None (lookup (nat_eq u) tags)) q) ∙ sym (ts u) ∙ h in
        let r = t.tagged u j old in
        same_or_not j i
        (λ e.
        let two : Some (Some r.body) ≡ Some (Some b) = sym r.at ∙ subst (λ k. slice_get slots k ≡ Some (Some b)) (sym e) at in
        let same : r.body ≡ b = cc in
        let tag_is : b.tag ≡ u = ap (λ (x : Body). x.tag) (sym same) ∙ r.tag in
        absurd (true≢false (sym ((unsigned_Decides b.tag u).1 tag_is) ∙ q)))
        (λ d. record { body = r.body; at = others_slot j d ∙ r.at; tag = r.tag; is_in = others_in xs ys i j r.is_in d }));
    sites = λ other.
        rw (same_filter other) (cases (bytes_eq site other)
        (λ q.
        let same = (bytes_decides site other).0 q in
        let given : lookup (bytes_eq other) ends' ≡ taken_ends e'.first site other (Some e') = es other ∙ ap (λ b. taken_ends e'.first site other (if b then Some e' else lookup (bytes_eq other) ends)) q in
        let whole : slots_of other names (xs ++ ys) ≡ slots_of site names xs ++ slots_of site names ys =
        ap (λ s. slots_of s names (xs ++ ys)) (sym same) ∙ filter_append (λ j. is_at site (slice_get names j)) xs ys in
        rw (given, whole) (left_chain other q (slots_of site names xs ++ slots_of site names ys) oc))
        (λ q.
        let found : lookup (bytes_eq other) ends' ≡ lookup (bytes_eq other) ends = es other ∙ ap (λ b. taken_ends e'.first site other (if b then Some e' else lookup (bytes_eq other) ends)) q ∙ not_taken e'.first other (lookup (bytes_eq other) ends) q in
        let not_here = not_at site other (slice_get names i) n q in
        let whole : slots_of other names (xs ++ ys) ≡ slots_of other names (xs ++ i ∷ ys) = sym (filter_without (λ j. is_at other (slice_get names j)) xs ys i not_here) in
        rw (found, whole) (site_chain_same own own' (lookup (bytes_eq other) ends) (slots_of other names (xs ++ i ∷ ys)) (λ j m. of j (other_out names site other (xs ++ i ∷ ys) j (xs ++ i ∷ ys) q m)) (t.sites other))));
  }
    where
      tag_here : lookup (nat_eq b.tag) tags ≡ Some i
      tag_here =
          let f = t.full i here in
          let two : Some (Some f.body) ≡ Some (Some b) = sym f.at ∙ at in
          let same : f.body ≡ b = cc in
          subst (λ (x : Body). lookup (nat_eq x.tag) tags ≡ Some i) same f.found

      by_last : (j : ℕ) → IsIn j vacant → IsIn j (i ∷ []) → ⊥
      by_last j m (inl e) = not_both slots names ends links own all free tags (xs ++ i ∷ ys) vacant t i here (subst (λ k. IsIn k vacant) e m)
      by_last j m (inr k) = k

      by_empty : (j : ℕ) → IsIn j vacant ⊎ IsIn j (i ∷ []) → IsFree (slice_set slots i None) (slice_set names i None) j
      by_empty j (inl m) =
          let d : ¬ (j ≡ i) = λ e. by_last j m (inl e) in
          let f = t.empty j m in
          record { at = others_slot j d ∙ f.at; name = others_name j d ∙ f.name }
      by_empty j (inr (inl e)) = record {
        at = subst (λ k. slice_get (slice_set slots i None) k ≡ Some None) (sym e) (get_set_same slots i None (within slots i (Some b) at));
        name = subst (λ k. slice_get (slice_set names i None) k ≡ Some None) (sym e) (get_set_same names i None (within names i (Some site) n));
      }
      by_empty j (inr (inr k)) = absurd k

      same_filter : (other : List ℕ) → slots_of other (slice_set names i None) (xs ++ ys) ≡ slots_of other names (xs ++ ys)
      same_filter other = filter_same (λ j. is_at other (slice_get (slice_set names i None) j)) (λ j. is_at other (slice_get names j)) (xs ++ ys) (λ j m. ap (is_at other) (others_name j (apart_from j m)))

      not_taken : (h : Option ℕ) (other : List ℕ) (found : Option Ends) → bytes_eq site other ≡ false → taken_ends h site other found ≡ found
      not_taken None other found q = rw q refl
      not_taken (Some j) other found q = refl

      left_chain : (other : List ℕ) → bytes_eq site other ≡ true → (zs : List ℕ) → IsChain own' e' zs → IsSiteChain own' (taken_ends e'.first site other (Some e')) zs
      left_chain other q [] k = rw (k.first, q) refl
      left_chain other q (z ∷ zs) k = subst (λ h. IsSiteChain own' (taken_ends h site other (Some e')) (z ∷ zs)) (sym k.first) k

-- A free slot gets an entry.

module _ (slots : List (Option Body)) (names : List (Option (List ℕ))) (ends : List (List ℕ × Ends)) (links own : List Link) (all free : Ends) (tags : List (ℕ × ℕ)) (order vacant : List ℕ) (i : ℕ) (t : IsTied slots names ends links own all free tags order (i ∷ vacant)) where
  pub is_free : IsFree slots names i
  is_free = t.empty i (inl refl)

  pub new_out : IsOut i order
  new_out = not_in_out i order (λ m. not_both slots names ends links own all free tags order (i ∷ vacant) t i m (inl refl))

  new_apart : (j : ℕ) → IsIn j order → ¬ (j ≡ i)
  new_apart j m e = out_not_in i order new_out (subst (λ k. IsIn k order) e m)

  -- the ends that its site has then lead through the site's slots
  pub added_chain : (site : List ℕ) → IsChain own (or_no_ends (lookup (bytes_eq site) ends)) (slots_of site names order)
  added_chain site = by (lookup (bytes_eq site) ends) (t.sites site)
    where
      by : (o : Option Ends) → IsSiteChain own o (slots_of site names order) → IsChain own (or_no_ends o) (slots_of site names order)
      by None e = rw e (chain_none own)
      by (Some e) c = c

  pub site_new_out : (site : List ℕ) → IsOut i (slots_of site names order)
  site_new_out site = out_filter (λ j. is_at site (slice_get names j)) order i new_out

  pub site_now_apart : (site : List ℕ) → AreApart (slots_of site names order)
  site_now_apart site = apart_filter (λ j. is_at site (slice_get names j)) order t.apart

  module _ (b : Body) (site : List ℕ) where
    -- the entries then
    pub stored_entries : entries_at (slice_set slots i (Some b)) (slice_set names i (Some site)) (order ++ i ∷ []) ≡ entries_at slots names order ++ entry_of b site ∷ []
    stored_entries =
        map_both (entry_at (slice_set slots i (Some b)) (slice_set names i (Some site))) order (i ∷ [])
        ∙ ap₂ (λ zs e. zs ++ e ∷ [])
        (map_same (entry_at (slice_set slots i (Some b)) (slice_set names i (Some site))) (entry_at slots names) order (λ j m.
        ap₂ (λ x s. entry_of (body_in x) (site_in s)) (get_set_other slots i j (Some b) (new_apart j m)) (get_set_other names i j (Some site) (new_apart j m))))
        (ap₂ (λ x s. entry_of (body_in x) (site_in s)) (get_set_same slots i (Some b) (within slots i None is_free.at)) (get_set_same names i (Some site) (within names i None is_free.name)))

    pub stored_tied : (links' own' : List Link) (all' free' e' : Ends) (ends' : List (List ℕ × Ends)) (tags' : List (ℕ × ℕ))
        → lookup (nat_eq b.tag) tags ≡ None
        → ((q : ℕ) → lookup (nat_eq q) tags' ≡ cond (nat_eq b.tag q) (Some i) (lookup (nat_eq q) tags))
        → IsChain links' all' (order ++ i ∷ []) → IsChain links' free' vacant → length links' ≡ length links
        → IsChain own' e' (slots_of site names order ++ i ∷ []) → ((j : ℕ) → ¬ (j ≡ i) → IsOut j (slots_of site names order) → slice_get own' j ≡ slice_get own j) → length own' ≡ length own
        → ((other : List ℕ) → lookup (bytes_eq other) ends' ≡ given_ends site e' other (added_ends site other (lookup (bytes_eq other) ends)))
        → IsTied (slice_set slots i (Some b)) (slice_set names i (Some site)) ends' links' own' all' free' tags' (order ++ i ∷ []) vacant
    stored_tied links' own' all' free' e' ends' tags' absent ts c fc l oc of ol es = record {
      chain = c;
      free_chain = fc;
      apart = apart_both order (i ∷ []) t.apart (tt, tt) (λ j m k. by_last j m k);
      free_apart = t.free_apart.1;
      count =
          let a = t.count in
          let d = length_both order (i ∷ []) in
          let g = length_set slots i (Some b) in
          omega (arith, a, d, g);
      links_long = l ∙ t.links_long ∙ sym (length_set slots i (Some b));
      own_long = ol ∙ t.own_long ∙ sym (length_set slots i (Some b));
      names_long = length_set names i (Some site) ∙ t.names_long ∙ sym (length_set slots i (Some b));
      full = λ j m. by_full j (in_either j order (i ∷ []) m);
      empty = λ j m.
          let d : ¬ (j ≡ i) = λ e. out_not_in i vacant t.free_apart.0 (subst (λ k. IsIn k vacant) e m) in
          let f = t.empty j (inr m) in
          record { at = get_set_other slots i j (Some b) d ∙ f.at; name = get_set_other names i j (Some site) d ∙ f.name };
      named = λ j s h.
          same_or_not j i
          (λ e. in_right j order (i ∷ []) (inl e))
          (λ d. in_left j order (i ∷ []) (t.named j s (sym (get_set_other names i j (Some site) d) ∙ h)));
      tagged = λ u j h.
          cases (nat_eq b.tag u)
          (λ q.
          let got : Some i ≡ Some j = sym (ts u ∙ ap (λ x. cond x (Some i) (lookup (nat_eq u) tags)) q) ∙ h in
          let same : i ≡ j = cc in
          record {
            body = b;
            at = subst (λ k. slice_get (slice_set slots i (Some b)) k ≡ Some (Some b)) same (get_set_same slots i (Some b) (within slots i None is_free.at));
            tag = (unsigned_Decides b.tag u).0 q;
            is_in = in_right j order (i ∷ []) (inl (sym same));
          })
          (λ q.
          let old : lookup (nat_eq u) tags ≡ Some j = sym (ap (λ x. cond x (Some i) (lookup (nat_eq u) tags)) q) ∙ sym (ts u) ∙ h in
          let r = t.tagged u j old in
          record {
            body = r.body;
            at = get_set_other slots i j (Some b) (new_apart j r.is_in) ∙ r.at;
            tag = r.tag;
            is_in = in_left j order (i ∷ []) r.is_in;
          });
      sites = λ other.
          rw (new_filter other) (cases (bytes_eq site other)
          (λ q.
          let same = (bytes_decides site other).0 q in
          let given : lookup (bytes_eq other) ends' ≡ Some e' = es other ∙ ap (λ b. if b then Some e' else added_ends site other (lookup (bytes_eq other) ends)) q in
          rw given (subst (λ s. IsChain own' e' (slots_of s names order ++ (cond (bytes_eq s site) (i ∷ []) []))) same (rw ((bytes_decides site site).1 refl) oc)))
          (λ q.
          let found : lookup (bytes_eq other) ends' ≡ lookup (bytes_eq other) ends =
          es other ∙ ap (λ b. if b then Some e' else added_ends site other (lookup (bytes_eq other) ends)) q
          ∙ ap (λ b. if b then Some (or_no_ends (lookup (bytes_eq other) ends)) else lookup (bytes_eq other) ends) q in
          let back : bytes_eq other site ≡ false = other_way other q in
          rw (found, back, nil (slots_of other names order)) (site_chain_same own own' (lookup (bytes_eq other) ends) (slots_of other names order)
          (λ j m. of j (new_apart j (in_filter (λ k. is_at other (slice_get names k)) order j m).0) (other_out names site other order j order q m)) (t.sites other))));
    }
      where
        by_last : (j : ℕ) → IsIn j order → IsIn j (i ∷ []) → ⊥
        by_last j m (inl e) = new_apart j m e
        by_last j m (inr k) = k

        nil : (zs : List ℕ) → zs ++ [] ≡ zs
        nil [] = refl
        nil (z ∷ zs) = ap (λ ws. z ∷ ws) (nil zs)

        other_way : (other : List ℕ) → bytes_eq site other ≡ false → bytes_eq other site ≡ false
        other_way other q =
            cases (bytes_eq other site)
            (λ r. absurd (true≢false (sym ((bytes_decides site other).1 (sym ((bytes_decides other site).0 r))) ∙ q)))
            (λ r. r)

        by_full : (j : ℕ) → IsIn j order ⊎ IsIn j (i ∷ []) → IsFull (slice_set slots i (Some b)) (slice_set names i (Some site)) tags' j
        by_full j (inl m) =
            let f = t.full j m in
            record {
              body = f.body;
              site = f.site;
              at = get_set_other slots i j (Some b) (new_apart j m) ∙ f.at;
              name = get_set_other names i j (Some site) (new_apart j m) ∙ f.name;
              found = ts f.body.tag ∙ cases (nat_eq b.tag f.body.tag)
                  (λ q.
                  let same = (unsigned_Decides b.tag f.body.tag).0 q in
                  let no : None ≡ Some j = sym (subst (λ u. lookup (nat_eq u) tags ≡ None) same absent) ∙ f.found in cc)
                  (λ q. ap (λ x. cond x (Some i) (lookup (nat_eq f.body.tag) tags)) q ∙ f.found);
            }
        by_full j (inr (inl e)) = subst (λ k. IsFull (slice_set slots i (Some b)) (slice_set names i (Some site)) tags' k) (sym e) (record {
          body = b;
          site = site;
          at = get_set_same slots i (Some b) (within slots i None is_free.at);
          name = get_set_same names i (Some site) (within names i None is_free.name);
          found = ts b.tag ∙ ap (λ x. cond x (Some i) (lookup (nat_eq b.tag) tags)) ((unsigned_Decides b.tag b.tag).1 refl);
        })
        by_full j (inr (inr k)) = absurd k

        new_filter : (other : List ℕ) → slots_of other (slice_set names i (Some site)) (order ++ i ∷ []) ≡ slots_of other names order ++ (cond (bytes_eq other site) (i ∷ []) [])
        new_filter other =
            filter_append (λ j. is_at other (slice_get (slice_set names i (Some site)) j)) order (i ∷ [])
            ∙ ap₂ (λ zs o. zs ++ (cond (is_at other o) (i ∷ []) []))
            (filter_same (λ j. is_at other (slice_get (slice_set names i (Some site)) j)) (λ j. is_at other (slice_get names j)) order (λ j m. ap (is_at other) (get_set_other names i j (Some site) (new_apart j m))))
            (get_set_same names i (Some site) (within names i None is_free.name))

-- One more free slot.

pub grown_tied : (slots : List (Option Body)) (names : List (Option (List ℕ))) (ends : List (List ℕ × Ends)) (links own : List Link) (all free : Ends) (tags : List (ℕ × ℕ)) (order vacant : List ℕ) → IsTied slots names ends links own all free tags order vacant
    → (links' own' : List Link) (free' : Ends) (l : Link)
    → IsChain links' free' (vacant ++ length slots ∷ []) → ((j : ℕ) → ¬ (j ≡ length slots) → IsOut j vacant → slice_get links' j ≡ slice_get (links ++ l ∷ []) j) → length links' ≡ length (links ++ l ∷ [])
    → own' ≡ own ++ l ∷ []
    → IsTied (slots ++ None ∷ []) (names ++ None ∷ []) ends links' own' all free' tags order (vacant ++ length slots ∷ [])
grown_tied slots names ends links own all free tags order vacant t links' own' free' l fc f ll oe = record {
  chain = chain_same links links' all order (λ j m.
      let w = order_within slots names ends links own all free tags order vacant t j m in
      let long = t.links_long in
      f j (λ e. absurd (let no : 0 < 0 = omega (arith, e, w) in omega (arith, no))) (not_in_out j vacant (λ n. not_both slots names ends links own all free tags order vacant t j m n))
      ∙ get_left links (l ∷ []) j (omega (arith, w, long))) t.chain;
  free_chain = fc;
  apart = t.apart;
  free_apart = apart_both vacant (length slots ∷ []) t.free_apart (tt, tt) (λ j m k. by_last j m k);
  count =
      let a = t.count in
      let b = length_both vacant (length slots ∷ []) in
      let d = long_body slots None in
      omega (arith, a, b, d);
  links_long = let a = ll in let b = long_link links l in let d = long_body slots None in let e = t.links_long in omega (arith, a, b, d, e);
  own_long = let a = ap length oe in let b = long_link own l in let d = long_body slots None in let e = t.own_long in omega (arith, a, b, d, e);
  names_long = let a = long_name names None in let d = long_body slots None in let e = t.names_long in omega (arith, a, d, e);
  full = λ j m.
      let g = t.full j m in
      record {
        body = g.body;
        site = g.site;
        at = get_left slots (None ∷ []) j (within slots j (Some g.body) g.at) ∙ g.at;
        name = get_left names (None ∷ []) j (within names j (Some g.site) g.name) ∙ g.name;
        found = g.found;
      };
  empty = λ j m. by_empty j (in_either j vacant (length slots ∷ []) m);
  named = λ j s h. t.named j s (old_name names j s h);
  tagged = λ u j h.
      let r = t.tagged u j h in
      record { body = r.body; at = get_left slots (None ∷ []) j (within slots j (Some r.body) r.at) ∙ r.at; tag = r.tag; is_in = r.is_in };
  sites = λ site. rw (same_filter site, oe) (site_chain_same own (own ++ l ∷ []) (lookup (bytes_eq site) ends) (slots_of site names order) (λ j m.
      let w = order_within slots names ends links own all free tags order vacant t j (in_filter (λ k. is_at site (slice_get names k)) order j m).0 in
      let long = t.own_long in
      get_left own (l ∷ []) j (omega (arith, w, long))) (t.sites site));
}
  where
    long_body : (zs : List (Option Body)) (z : Option Body) → length (zs ++ z ∷ []) ≡ length zs + 1
    long_body [] z = refl
    long_body (y ∷ zs) z = let r = long_body zs z in omega (arith, r)

    long_link : (zs : List Link) (z : Link) → length (zs ++ z ∷ []) ≡ length zs + 1
    long_link [] z = refl
    long_link (y ∷ zs) z = let r = long_link zs z in omega (arith, r)

    long_name : (zs : List (Option (List ℕ))) (z : Option (List ℕ)) → length (zs ++ z ∷ []) ≡ length zs + 1
    long_name [] z = refl
    long_name (y ∷ zs) z = let r = long_name zs z in omega (arith, r)

    by_last : (j : ℕ) → IsIn j vacant → IsIn j (length slots ∷ []) → ⊥
    by_last j m (inl e) = let w = vacant_within slots names ends links own all free tags order vacant t j m in absurd (let no : 0 < 0 = omega (arith, e, w) in omega (arith, no))
    by_last j m (inr k) = k

    by_empty : (j : ℕ) → IsIn j vacant ⊎ IsIn j (length slots ∷ []) → IsFree (slots ++ None ∷ []) (names ++ None ∷ []) j
    by_empty j (inl m) =
        let g = t.empty j m in
        record {
          at = get_left slots (None ∷ []) j (within slots j None g.at) ∙ g.at;
          name = get_left names (None ∷ []) j (within names j None g.name) ∙ g.name;
        }
    by_empty j (inr (inl e)) = record {
      at = ap (slice_get (slots ++ None ∷ [])) e ∙ get_last slots None;
      name = ap (slice_get (names ++ None ∷ [])) (e ∙ sym t.names_long) ∙ get_last names None;
    }
    by_empty j (inr (inr k)) = absurd k

    old_name : (zs : List (Option (List ℕ))) (j : ℕ) (s : List ℕ) → slice_get (zs ++ None ∷ []) j ≡ Some (Some s) → slice_get zs j ≡ Some (Some s)
    old_name [] zero s h = let no : Some None ≡ Some (Some s) = h in cc
    old_name [] (suc j) s h = let no : None ≡ Some (Some s) = h in cc
    old_name (z ∷ zs) zero s h = h
    old_name (z ∷ zs) (suc j) s h = old_name zs j s h

    same_filter : (site : List ℕ) → slots_of site (names ++ None ∷ []) order ≡ slots_of site names order
    same_filter site = filter_same (λ j. is_at site (slice_get (names ++ None ∷ []) j)) (λ j. is_at site (slice_get names j)) order (λ j m.
        let g = t.full j m in ap (is_at site) (get_left names (None ∷ []) j (within names j (Some g.site) g.name)))

-- the entries are the same then
pub grown_entries : (slots : List (Option Body)) (names : List (Option (List ℕ))) (ends : List (List ℕ × Ends)) (links own : List Link) (all free : Ends) (tags : List (ℕ × ℕ)) (order vacant : List ℕ) → IsTied slots names ends links own all free tags order vacant
    → entries_at (slots ++ None ∷ []) (names ++ None ∷ []) order ≡ entries_at slots names order
grown_entries slots names ends links own all free tags order vacant t =
    map_same (entry_at (slots ++ None ∷ []) (names ++ None ∷ [])) (entry_at slots names) order (λ j m.
    let g = t.full j m in
    ap₂ (λ b s. entry_of (body_in b) (site_in s)) (get_left slots (None ∷ []) j (within slots j (Some g.body) g.at)) (get_left names (None ∷ []) j (within names j (Some g.site) g.name)))

-- No entries.

pub none_tied : IsTied [] [] [] [] [] (record { first = None; last = None }) (record { first = None; last = None }) [] [] []
none_tied = record {
  chain = chain_none [];
  free_chain = chain_none [];
  apart = tt;
  free_apart = tt;
  count = refl;
  links_long = refl;
  own_long = refl;
  names_long = refl;
  full = λ i m. absurd m;
  empty = λ i m. absurd m;
  named = λ i s h. let no : None ≡ Some (Some s) = h in cc;
  tagged = λ u i h. let no : None ≡ Some i = h in cc;
  sites = λ site. refl;
}

-- The next slot that goes.

front_none : (size budget : ℕ) (f : ℕ → Entry) (order : List ℕ) → front_slot size budget (total (map f order)) (first_or order None) ≡ None → front_place size budget (map f order) ≡ None
front_none size budget f [] h =
    let same : 0 + size ≡ size = omega arith in
    cases (nat_le size budget)
    (λ q. let r : nat_le (0 + size) budget ≡ true = ap (λ n. nat_le n budget) same ∙ q in rw (q, r) refl)
    (λ q. rw q refl)
front_none size budget f (x ∷ xs) h =
    cases (nat_le size budget && not (nat_le (total (map f (x ∷ xs)) + size) budget))
    (λ q. let h1 : Some x ≡ None = rw q at h in cc)
    (λ q. rw q refl)

front_some : (size budget : ℕ) (f : ℕ → Entry) (order : List ℕ) (i : ℕ) → front_slot size budget (total (map f order)) (first_or order None) ≡ Some i → (ys : List ℕ) × (order ≡ i ∷ ys) × (front_place size budget (map f order) ≡ Some 0)
front_some size budget f [] i h =
    cases (nat_le size budget && not (nat_le (total (map f []) + size) budget))
    (λ q. let h1 : None ≡ Some i = rw q at h in cc)
    (λ q. let h1 : None ≡ Some i = rw q at h in cc)
front_some size budget f (x ∷ xs) i h =
    cases (nat_le size budget && not (nat_le (total (map f (x ∷ xs)) + size) budget))
    (λ q. let h1 : Some x ≡ Some i = rw q at h in let same : x ≡ i = cc in (xs, ap (λ y. y ∷ xs) same, rw q refl))
    (λ q. let h1 : None ≡ Some i = rw q at h in cc)

pub record IsNext (site : List ℕ) (attribute size budget : ℕ) (f : ℕ → Entry) (order : List ℕ) (i : ℕ) : Type 0 where
  pub left : List ℕ
  pub right : List ℕ
  pub whole : order ≡ left ++ i ∷ right
  pub place_is : next_place site attribute size budget (map f order) ≡ Some (length left)

module _ (slots : List (Option Body)) (names : List (Option (List ℕ))) (ends : List (List ℕ × Ends)) (links own : List Link) (all free : Ends) (tags : List (ℕ × ℕ)) (order vacant : List ℕ) (t : IsTied slots names ends links own all free tags order vacant) (site : List ℕ) (attribute size budget : ℕ) where
  test_is : (j : ℕ) → IsIn j order → of_site site (entry_at slots names j) ≡ is_at site (slice_get names j)
  test_is j m = let f = t.full j m in ap (λ o. bytes_eq site (site_in o)) f.name ∙ sym (ap (is_at site) f.name)

  first_is : first_in (lookup (bytes_eq site) ends) ≡ first_or (slots_of site names order) None
  first_is = by (lookup (bytes_eq site) ends) (t.sites site)
    where
      by : (o : Option Ends) → IsSiteChain own o (slots_of site names order) → first_in o ≡ first_or (slots_of site names order) None
      by None e = rw e refl
      by (Some e) c = c.first

  fronts : (a : Option ℕ) → front_slot size budget (total (entries_at slots names order)) all.first ≡ a → front_slot size budget (total (entries_at slots names order)) (first_or order None) ≡ a
  fronts a h = ap (front_slot size budget (total (entries_at slots names order))) (sym t.chain.first) ∙ h

  pub next_none_of : next_slot (lookup (bytes_eq site) ends) attribute size budget (total (entries_at slots names order)) all.first ≡ None → next_place site attribute size budget (entries_at slots names order) ≡ None
  next_none_of h =
      cases (attribute == 0)
      (λ a. rw a refl)
      (λ a. cases (attribute == 2)
      (λ b.
      let h1 : or_place (first_in (lookup (bytes_eq site) ends)) (front_slot size budget (total (entries_at slots names order)) all.first) ≡ None = rw (a, b) at h in
      let r = both_none (first_in (lookup (bytes_eq site) ends)) (front_slot size budget (total (entries_at slots names order)) all.first) h1 in
      let p = none_placed (λ j. is_at site (slice_get names j)) (of_site site) (entry_at slots names) order 0 test_is (sym first_is ∙ r.0) in
      rw (a, b, p) (front_none size budget (entry_at slots names) order (fronts None r.1)))
      (λ b.
      let h1 : front_slot size budget (total (entries_at slots names order)) all.first ≡ None = rw (a, b) at h in
      rw (a, b) (front_none size budget (entry_at slots names) order (fronts None h1))))
    where
      both_none : (x y : Option ℕ) → or_place x y ≡ None → (x ≡ None) × (y ≡ None)
      both_none None y h = (refl, h)
      both_none (Some i) y h = cc

  pub next_some_of : (i : ℕ) → next_slot (lookup (bytes_eq site) ends) attribute size budget (total (entries_at slots names order)) all.first ≡ Some i → IsNext site attribute size budget (entry_at slots names) order i
  next_some_of i h =
      cases (attribute == 0)
      (λ a. let h1 : None ≡ Some i = rw a at h in cc)
      (λ a. cases (attribute == 2)
      (λ b.
      let h1 : or_place (first_in (lookup (bytes_eq site) ends)) (front_slot size budget (total (entries_at slots names order)) all.first) ≡ Some i = rw (a, b) at h in
      by_site a b (first_in (lookup (bytes_eq site) ends)) refl h1)
      (λ b.
      let h1 : front_slot size budget (total (entries_at slots names order)) all.first ≡ Some i = rw (a, b) at h in
      let r = front_some size budget (entry_at slots names) order i (fronts (Some i) h1) in
      record { left = []; right = r.0; whole = r.1; place_is = rw (a, b) r.2 }))
    where
      by_site : (attribute == 0) ≡ false → (attribute == 2) ≡ true → (o : Option ℕ) → first_in (lookup (bytes_eq site) ends) ≡ o → or_place o (front_slot size budget (total (entries_at slots names order)) all.first) ≡ Some i → IsNext site attribute size budget (entry_at slots names) order i
      by_site a b None e h =
          let p = none_placed (λ j. is_at site (slice_get names j)) (of_site site) (entry_at slots names) order 0 test_is (sym first_is ∙ e) in
          let r = front_some size budget (entry_at slots names) order i (fronts (Some i) h) in
          record { left = []; right = r.0; whole = r.1; place_is = rw (a, b, p) r.2 }
      by_site a b (Some j) e h =
          let same : j ≡ i = let g : Some j ≡ Some i = h in cc in
          let p = first_placed (λ k. is_at site (slice_get names k)) (of_site site) (entry_at slots names) order i 0 test_is (sym first_is ∙ e ∙ ap Some same) in
          let at : place (of_site site) (entries_at slots names order) ≡ Some (length p.left) = p.place ∙ ap Some (omega arith) in
          record { left = p.left; right = p.right; whole = p.whole; place_is = rw (a, b, at) refl }
