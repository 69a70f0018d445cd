-- Each call as a step of the list of entries.
use Rattle.std.proofs.Common.{◌≡◌, ℕ, ◌+◌, ◌<◌, ◌≤◌, List, [], ◌∷◌, ◌++◌, length, true, cond, Option, Some, None, refl, sym, ap, ap₂, ◌∙◌, subst, arith, inl, inr, is_some}
use Rattle.std.specs.Prelude.{slice_get, slice_set, nat_eq, bytes_eq, if◌then◌else◌}
use Rattle.std.specs.List.{remove}
use Rattle.std.specs.Map.{lookup}
use Rattle.std.specs.Cmp.Lexicographic.{bytes_decides}
use Rattle.dx_cache.proofs.ChainLaws.{chain_same, chain_within}
use Rattle.dx_cache.proofs.Lists.{get_left}
use Rattle.dx_cache.specs.declared.chains.Link.{Link}
use Rattle.dx_cache.specs.declared.chains.Ends.{Ends}
use Rattle.dx_cache.specs.Chain.{IsChain, IsIn, IsOut, AreApart, first_or}
use Rattle.dx_cache.proofs.SlotLaws.{within, get_set_same, in_others, in_right, not_in_out, out_not_in, out_left, out_right, out_both, apart_others, apart_middle, split_at}
use Rattle.dx_cache.specs.Named.{HasName, given_ends, added_ends, taken_ends, or_no_ends}
use Rattle.dx_cache.specs.declared.entry.Entry.{Entry}
use Rattle.dx_cache.specs.declared.slots.Body.{Body}
use Rattle.dx_cache.specs.Cached.{Cached, total, place, has_tag, find, moved, Drops}
use Rattle.dx_cache.specs.Sound.{IsKept, AreKept, IsBounded}
use Rattle.dx_cache.specs.Tied.{body_in, site_in, entry_of, entry_at, entries_at, slots_of, IsFull, HasTag, IsTied, order_in, IsSound}
use Rattle.dx_cache.proofs.Places.{place_first, first_moved, total-moved, kept-moved, total-remove, kept-remove, total-append, kept-append}
use Rattle.dx_cache.proofs.Orders.{get_middle, remove_middle, map_both, length_both, split_place}
use Rattle.dx_cache.proofs.Tying.{kept_first, kept_found, not_both, order_is, vacant_is, vacant_within, sound_by, no_slot, site_chain, middle_out, middle_apart, site_split, site_apart, moved_tied, left_entries, removed_tied, is_free, stored_entries, stored_tied, grown_tied, grown_entries, none_tied, IsNext}

-- A slot of the list, with what stands round it.
pub record AtSlot (slots : List (Option Body)) (names : List (Option (List ℕ))) (ends : List (List ℕ × Ends)) (links own : List Link) (all free : Ends) (tags : List (ℕ × ℕ)) (order vacant : List ℕ) (i : ℕ) : Type 0 where
  pub left : List ℕ
  pub right : List ℕ
  pub whole : order ≡ left ++ i ∷ right
  pub tied : IsTied slots names ends links own all free tags (left ++ i ∷ right) vacant
  pub full : IsFull slots names tags i

pub at_slot : (slots : List (Option Body)) (names : List (Option (List ℕ))) (ends : List (List ℕ × Ends)) (links own : List Link) (all free : Ends) (tags : List (ℕ × ℕ)) (order vacant : List ℕ) → IsTied slots names ends links own all free tags order vacant → (i : ℕ) → IsIn i order → AtSlot slots names ends links own all free tags order vacant i
at_slot slots names ends links own all free tags order vacant t i m =
    let s = split_at i order m in
    record {
      left = s.left;
      right = s.right;
      whole = s.whole;
      tied = subst (λ o. IsTied slots names ends links own all free tags o vacant) s.whole t;
      full = t.full i m;
    }

module _ (slots : List (Option Body)) (names : List (Option (List ℕ))) (ends : List (List ℕ × Ends)) (links own : List Link) (all free : Ends) (tags : List (ℕ × ℕ)) (order vacant : List ℕ) (i : ℕ) (a : AtSlot slots names ends links own all free tags order vacant i) where
  pub here_within : i < length links
  here_within = let l = a.tied.links_long in let w = within slots i (Some a.full.body) a.full.at in omega (arith, l, w)

  pub here_own_within : i < length own
  here_own_within = let l = a.tied.own_long in let w = within slots i (Some a.full.body) a.full.at in omega (arith, l, w)

  pub here_chain : (e : Ends) → lookup (bytes_eq a.full.site) ends ≡ Some e → IsChain own e (slots_of a.full.site names a.left ++ i ∷ slots_of a.full.site names a.right)
  here_chain e l =
      subst (IsChain own e) (site_split slots names ends links own all free tags a.left a.right vacant i a.tied a.full.site a.full.name)
      (site_chain slots names ends links own all free tags (a.left ++ i ∷ a.right) vacant a.tied a.full.site e l)

  pub here_apart : AreApart (slots_of a.full.site names a.left ++ i ∷ slots_of a.full.site names a.right)
  here_apart = site_apart slots names ends links own all free tags a.left a.right vacant i a.tied a.full.site a.full.name

  pub others_apart : AreApart (slots_of a.full.site names a.left ++ slots_of a.full.site names a.right)
  others_apart = apart_others (slots_of a.full.site names a.left) (slots_of a.full.site names a.right) i here_apart

  pub here_out : IsOut i (slots_of a.full.site names a.left ++ slots_of a.full.site names a.right)
  here_out = apart_middle (slots_of a.full.site names a.left) (slots_of a.full.site names a.right) i here_apart

  pub all_out : IsOut i (a.left ++ a.right)
  all_out = middle_out slots names ends links own all free tags a.left a.right vacant i a.tied

  pub all_apart : AreApart (a.left ++ a.right)
  all_apart = middle_apart slots names ends links own all free tags a.left a.right vacant i a.tied

  -- a slot that is none of the site's keeps its link through both steps
  pub kept_own : (own1 own2 : List Link) → ((j : ℕ) → IsOut j (slots_of a.full.site names a.left ++ i ∷ slots_of a.full.site names a.right) → slice_get own1 j ≡ slice_get own j)
      → ((j : ℕ) → ¬ (j ≡ i) → IsOut j (slots_of a.full.site names a.left ++ slots_of a.full.site names a.right) → slice_get own2 j ≡ slice_get own1 j)
      → (j : ℕ) → IsOut j (slots_of a.full.site names (a.left ++ i ∷ a.right)) → slice_get own2 j ≡ slice_get own j
  kept_own own1 own2 f g j o =
      let o1 = subst (IsOut j) (site_split slots names ends links own all free tags a.left a.right vacant i a.tied a.full.site a.full.name) o in
      g j (not_here j o1) (out_both j (slots_of a.full.site names a.left) (slots_of a.full.site names a.right) (out_left j (slots_of a.full.site names a.left) (i ∷ slots_of a.full.site names a.right) o1) (out_right j (slots_of a.full.site names a.left) (i ∷ slots_of a.full.site names a.right) o1).1) ∙ f j o1
    where
      not_here : (j : ℕ) → IsOut j (slots_of a.full.site names a.left ++ i ∷ slots_of a.full.site names a.right) → ¬ (j ≡ i)
      not_here j o e = (out_right j (slots_of a.full.site names a.left) (i ∷ slots_of a.full.site names a.right) o).0 e

  pub entry_here : slice_get (entries_at slots names order) (length a.left) ≡ Some (entry_at slots names i)
  entry_here = ap (λ o. slice_get (entries_at slots names o) (length a.left)) a.whole ∙ get_middle (entry_at slots names) a.left a.right i

  pub entry_form : entry_at slots names i ≡ entry_of a.full.body a.full.site
  entry_form = ap₂ (λ b s. entry_of b s) (ap body_in a.full.at) (ap site_in a.full.name)

  pub removed_here : remove (entries_at slots names order) (length a.left) ≡ entries_at slots names (a.left ++ a.right)
  removed_here = ap (λ o. remove (entries_at slots names o) (length a.left)) a.whole ∙ remove_middle (entry_at slots names) a.left a.right i

-- Moving to the end.

pub record IsMoved (budget used tag : ℕ) (slots : List (Option Body)) (names names' : List (Option (List ℕ))) (ends' : List (List ℕ × Ends)) (links links' own' : List Link) (all all' free : Ends) (tags : List (ℕ × ℕ)) : Type 0 where
  pub sound : IsSound budget used slots names' ends' links' own' all' free tags
  pub found : is_some (find tag (entries_at slots names (order_in links slots all))) ≡ true
  pub entries : entries_at slots names' (order_in links' slots all') ≡ moved tag (entries_at slots names (order_in links slots all))
  pub vacant : order_in links' slots free ≡ order_in links slots free

pub moved_sound : (budget used tag : ℕ) (slots : List (Option Body)) (names names' : List (Option (List ℕ))) (ends ends' : List (List ℕ × Ends)) (links links' own own' : List Link) (all all' free e' : Ends) (tags : List (ℕ × ℕ)) (i : ℕ)
    → IsSound budget used slots names ends links own all free tags
    → (a : AtSlot slots names ends links own all free tags (order_in links slots all) (order_in links slots free) i) → a.full.body.tag ≡ tag
    → IsChain links' all' ((a.left ++ a.right) ++ i ∷ []) → ((j : ℕ) → IsOut j (a.left ++ i ∷ a.right) → slice_get links' j ≡ slice_get links j) → length links' ≡ length links
    → IsChain own' e' ((slots_of a.full.site names a.left ++ slots_of a.full.site names a.right) ++ i ∷ []) → ((j : ℕ) → IsOut j (slots_of a.full.site names (a.left ++ i ∷ a.right)) → slice_get own' j ≡ slice_get own j) → length own' ≡ length own
    → names' ≡ names
    → ((other : List ℕ) → lookup (bytes_eq other) ends' ≡ given_ends a.full.site e' other (lookup (bytes_eq other) ends))
    → IsMoved budget used tag slots names names' ends' links links' own' all all' free tags
moved_sound budget used tag slots names names' ends ends' links links' own own' all all' free e' tags i s a tag_is c f l oc of ol n es =
    let order = order_in links slots all in
    let vacant = order_in links slots free in
    let t = moved_tied slots names ends links own all free tags a.left a.right vacant i a.tied links' own' all' e' ends' a.full.site c f l a.full.name oc of ol es in
    let here = entry_here slots names ends links own all free tags order vacant i a in
    let has : (entry_at slots names i).tag ≡ tag = ap (λ (x : Entry). x.tag) (entry_form slots names ends links own all free tags order vacant i a) ∙ tag_is in
    let old = entries_at slots names order in
    let new : entries_at slots names ((a.left ++ a.right) ++ i ∷ []) ≡ remove (entries_at slots names order) (length a.left) ++ entry_at slots names i ∷ [] =
    map_both (entry_at slots names) (a.left ++ a.right) (i ∷ []) ∙ ap (λ xs. xs ++ entry_at slots names i ∷ []) (sym (removed_here slots names ends links own all free tags order vacant i a)) in
    let sum = total-moved (entries_at slots names order) (length a.left) (entry_at slots names i) here in
    let kept = kept-moved (entries_at slots names order) (length a.left) (entry_at slots names i) s.kept here in
    let first = kept_first (entries_at slots names order) (length a.left) tag (entry_at slots names i) s.kept here has in
    let is_moved = first_moved tag (entries_at slots names order) (length a.left) (entry_at slots names i) s.kept first here in
    rw n (record {
      sound = sound_by slots names ends' links' own' all' free tags ((a.left ++ a.right) ++ i ∷ []) vacant t budget used (s.used_is ∙ sym sum ∙ sym (ap total new)) s.bounded (subst AreKept (sym new) kept)
          (let n0 = s.counted in let n1 = ap length a.whole in let n2 = length_both a.left (i ∷ a.right) in let n3 = length_both (a.left ++ a.right) (i ∷ []) in let n4 = length_both a.left a.right in omega (arith, n0, n1, n2, n3, n4));
      found = ap is_some (kept_found (entries_at slots names order) (length a.left) tag (entry_at slots names i) s.kept here has);
      entries = ap (entries_at slots names) (order_is slots names ends' links' own' all' free tags ((a.left ++ a.right) ++ i ∷ []) vacant t) ∙ new ∙ sym is_moved;
      vacant = vacant_is slots names ends' links' own' all' free tags ((a.left ++ a.right) ++ i ∷ []) vacant t;
    })

-- Taking out.

pub record IsRemoved (budget used used' : ℕ) (slots slots' : List (Option Body)) (names names' : List (Option (List ℕ))) (ends' : List (List ℕ × Ends)) (links links' own' : List Link) (all all' free free' : Ends) (tags' : List (ℕ × ℕ)) (place : ℕ) : Type 0 where
  pub sound : IsSound budget used' slots' names' ends' links' own' all' free' tags'
  pub entries : entries_at slots' names' (order_in links' slots' all') ≡ remove (entries_at slots names (order_in links slots all)) place
  pub vacant : length (order_in links' slots' free') ≡ length (order_in links slots free) + 1

pub removed_sound : (budget used used' : ℕ) (slots slots' : List (Option Body)) (names names' : List (Option (List ℕ))) (ends ends' : List (List ℕ × Ends)) (links links' own own' : List Link) (all all' free free' e' : Ends) (tags tags' : List (ℕ × ℕ)) (i : ℕ)
    → IsSound budget used slots names ends links own all free tags
    → (a : AtSlot slots names ends links own all free tags (order_in links slots all) (order_in links slots free) i)
    → used ≡ used' + a.full.body.size
    → slots' ≡ slice_set slots i None → names' ≡ slice_set names i None
    → ((q : ℕ) → lookup (nat_eq q) tags' ≡ cond (nat_eq a.full.body.tag q) None (lookup (nat_eq q) tags)) → length tags' + 1 ≡ length tags
    → IsChain links' all' (a.left ++ a.right) → IsChain links' free' (order_in links slots free ++ i ∷ []) → length links' ≡ length links
    → IsChain own' e' (slots_of a.full.site names a.left ++ slots_of a.full.site names a.right) → ((j : ℕ) → IsOut j (slots_of a.full.site names (a.left ++ i ∷ a.right)) → slice_get own' j ≡ slice_get own j) → length own' ≡ length own
    → ((other : List ℕ) → lookup (bytes_eq other) ends' ≡ taken_ends e'.first a.full.site other (given_ends a.full.site e' other (lookup (bytes_eq other) ends)))
    → IsRemoved budget used used' slots slots' names names' ends' links links' own' all all' free free' tags' (length a.left)
removed_sound budget used used' slots slots' names names' ends ends' links links' own own' all all' free free' e' tags tags' i s a u sl n ts tn c fc l oc of ol es =
    let order = order_in links slots all in
    let vacant = order_in links slots free in
    let t = removed_tied slots names ends links own all free tags a.left a.right vacant i a.tied links' own' all' free' e' ends' tags' a.full.body a.full.site a.full.at ts c fc l a.full.name oc of ol es in
    let here = entry_here slots names ends links own all free tags order vacant i a in
    let sum = total-remove (entries_at slots names order) (length a.left) (entry_at slots names i) here in
    let size : (entry_at slots names i).size ≡ a.full.body.size = ap (λ (x : Entry). x.size) (entry_form slots names ends links own all free tags order vacant i a) in
    let was = s.used_is in
    let bounded = s.bounded in
    let new : entries_at (slice_set slots i None) (slice_set names i None) (a.left ++ a.right) ≡ remove (entries_at slots names order) (length a.left) =
    left_entries slots names ends links own all free tags a.left a.right vacant i a.tied ∙ sym (removed_here slots names ends links own all free tags order vacant i a) in
    let total_is = ap total new in
    rw (sl, n) (record {
      sound = sound_by (slice_set slots i None) (slice_set names i None) ends' links' own' all' free' tags' (a.left ++ a.right) (vacant ++ i ∷ []) t budget used'
          (omega (arith, u, was, sum, size, total_is)) (omega (arith, u, bounded)) (subst AreKept (sym new) (kept-remove (entries_at slots names order) (length a.left) s.kept))
          (let n0 = s.counted in let n1 = ap length a.whole in let n2 = length_both a.left (i ∷ a.right) in let n3 = length_both a.left a.right in omega (arith, tn, n0, n1, n2, n3));
      entries = ap (entries_at (slice_set slots i None) (slice_set names i None)) (order_is (slice_set slots i None) (slice_set names i None) ends' links' own' all' free' tags' (a.left ++ a.right) (vacant ++ i ∷ []) t) ∙ new;
      vacant = ap length (vacant_is (slice_set slots i None) (slice_set names i None) ends' links' own' all' free' tags' (a.left ++ a.right) (vacant ++ i ∷ []) t) ∙ length_both vacant (i ∷ []);
    })

-- Storing.

pub record IsStored (budget used' : ℕ) (slots slots' : List (Option Body)) (names names' : List (Option (List ℕ))) (ends' : List (List ℕ × Ends)) (links links' own' : List Link) (all all' free free' : Ends) (tags' : List (ℕ × ℕ)) (entry : Entry) : Type 0 where
  pub sound : IsSound budget used' slots' names' ends' links' own' all' free' tags'
  pub entries : entries_at slots' names' (order_in links' slots' all') ≡ entries_at slots names (order_in links slots all) ++ entry ∷ []
  pub vacant : length (order_in links' slots' free') + 1 ≡ length (order_in links slots free)

pub stored_sound : (budget used used' : ℕ) (slots slots' : List (Option Body)) (names names' : List (Option (List ℕ))) (ends ends' : List (List ℕ × Ends)) (links links' own own' : List Link) (all all' free free' e' : Ends) (tags tags' : List (ℕ × ℕ)) (i : ℕ) (vacant : List ℕ) (b : Body) (site : List ℕ)
    → IsSound budget used slots names ends links own all free tags
    → order_in links slots free ≡ i ∷ vacant
    → used' ≡ used + b.size → total (entries_at slots names (order_in links slots all)) + b.size ≤ budget
    → find b.tag (entries_at slots names (order_in links slots all)) ≡ None → IsKept (entry_of b site)
    → slots' ≡ slice_set slots i (Some b) → names' ≡ slice_set names i (Some site)
    → ((q : ℕ) → lookup (nat_eq q) tags' ≡ cond (nat_eq b.tag q) (Some i) (lookup (nat_eq q) tags)) → length tags' ≡ length tags + (if is_some (lookup (nat_eq b.tag) tags) then 0 else 1)
    → IsChain links' all' (order_in links slots all ++ i ∷ []) → IsChain links' free' vacant → length links' ≡ length links
    → IsChain own' e' (slots_of site names (order_in links slots all) ++ i ∷ []) → ((j : ℕ) → ¬ (j ≡ i) → IsOut j (slots_of site names (order_in links slots all)) → slice_get own' j ≡ slice_get own j) → length own' ≡ length own
    → ((other : List ℕ) → lookup (bytes_eq other) ends' ≡ given_ends site e' other (added_ends site other (lookup (bytes_eq other) ends)))
    → IsStored budget used' slots slots' names names' ends' links links' own' all all' free free' tags' (entry_of b site)
stored_sound budget used used' slots slots' names names' ends ends' links links' own own' all all' free free' e' tags tags' i vacant b site s v u fits absent kept sl n ts tn c fc l oc of ol es =
    let order = order_in links slots all in
    let before : IsTied slots names ends links own all free tags (order_in links slots all) (i ∷ vacant) = subst (λ w. IsTied slots names ends links own all free tags (order_in links slots all) w) v s.tied in
    let no = no_slot slots names ends links own all free tags order (i ∷ vacant) before b.tag s.kept absent in
    let one : length tags' ≡ length tags + 1 = subst (λ (o : Option ℕ). length tags' ≡ length tags + (if is_some o then 0 else 1)) no tn in
    let t = stored_tied slots names ends links own all free tags order vacant i before b site links' own' all' free' e' ends' tags' no ts c fc l oc of ol es in
    let new = stored_entries slots names ends links own all free tags order vacant i before b site in
    let sum = total-append (entries_at slots names order) (entry_of b site ∷ []) in
    let total_is = ap total new in
    let was = s.used_is in
    rw (sl, n) (record {
      sound = sound_by (slice_set slots i (Some b)) (slice_set names i (Some site)) ends' links' own' all' free' tags' (order ++ i ∷ []) vacant t budget used'
          (omega (arith, u, was, sum, total_is)) (omega (arith, u, was, fits))
          (subst AreKept (sym new) (kept-append (entries_at slots names order) (entry_of b site) s.kept kept absent))
          (let n0 = s.counted in let n1 = length_both order (i ∷ []) in omega (arith, one, n0, n1));
      entries = ap (entries_at (slice_set slots i (Some b)) (slice_set names i (Some site))) (order_is (slice_set slots i (Some b)) (slice_set names i (Some site)) ends' links' own' all' free' tags' (order ++ i ∷ []) vacant t) ∙ new;
      vacant = (let is = ap length (vacant_is (slice_set slots i (Some b)) (slice_set names i (Some site)) ends' links' own' all' free' tags' (order ++ i ∷ []) vacant t) in let old = ap length v in omega (arith, is, old));
    })

-- One more free slot.

pub record IsGrown (budget used : ℕ) (slots slots' : List (Option Body)) (names names' : List (Option (List ℕ))) (ends : List (List ℕ × Ends)) (links links' own' : List Link) (all free free' : Ends) (tags : List (ℕ × ℕ)) : Type 0 where
  pub sound : IsSound budget used slots' names' ends links' own' all free' tags
  pub entries : entries_at slots' names' (order_in links' slots' all) ≡ entries_at slots names (order_in links slots all)
  pub vacant : length (order_in links' slots' free') ≡ length (order_in links slots free) + 1

pub grown_sound : (budget used : ℕ) (slots slots' : List (Option Body)) (names names' : List (Option (List ℕ))) (ends : List (List ℕ × Ends)) (links links1 links' own own' : List Link) (all free free' : Ends) (tags : List (ℕ × ℕ)) (l : Link)
    → IsSound budget used slots names ends links own all free tags
    → slots' ≡ slots ++ None ∷ [] → names' ≡ names ++ None ∷ [] → links1 ≡ links ++ l ∷ [] → own' ≡ own ++ l ∷ []
    → IsChain links' free' (order_in links slots free ++ length slots ∷ []) → ((j : ℕ) → ¬ (j ≡ length slots) → IsOut j (order_in links slots free) → slice_get links' j ≡ slice_get links1 j) → length links' ≡ length links1
    → IsGrown budget used slots slots' names names' ends links links' own' all free free' tags
grown_sound budget used slots slots' names names' ends links links1 links' own own' all free free' tags l s sl n l1 oe c f ll =
    let order = order_in links slots all in
    let vacant = order_in links slots free in
    let t = grown_tied slots names ends links own all free tags order vacant s.tied links' own' free' l c (λ j d o. f j d o ∙ ap (λ xs. slice_get xs j) l1) (ll ∙ ap length l1) oe in
    let new = grown_entries slots names ends links own all free tags order vacant s.tied in
    rw (sl, n) (record {
      sound = sound_by (slots ++ None ∷ []) (names ++ None ∷ []) ends links' own' all free' tags order (vacant ++ length slots ∷ []) t budget used (s.used_is ∙ sym (ap total new)) s.bounded (subst AreKept (sym new) s.kept) s.counted;
      entries = ap (entries_at (slots ++ None ∷ []) (names ++ None ∷ [])) (order_is (slots ++ None ∷ []) (names ++ None ∷ []) ends links' own' all free' tags order (vacant ++ length slots ∷ []) t) ∙ new;
      vacant = ap length (vacant_is (slots ++ None ∷ []) (names ++ None ∷ []) ends links' own' all free' tags order (vacant ++ length slots ∷ []) t) ∙ length_both vacant (length slots ∷ []);
    })

-- No entries.
pub none_sound : (budget : ℕ) → IsSound budget 0 [] [] [] [] [] (record { first = None; last = None }) (record { first = None; last = None }) []
none_sound budget = sound_by [] [] [] [] [] (record { first = None; last = None }) (record { first = None; last = None }) [] [] [] none_tied budget 0 refl (omega arith) tt refl

-- For the code's exits.

pub sound_bounded : (budget used : ℕ) (slots : List (Option Body)) (names : List (Option (List ℕ))) (ends : List (List ℕ × Ends)) (links own : List Link) (all free : Ends) (tags : List (ℕ × ℕ)) (room : ℕ) → IsSound budget used slots names ends links own all free tags → IsBounded (record { budget = budget; entries = entries_at slots names (order_in links slots all); room = room })
sound_bounded budget used slots names ends links own all free tags room s = record { bounded = subst (λ u. u ≤ budget) s.used_is s.bounded; kept = s.kept }

pub tag_at : (slots : List (Option Body)) (names : List (Option (List ℕ))) (tags : List (ℕ × ℕ)) (order : List ℕ) (t i : ℕ) (h : HasTag slots order t i) (f : IsFull slots names tags i) → f.body.tag ≡ t
tag_at slots names tags order t i h f =
    let two : Some (Some f.body) ≡ Some (Some h.body) = sym f.at ∙ h.at in
    let same : f.body ≡ h.body = cc in
    ap (λ (x : Body). x.tag) same ∙ h.tag

-- the place of a slot's tag is that of the slot
pub tag_place : (slots : List (Option Body)) (names : List (Option (List ℕ))) (ends : List (List ℕ × Ends)) (links own : List Link) (all free : Ends) (tags : List (ℕ × ℕ)) (order vacant : List ℕ) (i : ℕ) (a : AtSlot slots names ends links own all free tags order vacant i) (tag : ℕ) → AreKept (entries_at slots names order) → a.full.body.tag ≡ tag → place (has_tag tag) (entries_at slots names order) ≡ Some (length a.left)
tag_place slots names ends links own all free tags order vacant i a tag k e =
    let here = entry_here slots names ends links own all free tags order vacant i a in
    let has : (entry_at slots names i).tag ≡ tag = ap (λ (x : Entry). x.tag) (entry_form slots names ends links own all free tags order vacant i a) ∙ e in
    place_first (has_tag tag) (entries_at slots names order) 0 (length a.left) (kept_first (entries_at slots names order) (length a.left) tag (entry_at slots names i) k here has) ∙ ap Some (omega arith)

-- the slot at a place of the order
pub at_place : (slots : List (Option Body)) (names : List (Option (List ℕ))) (ends : List (List ℕ × Ends)) (links own : List Link) (all free : Ends) (tags : List (ℕ × ℕ)) (order vacant : List ℕ) → IsTied slots names ends links own all free tags order vacant → (n i : ℕ) → slice_get order n ≡ Some i → (a : AtSlot slots names ends links own all free tags order vacant i) × (length a.left ≡ n)
at_place slots names ends links own all free tags order vacant t n i h =
    let s = split_place order n i h in (
      record {
        left = s.left;
        right = s.right;
        whole = s.whole;
        tied = subst (λ o. IsTied slots names ends links own all free tags o vacant) s.whole t;
        full = t.full i (subst (IsIn i) (sym s.whole) (in_right i s.left (i ∷ s.right) (inl refl)));
      },
      s.place,
    )

-- a slot that stands in no part keeps its link through both steps
pub both_steps : (l0 l1 l2 : List Link) (xs ys : List ℕ) (i : ℕ) → ((j : ℕ) → IsOut j (xs ++ i ∷ ys) → slice_get l1 j ≡ slice_get l0 j) → ((j : ℕ) → ¬ (j ≡ i) → IsOut j (xs ++ ys) → slice_get l2 j ≡ slice_get l1 j) → (j : ℕ) → IsOut j (xs ++ i ∷ ys) → slice_get l2 j ≡ slice_get l0 j
both_steps l0 l1 l2 xs ys i f g j o = g j (out_right j xs (i ∷ ys) o).0 (out_both j xs ys (out_left j xs (i ∷ ys) o) (out_right j xs (i ∷ ys) o).1) ∙ f j o

-- the next that is dropped
pub at_next : (slots : List (Option Body)) (names : List (Option (List ℕ))) (ends : List (List ℕ × Ends)) (links own : List Link) (all free : Ends) (tags : List (ℕ × ℕ)) (order vacant : List ℕ) (i : ℕ) (site : List ℕ) (attribute size budget : ℕ) → IsTied slots names ends links own all free tags order vacant → (n : IsNext site attribute size budget (entry_at slots names) order i) → (a : AtSlot slots names ends links own all free tags order vacant i) × (n.left ≡ a.left)
at_next slots names ends links own all free tags order vacant i site attribute size budget t n = (
  record {
    left = n.left;
    right = n.right;
    whole = n.whole;
    tied = subst (λ o. IsTied slots names ends links own all free tags o vacant) n.whole t;
    full = t.full i (subst (IsIn i) (sym n.whole) (in_right i n.left (i ∷ n.right) (inl refl)));
  },
  refl,
)

-- the first of the free slots
pub record IsFirstFree (slots : List (Option Body)) (names : List (Option (List ℕ))) (ends : List (List ℕ × Ends)) (links own : List Link) (all free : Ends) (tags : List (ℕ × ℕ)) (order vacant : List ℕ) (i : ℕ) : Type 0 where
  pub rest : List ℕ
  pub whole : vacant ≡ i ∷ rest
  pub tied : IsTied slots names ends links own all free tags order (i ∷ rest)

pub first_free : (slots : List (Option Body)) (names : List (Option (List ℕ))) (ends : List (List ℕ × Ends)) (links own : List Link) (all free : Ends) (tags : List (ℕ × ℕ)) (order vacant : List ℕ) (i : ℕ) → IsTied slots names ends links own all free tags order vacant → free.first ≡ Some i → IsFirstFree slots names ends links own all free tags order vacant i
first_free slots names ends links own all free tags order vacant i t f =
    let s = split vacant (sym t.free_chain.first ∙ f) in
    record { rest = s.0; whole = s.1; tied = subst (λ v. IsTied slots names ends links own all free tags order v) s.1 t }
  where
    split : (vs : List ℕ) → first_or vs None ≡ Some i → (rest : List ℕ) × (vs ≡ i ∷ rest)
    split [] h = cc
    split (v ∷ vs) h = let same : v ≡ i = cc in (vs, ap (λ x. x ∷ vs) same)

pub none_free : (slots : List (Option Body)) (names : List (Option (List ℕ))) (ends : List (List ℕ × Ends)) (links own : List Link) (all free : Ends) (tags : List (ℕ × ℕ)) (order vacant : List ℕ) → IsTied slots names ends links own all free tags order vacant → free.first ≡ None → vacant ≡ []
none_free slots names ends links own all free tags order vacant t f = none vacant (sym t.free_chain.first ∙ f)
  where
    none : (vs : List ℕ) → first_or vs None ≡ None → vs ≡ []
    none [] h = refl
    none (v ∷ vs) h = cc

module _ (slots : List (Option Body)) (names : List (Option (List ℕ))) (ends : List (List ℕ × Ends)) (links own : List Link) (all free : Ends) (tags : List (ℕ × ℕ)) (order rest : List ℕ) (i : ℕ) (t : IsTied slots names ends links own all free tags order (i ∷ rest)) where
  pub free_within : i < length links
  free_within = let l = t.links_long in let w = vacant_within slots names ends links own all free tags order (i ∷ rest) t i (inl refl) in omega (arith, l, w)

  pub free_own_within : i < length own
  free_own_within = let l = t.own_long in let w = vacant_within slots names ends links own all free tags order (i ∷ rest) t i (inl refl) in omega (arith, l, w)

  pub free_slot_within : i < length slots
  free_slot_within = vacant_within slots names ends links own all free tags order (i ∷ rest) t i (inl refl)

  -- the other chain through the first step
  pub order_kept : (links1 : List Link) → ((j : ℕ) → IsOut j (i ∷ rest) → slice_get links1 j ≡ slice_get links j) → IsChain links1 all order
  order_kept links1 f = chain_same links links1 all order (λ j m. f j (not_in_out j (i ∷ rest) (λ n. not_both slots names ends links own all free tags order (i ∷ rest) t j m n))) t.chain

  -- and the free slots through the second
  pub rest_kept : (links1 links2 : List Link) (free' : Ends) → ((j : ℕ) → ¬ (j ≡ i) → IsOut j order → slice_get links2 j ≡ slice_get links1 j) → IsChain links1 free' rest → IsChain links2 free' rest
  rest_kept links1 links2 free' f c = chain_same links1 links2 free' rest (λ j m. f j
      (λ e. out_not_in i rest t.free_apart.0 (subst (λ k. IsIn k rest) e m))
      (not_in_out j order (λ n. not_both slots names ends links own all free tags order (i ∷ rest) t j n (inr m)))) c

  pub named_now : (site : List ℕ) → HasName (slice_set names i (Some site)) i site
  named_now site = get_set_same names i (Some site) (within names i None (is_free slots names ends links own all free tags order rest i t).name)

-- the free slots through the removal of one of the others
pub vacant_kept : (slots : List (Option Body)) (names : List (Option (List ℕ))) (ends : List (List ℕ × Ends)) (links own : List Link) (all free : Ends) (tags : List (ℕ × ℕ)) (xs ys vacant : List ℕ) (i : ℕ) → IsTied slots names ends links own all free tags (xs ++ i ∷ ys) vacant → (links1 : List Link) → ((j : ℕ) → IsOut j (xs ++ i ∷ ys) → slice_get links1 j ≡ slice_get links j) → IsChain links1 free vacant
vacant_kept slots names ends links own all free tags xs ys vacant i t links1 f =
    chain_same links links1 free vacant (λ j m. f j (not_in_out j (xs ++ i ∷ ys) (λ n. not_both slots names ends links own all free tags (xs ++ i ∷ ys) vacant t j n m))) t.free_chain

pub left_kept : (slots : List (Option Body)) (names : List (Option (List ℕ))) (ends : List (List ℕ × Ends)) (links own : List Link) (all free : Ends) (tags : List (ℕ × ℕ)) (xs ys vacant : List ℕ) (i : ℕ) → IsTied slots names ends links own all free tags (xs ++ i ∷ ys) vacant → (links1 links2 : List Link) (all' : Ends) → ((j : ℕ) → ¬ (j ≡ i) → IsOut j vacant → slice_get links2 j ≡ slice_get links1 j) → IsChain links1 all' (xs ++ ys) → IsChain links2 all' (xs ++ ys)
left_kept slots names ends links own all free tags xs ys vacant i t links1 links2 all' f c =
    chain_same links1 links2 all' (xs ++ ys) (λ j m. f j
    (λ e. out_not_in i (xs ++ ys) (middle_out slots names ends links own all free tags xs ys vacant i t) (subst (λ k. IsIn k (xs ++ ys)) e m))
    (not_in_out j vacant (λ n. not_both slots names ends links own all free tags (xs ++ i ∷ ys) vacant t j (in_others xs ys i j m) n))) c

pub here_vacant_out : (slots : List (Option Body)) (names : List (Option (List ℕ))) (ends : List (List ℕ × Ends)) (links own : List Link) (all free : Ends) (tags : List (ℕ × ℕ)) (xs ys vacant : List ℕ) (i : ℕ) → IsTied slots names ends links own all free tags (xs ++ i ∷ ys) vacant → IsOut i vacant
here_vacant_out slots names ends links own all free tags xs ys vacant i t =
    not_in_out i vacant (λ n. not_both slots names ends links own all free tags (xs ++ i ∷ ys) vacant t i (in_right i xs (i ∷ ys) (inl refl)) n)

pub added_own : (site : List ℕ) (found : Option Ends) → added_ends site site found ≡ Some (or_no_ends found)
added_own site found = ap (λ b. if b then Some (or_no_ends found) else found) ((bytes_decides site site).1 refl)

pub drops_at : (o : Option ℕ) (i : ℕ) (old new : Cached) (r : Option Entry) → o ≡ Some i → (r ≡ slice_get old.entries i) × (new.entries ≡ remove old.entries i) × (new.budget ≡ old.budget) × (old.room ≤ new.room) → Drops o old r new
drops_at None i old new r e h = cc
drops_at (Some j) i old new r e h = let same : i ≡ j = cc in subst (λ k. Drops (Some k) old r new) same h

pub drops_none : (o : Option ℕ) (old : Cached) → o ≡ None → Drops o old None old
drops_none None old e = (refl, refl)
drops_none (Some j) old e = cc

pub chain_more : (links links1 : List Link) (l : Link) (e : Ends) (xs : List ℕ) → links1 ≡ links ++ l ∷ [] → IsChain links e xs → IsChain links1 e xs
chain_more links links1 l e xs q c = chain_same links links1 e xs (λ j m. ap (λ ls. slice_get ls j) q ∙ get_left links (l ∷ []) j (chain_within links e xs j c m)) c

pub new_vacant_out : (slots : List (Option Body)) (names : List (Option (List ℕ))) (ends : List (List ℕ × Ends)) (links own : List Link) (all free : Ends) (tags : List (ℕ × ℕ)) (order vacant : List ℕ) → IsTied slots names ends links own all free tags order vacant → (i : ℕ) → i ≡ length slots → IsOut i vacant
new_vacant_out slots names ends links own all free tags order vacant t i e =
    not_in_out i vacant (λ n. let w = vacant_within slots names ends links own all free tags order vacant t i n in absurd (let no : 0 < 0 = omega (arith, e, w) in omega (arith, no)))
