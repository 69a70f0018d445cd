-- What the steps leave of the sites that the fields hold.
use Rattle.std.proofs.Common.{◌≡◌, ℕ, zero, suc, ◌+◌, ◌-◌, ◌<◌, ◌≤◌, List, [], ◌∷◌, ◌++◌, length, map, Bool, true, false, cond, Option, Some, None, refl, sym, ap, ap₂, ◌∙◌, subst, arith, is_some, true≢false, get_or, ◌⊎◌, inl, inr}
use Rattle.std.proofs.lemmas.Bool.{cases_lt}
use Rattle.std.proofs.lemmas.List.Quantifiers.{position-Some}
use Rattle.std.specs.List.{position}
use Rattle.std.specs.Prelude.{slice_get, slice_set, bytes_eq, IsSome}
use Rattle.std.specs.List.{IsDistinct, swap_remove}
use Rattle.std.specs.Option.{option_map}
use Rattle.std.specs.Map.{keys_of, values_of, lookup}
use Rattle.std.specs.Cmp.Lexicographic.{bytes_decides, nat_list_eq_equiv}
use Rattle.std.proofs.lemmas.Map.Entries.{place_from_lookup, lookup_from_place}
use Rattle.indexmap.specs.IndexMap.{set_value_at}
use Rattle.indexmap.proofs.MapLemmas.{some_index}
use Rattle.dx_cache.specs.declared.chains.Ends.{Ends}
use Rattle.dx_cache.proofs.SlotLaws.{cases, same_or_not, get_set_same, get_set_other, length_set, within}
use Rattle.dx_cache.specs.declared.names.Name.{Name}
use Rattle.dx_cache.specs.declared.names.Name.TheVariants.{Own, Shared}
use Rattle.dx_cache.specs.declared.names.Group.{Group}
use Rattle.dx_cache.specs.Named.{HasName, or_no_ends, added_ends, given_ends, taken_ends}
use Rattle.dx_cache.specs.Held.{name_in, ends_in, IsHeld, moved_to, Removed, Holds, place_of, name_place}
use Rattle.dx_cache.proofs.Lists.{same_lists, get_map, map_set, map_where, set_itself, get_left, get_last, get_past, get_within, swapped_other, swapped_moved, swapped_past, get_keys, entry_of_value, keys_set, get_value_same, get_value_other, found_set, found_more, lookup_map, keys_map, lookup_new, lookup_same}

abbrev pub names_in : List (List ℕ × Group) → List (Option Name) → List (Option (List ℕ))
names_in es held = map (name_in (keys_of es)) held

-- a slot without a site holds none
pub free_held : (held : List (Option Name)) (es : List (List ℕ × Group)) → IsHeld held es → (i : ℕ) → slice_get (names_in es held) i ≡ Some None → slice_get held i ≡ Some None
free_held held es h i f = by (slice_get held i) refl (sym (get_map (name_in (keys_of es)) held i) ∙ f)
  where
    by : (o : Option (Option Name)) → slice_get held i ≡ o → option_map (name_in (keys_of es)) o ≡ Some None → slice_get held i ≡ Some None
    by None e f = cc
    by (Some None) e f = e
    by (Some (Some (Own site))) e f = let no : Some (Some site) ≡ Some None = f in cc
    by (Some (Some (Shared k))) e f =
        let s = h.shared i k e in
        let key = get_keys es k s.0 s.1 in
        let no : Some (slice_get (keys_of es) k) ≡ Some None = f in
        cc

-- how a slot with a site holds it
pub name_held : (held : List (Option Name)) (es : List (List ℕ × Group)) (i : ℕ) (site : List ℕ) → HasName (names_in es held) i site → (n : Name) × (slice_get held i ≡ Some (Some n)) × (name_in (keys_of es) (Some n) ≡ Some site)
name_held held es i site f = by (slice_get held i) refl (sym (get_map (name_in (keys_of es)) held i) ∙ f)
  where
    by : (o : Option (Option Name)) → slice_get held i ≡ o → option_map (name_in (keys_of es)) o ≡ Some (Some site) → (n : Name) × (slice_get held i ≡ Some (Some n)) × (name_in (keys_of es) (Some n) ≡ Some site)
    by None e f = cc
    by (Some None) e f = let no : Some None ≡ Some (Some site) = f in cc
    by (Some (Some n)) e f = (n, e, let g : Some (name_in (keys_of es) (Some n)) ≡ Some (Some site) = f in cc)

pub held_name : (held : List (Option Name)) (es : List (List ℕ × Group)) (i : ℕ) (n : Name) (site : List ℕ) → slice_get held i ≡ Some (Some n) → name_in (keys_of es) (Some n) ≡ Some site → HasName (names_in es held) i site
held_name held es i n site e f = get_map (name_in (keys_of es)) held i ∙ ap (option_map (name_in (keys_of es))) e ∙ ap Some f

-- A slot gets a site that is there.

pub own_held : (held : List (Option Name)) (es : List (List ℕ × Group)) → IsHeld held es → (i : ℕ) (site : List ℕ) → slice_get held i ≡ Some None → IsSome (lookup (bytes_eq site) es) → IsHeld (slice_set held i (Some (Own site))) es
own_held held es h i site f there = record {
  unique = h.unique;
  holder = λ k p g.
      let old = h.holder k p g in
      get_set_other held i p.1.holder (Some (Own site)) (λ e. let at : slice_get held i ≡ Some (Some (Shared k)) = subst (λ j. slice_get held j ≡ Some (Some (Shared k))) e old in cc) ∙ old;
  shared = λ j k g.
      same_or_not j i
      (λ e. let at : Some (Some (Own site)) ≡ Some (Some (Shared k)) = sym (get_set_same held i (Some (Own site)) (within held i None f)) ∙ subst (λ m. slice_get (slice_set held i (Some (Own site))) m ≡ Some (Some (Shared k))) e g in cc)
      (λ n. h.shared j k (sym (get_set_other held i j (Some (Own site)) n) ∙ g));
  own = λ j s g.
      same_or_not j i
      (λ e. let at : Some (Some (Own site)) ≡ Some (Some (Own s)) = sym (get_set_same held i (Some (Own site)) (within held i None f)) ∙ subst (λ m. slice_get (slice_set held i (Some (Own site))) m ≡ Some (Some (Own s))) e g in
      let same : site ≡ s = cc in subst (λ t. IsSome (lookup (bytes_eq t) es)) same there)
      (λ n. h.own j s (sym (get_set_other held i j (Some (Own site)) n) ∙ g));
}

-- A slot gets a new site.

module _ (held : List (Option Name)) (es : List (List ℕ × Group)) (h : IsHeld held es) (i : ℕ) (site : List ℕ) (g : Group) (f : slice_get held i ≡ Some None) (own_holder : g.holder ≡ i) where
  more : List (List ℕ × Group)
  more = es ++ (site, g) ∷ []

  pub new_held : IsDistinct bytes_eq (keys_of (es ++ (site, g) ∷ [])) → IsHeld (slice_set held i (Some (Shared (length es)))) (es ++ (site, g) ∷ [])
  new_held u = record {
    unique = u;
    holder = λ k p e.
        same_or_not k (length es)
        (λ q.
        let at : Some (site, g) ≡ Some p = sym (get_last es (site, g)) ∙ subst (λ m. slice_get (es ++ (site, g) ∷ []) m ≡ Some p) q e in
        let is : (site, g) ≡ p = cc in
        let place : p.1.holder ≡ i = ap (λ (x : List ℕ × Group). x.1.holder) (sym is) ∙ own_holder in
        subst (λ m. slice_get (slice_set held i (Some (Shared (length es)))) m ≡ Some (Some (Shared k))) (sym place)
        (get_set_same held i (Some (Shared (length es))) (within held i None f) ∙ ap (λ m. Some (Some (Shared m))) (sym q)))
        (λ n.
        let w = within (es ++ (site, g) ∷ []) k p e in
        let at : slice_get es k ≡ Some p = sym (get_left es ((site, g) ∷ []) k (below k w n)) ∙ e in
        let old = h.holder k p at in
        get_set_other held i p.1.holder (Some (Shared (length es))) (λ q. let no : slice_get held i ≡ Some (Some (Shared k)) = subst (λ j. slice_get held j ≡ Some (Some (Shared k))) q old in cc) ∙ old);
    shared = λ j k e.
        same_or_not j i
        (λ q.
        let at : Some (Some (Shared (length es))) ≡ Some (Some (Shared k)) = sym (get_set_same held i (Some (Shared (length es))) (within held i None f)) ∙ subst (λ m. slice_get (slice_set held i (Some (Shared (length es)))) m ≡ Some (Some (Shared k))) q e in
        let is : length es ≡ k = cc in
        ((site, g), subst (λ m. slice_get (es ++ (site, g) ∷ []) m ≡ Some (site, g)) is (get_last es (site, g)), own_holder ∙ sym q))
        (λ n.
        let s = h.shared j k (sym (get_set_other held i j (Some (Shared (length es))) n) ∙ e) in
        (s.0, get_left es ((site, g) ∷ []) k (within es k s.0 s.1) ∙ s.1, s.2));
    own = λ j s e.
        same_or_not j i
        (λ q. let at : Some (Some (Shared (length es))) ≡ Some (Some (Own s)) = sym (get_set_same held i (Some (Shared (length es))) (within held i None f)) ∙ subst (λ m. slice_get (slice_set held i (Some (Shared (length es)))) m ≡ Some (Some (Own s))) q e in cc)
        (λ n. found_more (bytes_eq s) es ((site, g) ∷ []) (h.own j s (sym (get_set_other held i j (Some (Shared (length es))) n) ∙ e)));
  }
    where
      length_more : (xs : List (List ℕ × Group)) (x : List ℕ × Group) → length (xs ++ x ∷ []) ≡ suc (length xs)
      length_more [] x = refl
      length_more (y ∷ xs) x = ap suc (length_more xs x)

      below : (k : ℕ) → k < length (es ++ (site, g) ∷ []) → ¬ (k ≡ length es) → k < length es
      below k w n = let l = length_more es (site, g) in omega (arith, w, l, n)

  pub new_names : names_in (es ++ (site, g) ∷ []) (slice_set held i (Some (Shared (length es)))) ≡ slice_set (names_in es held) i (Some site)
  new_names =
      map_set (name_in (keys_of (es ++ (site, g) ∷ []))) held i (Some (Shared (length es)))
      ∙ ap₂ (λ ns n. slice_set ns i n)
      (map_where (name_in (keys_of (es ++ (site, g) ∷ []))) (name_in (keys_of es)) held same)
      (get_keys (es ++ (site, g) ∷ []) (length es) (site, g) (get_last es (site, g)))
    where
      same : (j : ℕ) (x : Option Name) → slice_get held j ≡ Some x → name_in (keys_of (es ++ (site, g) ∷ [])) x ≡ name_in (keys_of es) x
      same j None e = refl
      same j (Some (Own s)) e = refl
      same j (Some (Shared k)) e =
          let s = h.shared j k e in
          get_keys (es ++ (site, g) ∷ []) k s.0 (get_left es ((site, g) ∷ []) k (within es k s.0 s.1) ∙ s.1) ∙ sym (get_keys es k s.0 s.1)

-- The ends at a place change.

pub given_held : (held : List (Option Name)) (es : List (List ℕ × Group)) → IsHeld held es → (k : ℕ) (p : List ℕ × Group) (ends : Ends) → slice_get es k ≡ Some p → IsHeld held (set_value_at es k (record { holder = p.1.holder; ends = ends }))
given_held held es h k p ends at = record {
  unique = subst (IsDistinct bytes_eq) (sym (keys_set es k g)) h.unique;
  holder = λ m q e.
      same_or_not m k
      (λ s.
      let is : Some (p.0, g) ≡ Some q = sym (get_value_same es k p g at) ∙ subst (λ n. slice_get (set_value_at es k g) n ≡ Some q) s e in
      let same : (p.0, g) ≡ q = cc in
      let place : p.1.holder ≡ q.1.holder = ap (λ (x : List ℕ × Group). x.1.holder) same in
      subst (λ n. slice_get held n ≡ Some (Some (Shared m))) place (h.holder m p (subst (λ n. slice_get es n ≡ Some p) (sym s) at)))
      (λ n. h.holder m q (sym (get_value_other es k m g n) ∙ e));
  shared = λ i m e.
      let s = h.shared i m e in
      same_or_not m k
      (λ q.
      let is : Some s.0 ≡ Some p = sym s.1 ∙ subst (λ n. slice_get es n ≡ Some p) (sym q) at in
      let same : s.0 ≡ p = cc in
      ((p.0, g), subst (λ n. slice_get (set_value_at es k g) n ≡ Some (p.0, g)) (sym q) (get_value_same es k p g at), ap (λ (x : List ℕ × Group). x.1.holder) (sym same) ∙ s.2))
      (λ n. (s.0, get_value_other es k m g n ∙ s.1, s.2));
  own = λ i site e. found_set (bytes_eq site) es k g ∙ h.own i site e;
}
  where
    g : Group
    g = record { holder = p.1.holder; ends = ends }

-- A slot that is no holder loses its site.

pub own_taken : (held : List (Option Name)) (es : List (List ℕ × Group)) → IsHeld held es → (i : ℕ) (site : List ℕ) → slice_get held i ≡ Some (Some (Own site)) → IsHeld (slice_set held i None) es
own_taken held es h i site at = record {
  unique = h.unique;
  holder = λ k p g.
      let old = h.holder k p g in
      get_set_other held i p.1.holder None (λ e. let no : slice_get held i ≡ Some (Some (Shared k)) = subst (λ j. slice_get held j ≡ Some (Some (Shared k))) e old in cc) ∙ old;
  shared = λ j k g. h.shared j k (others j (Shared k) g);
  own = λ j s g. h.own j s (others j (Own s) g);
}
  where
    others : (j : ℕ) (n : Name) → slice_get (slice_set held i None) j ≡ Some (Some n) → slice_get held j ≡ Some (Some n)
    others j n g =
        same_or_not j i
        (λ e. let no : Some None ≡ Some (Some n) = sym (get_set_same held i None (within held i (Some (Own site)) at)) ∙ subst (λ m. slice_get (slice_set held i None) m ≡ Some (Some n)) e g in cc)
        (λ d. sym (get_set_other held i j None d) ∙ g)

-- Another slot of the site becomes its holder.

module _ (held : List (Option Name)) (es : List (List ℕ × Group)) (h : IsHeld held es) (i j k : ℕ) (site : List ℕ) (p : List ℕ × Group) (ends : Ends)
    (is_holder : slice_get held i ≡ Some (Some (Shared k))) (heir : slice_get held j ≡ Some (Some (Own site))) (at : slice_get es k ≡ Some p) (key : p.0 ≡ site) where
  given : List (List ℕ × Group)
  given = set_value_at es k (record { holder = j; ends = ends })

  without : List (Option Name)
  without = slice_set held i None

  apart : ¬ (j ≡ i)
  apart e = let no : slice_get held i ≡ Some (Some (Own site)) = subst (λ m. slice_get held m ≡ Some (Some (Own site))) e heir in cc

  heir_within : j < length (slice_set held i None)
  heir_within = let w = within held j (Some (Own site)) heir in let l = length_set held i None in omega (arith, w, l)

  at_others : (m : ℕ) → ¬ (m ≡ i) → ¬ (m ≡ j) → slice_get (slice_set (slice_set held i None) j (Some (Shared k))) m ≡ slice_get held m
  at_others m a b = get_set_other (slice_set held i None) j m (Some (Shared k)) b ∙ get_set_other held i m None a

  at_heir : slice_get (slice_set (slice_set held i None) j (Some (Shared k))) j ≡ Some (Some (Shared k))
  at_heir = get_set_same (slice_set held i None) j (Some (Shared k)) heir_within

  at_left : slice_get (slice_set (slice_set held i None) j (Some (Shared k))) i ≡ Some None
  at_left = get_set_other (slice_set held i None) j i (Some (Shared k)) (λ e. apart (sym e)) ∙ get_set_same held i None (within held i (Some (Shared k)) is_holder)

  -- the holder of place k is slot i
  holder_here : (m b : ℕ) → slice_get held m ≡ Some (Some (Shared b)) → ¬ (m ≡ i) → ¬ (b ≡ k)
  holder_here m b e n q =
      let s = h.shared m b e in
      let t = h.shared i k is_holder in
      let same : Some s.0 ≡ Some t.0 = sym s.1 ∙ subst (λ x. slice_get es x ≡ Some t.0) (sym q) t.1 in
      let is : s.0 ≡ t.0 = cc in
      n (sym s.2 ∙ ap (λ (x : List ℕ × Group). x.1.holder) is ∙ t.2)

  pub inherit_held : IsHeld (slice_set (slice_set held i None) j (Some (Shared k))) (set_value_at es k (record { holder = j; ends = ends }))
  inherit_held = record {
    unique = subst (IsDistinct bytes_eq) (sym (keys_set es k (record { holder = j; ends = ends }))) h.unique;
    holder = λ m q e.
        same_or_not m k
        (λ s.
        let is : Some (p.0, record { holder = j; ends = ends }) ≡ Some q = sym (get_value_same es k p (record { holder = j; ends = ends }) at) ∙ subst (λ n. slice_get (set_value_at es k (record { holder = j; ends = ends })) n ≡ Some q) s e in
        let same : (p.0, record { holder = j; ends = ends }) ≡ q = cc in
        let place : j ≡ q.1.holder = ap (λ (x : List ℕ × Group). x.1.holder) same in
        subst (λ n. slice_get (slice_set (slice_set held i None) j (Some (Shared k))) n ≡ Some (Some (Shared m))) place (at_heir ∙ ap (λ n. Some (Some (Shared n))) (sym s)))
        (λ n.
        let old = h.holder m q (sym (get_value_other es k m (record { holder = j; ends = ends }) n) ∙ e) in
        at_others q.1.holder
        (λ s. let no : Some (Some (Shared k)) ≡ Some (Some (Shared m)) = sym is_holder ∙ subst (λ x. slice_get held x ≡ Some (Some (Shared m))) s old in let same : m ≡ k = cc in n same)
        (λ s. let no : Some (Some (Own site)) ≡ Some (Some (Shared m)) = sym heir ∙ subst (λ x. slice_get held x ≡ Some (Some (Shared m))) s old in cc)
        ∙ old);
    shared = λ m b e.
        same_or_not m j
        (λ q.
        let is : Some (Some (Shared k)) ≡ Some (Some (Shared b)) = sym at_heir ∙ subst (λ x. slice_get (slice_set (slice_set held i None) j (Some (Shared k))) x ≡ Some (Some (Shared b))) q e in
        let same : k ≡ b = cc in
        ((p.0, record { holder = j; ends = ends }), subst (λ x. slice_get (set_value_at es k (record { holder = j; ends = ends })) x ≡ Some (p.0, record { holder = j; ends = ends })) same (get_value_same es k p (record { holder = j; ends = ends }) at), sym q))
        (λ n. same_or_not m i
        (λ q. let no : Some None ≡ Some (Some (Shared b)) = sym at_left ∙ subst (λ x. slice_get (slice_set (slice_set held i None) j (Some (Shared k))) x ≡ Some (Some (Shared b))) q e in cc)
        (λ d.
        let old = sym (at_others m d n) ∙ e in
        let s = h.shared m b old in
        (s.0, get_value_other es k b (record { holder = j; ends = ends }) (holder_here m b old d) ∙ s.1, s.2)));
    own = λ m s e.
        same_or_not m j
        (λ q. let no : Some (Some (Shared k)) ≡ Some (Some (Own s)) = sym at_heir ∙ subst (λ x. slice_get (slice_set (slice_set held i None) j (Some (Shared k))) x ≡ Some (Some (Own s))) q e in cc)
        (λ n. same_or_not m i
        (λ q. let no : Some None ≡ Some (Some (Own s)) = sym at_left ∙ subst (λ x. slice_get (slice_set (slice_set held i None) j (Some (Shared k))) x ≡ Some (Some (Own s))) q e in cc)
        (λ d. found_set (bytes_eq s) es k (record { holder = j; ends = ends }) ∙ h.own m s (sym (at_others m d n) ∙ e)));
  }

  pub inherit_names : names_in (set_value_at es k (record { holder = j; ends = ends })) (slice_set (slice_set held i None) j (Some (Shared k))) ≡ slice_set (names_in es held) i None
  inherit_names =
      ap (λ ks. map (name_in ks) (slice_set (slice_set held i None) j (Some (Shared k)))) (keys_set es k (record { holder = j; ends = ends }))
      ∙ map_set (name_in (keys_of es)) (slice_set held i None) j (Some (Shared k))
      ∙ ap (λ ns. slice_set ns j (slice_get (keys_of es) k)) (map_set (name_in (keys_of es)) held i None)
      ∙ ap (slice_set (slice_set (names_in es held) i None) j) (get_keys es k p at ∙ ap Some key)
      ∙ set_itself (slice_set (names_in es held) i None) j (Some site)
      (get_set_other (names_in es held) i j None apart ∙ held_name held es j (Own site) site heir refl)

-- A site goes.

module _ (held : List (Option Name)) (es : List (List ℕ × Group)) (h : IsHeld held es) (i k : ℕ) (site : List ℕ) (g : Group)
    (is_holder : slice_get held i ≡ Some (Some (Shared k))) (at : slice_get es k ≡ Some (site, g))
    (alone : (j : ℕ) → HasName (names_in es held) j site → j ≡ i) where
  left_entries : List (List ℕ × Group)
  left_entries = swap_remove es k (site, g)

  k_within : k < length es
  k_within = within es k (site, g) at

  place_here : (m b : ℕ) → slice_get held m ≡ Some (Some (Shared b)) → ¬ (m ≡ i) → ¬ (b ≡ k)
  place_here m b e n q =
      let s = h.shared m b e in
      let t = h.shared i k is_holder in
      let same : Some s.0 ≡ Some t.0 = sym s.1 ∙ subst (λ x. slice_get es x ≡ Some t.0) (sym q) t.1 in
      let is : s.0 ≡ t.0 = cc in
      n (sym s.2 ∙ ap (λ (x : List ℕ × Group). x.1.holder) is ∙ t.2)

  others : (m : ℕ) (n : Name) → slice_get (slice_set held i None) m ≡ Some (Some n) → ¬ (m ≡ i) × (slice_get held m ≡ Some (Some n))
  others m n e =
      same_or_not m i
      (λ q. let no : Some None ≡ Some (Some n) = sym (get_set_same held i None (within held i (Some (Shared k)) is_holder)) ∙ subst (λ x. slice_get (slice_set held i None) x ≡ Some (Some n)) q e in cc)
      (λ d. (d, sym (get_set_other held i m None d) ∙ e))

  others_back : (m : ℕ) → ¬ (m ≡ i) → slice_get (slice_set held i None) m ≡ slice_get held m
  others_back m d = get_set_other held i m None d

  other_site : (m : ℕ) (s : List ℕ) → slice_get held m ≡ Some (Some (Own s)) → ¬ (s ≡ site)
  other_site m s e q =
      let same = alone m (held_name held es m (Own s) site e (ap Some q)) in
      let no : Some (Some (Shared k)) ≡ Some (Some (Own s)) = sym is_holder ∙ subst (λ x. slice_get held x ≡ Some (Some (Own s))) same e in
      cc

  still_found : ((other : List ℕ) → lookup (bytes_eq other) (swap_remove es k (site, g)) ≡ cond (bytes_eq site other) None (lookup (bytes_eq other) es)) → (m : ℕ) (s : List ℕ) → slice_get held m ≡ Some (Some (Own s)) → IsSome (lookup (bytes_eq s) (swap_remove es k (site, g)))
  still_found l m s e =
      cases (bytes_eq site s)
      (λ q. absurd (other_site m s e (sym ((bytes_decides site s).0 q))))
      (λ q. let found : lookup (bytes_eq s) (swap_remove es k (site, g)) ≡ lookup (bytes_eq s) es = l s ∙ ap (λ b. cond b None (lookup (bytes_eq s) es)) q in
      ap is_some found ∙ h.own m s e)

  not_holder : (a m : ℕ) → ¬ (a ≡ k) → slice_get held m ≡ Some (Some (Shared a)) → ¬ (m ≡ i)
  not_holder a m n e q =
      let no : Some (Some (Shared k)) ≡ Some (Some (Shared a)) = sym is_holder ∙ subst (λ x. slice_get held x ≡ Some (Some (Shared a))) q e in
      let same : a ≡ k = cc in
      n same

  names_there : (es' : List (List ℕ × Group)) (held' : List (Option Name))
      → ((j : ℕ) → ¬ (j ≡ i) → option_map (name_in (keys_of es')) (slice_get held' j) ≡ option_map (name_in (keys_of es)) (slice_get held j))
      → slice_get held' i ≡ Some None → names_in es' held' ≡ slice_set (names_in es held) i None
  names_there es' held' f left =
      same_lists (names_in es' held') (slice_set (names_in es held) i None) (λ j.
      same_or_not j i
      (λ q. subst (λ x. slice_get (names_in es' held') x ≡ slice_get (slice_set (names_in es held) i None) x) (sym q)
      (get_map (name_in (keys_of es')) held' i ∙ ap (option_map (name_in (keys_of es'))) left ∙ sym (get_set_same (names_in es held) i None (within (names_in es held) i (slice_get (keys_of es) k) (get_map (name_in (keys_of es)) held i ∙ ap (option_map (name_in (keys_of es))) is_holder)))))
      (λ n. get_map (name_in (keys_of es')) held' j ∙ f j n ∙ sym (get_map (name_in (keys_of es)) held j) ∙ sym (get_set_other (names_in es held) i j None n)))

  same_name : (es' : List (List ℕ × Group)) (o : Option (Option Name)) → ((b : ℕ) → o ≡ Some (Some (Shared b)) → slice_get (keys_of es') b ≡ slice_get (keys_of es) b) → option_map (name_in (keys_of es')) o ≡ option_map (name_in (keys_of es)) o
  same_name es' None f = refl
  same_name es' (Some None) f = refl
  same_name es' (Some (Some (Own s))) f = refl
  same_name es' (Some (Some (Shared b))) f = ap Some (f b refl)

  less_or_not : {P : Type 0} (x y : ℕ) → (x < y → P) → (y ≤ x → P) → P
  less_or_not {P} x y l g = by (cases_lt x y)
    where
      by : (x < y) ⊎ (y ≤ x) → P
      by (inl w) = l w
      by (inr w) = g w

  -- where the place was the last
  module _ (last : length es ≤ k + 1) where
    entries_same : (a : ℕ) → ¬ (a ≡ k) → slice_get (swap_remove es k (site, g)) a ≡ slice_get es a
    entries_same a n =
        less_or_not (a + 1) (length es)
        (λ w. swapped_other es k (site, g) a n w)
        (λ w. let kw = k_within in swapped_past es k (site, g) a w ∙ sym (get_past es a (omega (arith, w, last, kw, n))))

    pub last_held : IsDistinct bytes_eq (keys_of (swap_remove es k (site, g)))
        → ((other : List ℕ) → lookup (bytes_eq other) (swap_remove es k (site, g)) ≡ cond (bytes_eq site other) None (lookup (bytes_eq other) es))
        → IsHeld (slice_set held i None) (swap_remove es k (site, g))
    last_held u l = record {
      unique = u;
      holder = λ a p e.
          same_or_not a k
          (λ q. let no : None ≡ Some p = sym (swapped_past es k (site, g) k last) ∙ subst (λ x. slice_get (swap_remove es k (site, g)) x ≡ Some p) q e in cc)
          (λ n. let old = h.holder a p (sym (entries_same a n) ∙ e) in
          others_back p.1.holder (not_holder a p.1.holder n old) ∙ old);
      shared = λ m b e.
          let o = others m (Shared b) e in
          let s = h.shared m b o.1 in
          (s.0, entries_same b (place_here m b o.1 o.0) ∙ s.1, s.2);
      own = λ m s e. still_found l m s (others m (Own s) e).1;
    }

    pub last_names : names_in (swap_remove es k (site, g)) (slice_set held i None) ≡ slice_set (names_in es held) i None
    last_names =
        names_there (swap_remove es k (site, g)) (slice_set held i None)
        (λ j n. ap (option_map (name_in (keys_of (swap_remove es k (site, g))))) (others_back j n)
        ∙ same_name (swap_remove es k (site, g)) (slice_get held j) (λ b e.
        let s = h.shared j b e in
        get_keys (swap_remove es k (site, g)) b s.0 (entries_same b (place_here j b e n) ∙ s.1) ∙ sym (get_keys es b s.0 s.1)))
        (get_set_same held i None (within held i (Some (Shared k)) is_holder))

  -- where another was the last, which moves to the place
  module _ (q : List ℕ × Group) (more : k + 1 < length es) (moved : slice_get es (length es - 1) ≡ Some q) where
    at_moved : slice_get held q.1.holder ≡ Some (Some (Shared (length es - 1)))
    at_moved = h.holder (length es - 1) q moved

    not_last : ¬ (length es - 1 ≡ k)
    not_last e = absurd (let n : 0 < 0 = omega (arith, e, more) in omega (arith, n))

    moved_apart : ¬ (q.1.holder ≡ i)
    moved_apart = not_holder (length es - 1) q.1.holder not_last at_moved

    moved_within : q.1.holder < length (slice_set held i None)
    moved_within = let w = within held q.1.holder (Some (Shared (length es - 1))) at_moved in let l = length_set held i None in omega (arith, w, l)

    at_k : slice_get (swap_remove es k (site, g)) k ≡ Some q
    at_k = swapped_moved es k (site, g) more ∙ moved

    at_holder : slice_get (slice_set (slice_set held i None) q.1.holder (Some (Shared k))) q.1.holder ≡ Some (Some (Shared k))
    at_holder = get_set_same (slice_set held i None) q.1.holder (Some (Shared k)) moved_within

    elsewhere : (m : ℕ) → ¬ (m ≡ q.1.holder) → slice_get (slice_set (slice_set held i None) q.1.holder (Some (Shared k))) m ≡ slice_get (slice_set held i None) m
    elsewhere m n = get_set_other (slice_set held i None) q.1.holder m (Some (Shared k)) n

    not_moved : (m b : ℕ) → ¬ (m ≡ q.1.holder) → slice_get held m ≡ Some (Some (Shared b)) → ¬ (b ≡ length es - 1)
    not_moved m b n e r =
        let s = h.shared m b e in
        let same : Some s.0 ≡ Some q = sym s.1 ∙ subst (λ x. slice_get es x ≡ Some q) (sym r) moved in
        let is : s.0 ≡ q = cc in
        n (sym s.2 ∙ ap (λ (x : List ℕ × Group). x.1.holder) is)

    entry_stays : (m b : ℕ) → ¬ (m ≡ i) → ¬ (m ≡ q.1.holder) → slice_get held m ≡ Some (Some (Shared b)) → slice_get (swap_remove es k (site, g)) b ≡ slice_get es b
    entry_stays m b n o e =
        let s = h.shared m b e in
        let w = within es b s.0 s.1 in
        let d = not_moved m b o e in
        swapped_other es k (site, g) b (place_here m b e n) (omega (arith, w, d))

    pub moved_held : IsDistinct bytes_eq (keys_of (swap_remove es k (site, g)))
        → ((other : List ℕ) → lookup (bytes_eq other) (swap_remove es k (site, g)) ≡ cond (bytes_eq site other) None (lookup (bytes_eq other) es))
        → IsHeld (slice_set (slice_set held i None) q.1.holder (Some (Shared k))) (swap_remove es k (site, g))
    moved_held u l = record {
      unique = u;
      holder = λ a p e.
          same_or_not a k
          (λ r.
          let is : Some q ≡ Some p = sym at_k ∙ subst (λ x. slice_get (swap_remove es k (site, g)) x ≡ Some p) r e in
          let same : q ≡ p = cc in
          let place : q.1.holder ≡ p.1.holder = ap (λ (x : List ℕ × Group). x.1.holder) same in
          subst (λ x. slice_get (slice_set (slice_set held i None) q.1.holder (Some (Shared k))) x ≡ Some (Some (Shared a))) place (at_holder ∙ ap (λ x. Some (Some (Shared x))) (sym r)))
          (λ n. less_or_not (a + 1) (length es)
          (λ w.
          let old = h.holder a p (sym (swapped_other es k (site, g) a n w) ∙ e) in
          elsewhere p.1.holder
          (λ r.
          let no : Some (Some (Shared (length es - 1))) ≡ Some (Some (Shared a)) = sym at_moved ∙ subst (λ x. slice_get held x ≡ Some (Some (Shared a))) r old in
          let same : length es - 1 ≡ a = cc in
          absurd (let z : 0 < 0 = omega (arith, same, w) in omega (arith, z)))
          ∙ others_back p.1.holder (not_holder a p.1.holder n old) ∙ old)
          (λ w. let no : None ≡ Some p = sym (swapped_past es k (site, g) a w) ∙ e in cc));
      shared = λ m b e.
          same_or_not m q.1.holder
          (λ r.
          let is : Some (Some (Shared k)) ≡ Some (Some (Shared b)) = sym at_holder ∙ subst (λ x. slice_get (slice_set (slice_set held i None) q.1.holder (Some (Shared k))) x ≡ Some (Some (Shared b))) r e in
          let same : k ≡ b = cc in
          (q, subst (λ x. slice_get (swap_remove es k (site, g)) x ≡ Some q) same at_k, sym r))
          (λ n.
          let o = others m (Shared b) (sym (elsewhere m n) ∙ e) in
          let s = h.shared m b o.1 in
          (s.0, entry_stays m b o.0 n o.1 ∙ s.1, s.2));
      own = λ m s e.
          same_or_not m q.1.holder
          (λ r. let no : Some (Some (Shared k)) ≡ Some (Some (Own s)) = sym at_holder ∙ subst (λ x. slice_get (slice_set (slice_set held i None) q.1.holder (Some (Shared k))) x ≡ Some (Some (Own s))) r e in cc)
          (λ n. still_found l m s (others m (Own s) (sym (elsewhere m n) ∙ e)).1);
    }

    pub moved_names : names_in (swap_remove es k (site, g)) (slice_set (slice_set held i None) q.1.holder (Some (Shared k))) ≡ slice_set (names_in es held) i None
    moved_names =
        names_there (swap_remove es k (site, g)) (slice_set (slice_set held i None) q.1.holder (Some (Shared k)))
        (λ j n. same_or_not j q.1.holder
        (λ r. subst (λ x. option_map (name_in (keys_of (swap_remove es k (site, g)))) (slice_get (slice_set (slice_set held i None) q.1.holder (Some (Shared k))) x) ≡ option_map (name_in (keys_of es)) (slice_get held x)) (sym r)
        (ap (option_map (name_in (keys_of (swap_remove es k (site, g))))) at_holder
        ∙ ap Some (get_keys (swap_remove es k (site, g)) k q at_k ∙ sym (get_keys es (length es - 1) q moved))
        ∙ sym (ap (option_map (name_in (keys_of es))) at_moved)))
        (λ o. ap (option_map (name_in (keys_of (swap_remove es k (site, g))))) (elsewhere j o ∙ others_back j n)
        ∙ same_name (swap_remove es k (site, g)) (slice_get held j) (λ b e.
        let s = h.shared j b e in
        get_keys (swap_remove es k (site, g)) b s.0 (entry_stays j b n o e ∙ s.1) ∙ sym (get_keys es b s.0 s.1))))
        (get_set_other (slice_set held i None) q.1.holder i (Some (Shared k)) (λ e. moved_apart (sym e)) ∙ get_set_same held i None (within held i (Some (Shared k)) is_holder))

  -- in both cases
  pub removed_held : IsDistinct bytes_eq (keys_of (swap_remove es k (site, g)))
      → ((other : List ℕ) → lookup (bytes_eq other) (swap_remove es k (site, g)) ≡ cond (bytes_eq site other) None (lookup (bytes_eq other) es))
      → IsHeld (moved_to (slice_set held i None) k (slice_get (swap_remove es k (site, g)) k)) (swap_remove es k (site, g))
      × (names_in (swap_remove es k (site, g)) (moved_to (slice_set held i None) k (slice_get (swap_remove es k (site, g)) k)) ≡ slice_set (names_in es held) i None)
  removed_held u l =
      less_or_not (k + 1) (length es)
      (λ w.
      let q = get_or es (length es - 1) (site, g) in
      let moved : slice_get es (length es - 1) ≡ Some q = get_within es (length es - 1) (site, g) (omega (arith, w)) in
      let here = swapped_moved es k (site, g) w ∙ moved in
      rw here (moved_held q w moved u l, moved_names q w moved))
      (λ w. let here = swapped_past es k (site, g) k w in rw here (last_held w u l, last_names w))

-- Ends.

abbrev pub ends_list : List (List ℕ × Group) → List (List ℕ × Ends)
ends_list es = map ends_in es

pub lookup_ends : (test : List ℕ → Bool) (es : List (List ℕ × Group)) → lookup test (ends_list es) ≡ option_map (λ (g : Group). g.ends) (lookup test es)
lookup_ends test es = lookup_map (λ (g : Group). g.ends) test es

-- the site at a place has the ends there
pub ends_here : (es : List (List ℕ × Group)) → IsDistinct bytes_eq (keys_of es) → (k : ℕ) (g : Group) (site : List ℕ) → slice_get (values_of es) k ≡ Some g → slice_get (map (λ p. p.0) (ends_list es)) k ≡ Some site → lookup (bytes_eq site) (ends_list es) ≡ Some g.ends
ends_here es u k g site v n =
    let e = entry_of_value es k g v in
    let key : Some e.0 ≡ Some site = sym (get_keys es k (e.0, g) e.1) ∙ ap (λ ks. slice_get ks k) (sym (keys_map (λ (x : Group). x.ends) es)) ∙ n in
    let same : e.0 ≡ site = cc in
    let at : slice_get es k ≡ Some (site, g) = e.1 ∙ ap (λ s. Some (s, g)) same in
    lookup_ends (bytes_eq site) es ∙ ap (option_map (λ (x : Group). x.ends)) (lookup_from_place nat_list_eq_equiv es k site g u at)

pub given_lookup : (site other : List ℕ) (g : Group) (found : Option Group) → option_map (λ (x : Group). x.ends) (cond (bytes_eq site other) (Some g) found) ≡ given_ends site g.ends other (option_map (λ (x : Group). x.ends) found)
given_lookup site other g found = cases (bytes_eq site other) (λ q. rw q refl) (λ q. rw q refl)

pub taken_lookup : (site other : List ℕ) (found : Option Group) → option_map (λ (x : Group). x.ends) (cond (bytes_eq site other) None found) ≡ taken_ends None site other (option_map (λ (x : Group). x.ends) found)
taken_lookup site other found = cases (bytes_eq site other) (λ q. rw q refl) (λ q. rw q refl)

pub ends_set : (es : List (List ℕ × Group)) (k j : ℕ) (p : List ℕ × Group) → slice_get es k ≡ Some p → ends_list (set_value_at es k (record { holder = j; ends = p.1.ends })) ≡ ends_list es
ends_set [] k j p h = refl
ends_set (e ∷ es) zero j p h = let same : e ≡ p = cc in ap (λ (x : List ℕ × Group). (e.0, x.1.ends) ∷ ends_list es) (sym same)
ends_set (e ∷ es) (suc k) j p h = ap (λ xs. ends_in e ∷ xs) (ends_set es k j p h)

-- A slot gets a site.

pub record IsAdded (held' : List (Option Name)) (es' : List (List ℕ × Group)) (names : List (Option (List ℕ))) (ends : List (List ℕ × Ends)) (i : ℕ) (site : List ℕ) : Type 0 where
  pub holds : IsHeld held' es'
  pub names_are : names_in es' held' ≡ slice_set names i (Some site)
  pub ends_are : (other : List ℕ) → lookup (bytes_eq other) (ends_list es') ≡ added_ends site other (lookup (bytes_eq other) ends)

added_same : (site other : List ℕ) (found : Option Ends) → (bytes_eq site other ≡ true → IsSome found) → found ≡ added_ends site other found
added_same site other found f = cases (bytes_eq site other) (λ q. rw q (by found (f q))) (λ q. rw q refl)
  where
    by : (o : Option Ends) → IsSome o → o ≡ Some (or_no_ends o)
    by None h = cc
    by (Some e) h = refl

pub held_holds : (held held' : List (Option Name)) (es es' : List (List ℕ × Group)) → IsHeld held es → (i : ℕ) (site : List ℕ) → slice_get held i ≡ Some None → (o : Option Group) → lookup (bytes_eq site) es ≡ o → Holds es held i site o es' held' → IsDistinct bytes_eq (keys_of es') → IsAdded held' es' (names_in es held) (ends_list es) i site
held_holds held held' es es' h i site f (Some g) l r u =
    rw (r.0, r.1) (record {
      holds = own_held held es h i site f (ap is_some l);
      names_are = map_set (name_in (keys_of es)) held i (Some (Own site));
      ends_are = λ other. added_same site other (lookup (bytes_eq other) (ends_list es)) (λ q.
          ap is_some (lookup_ends (bytes_eq other) es ∙ ap (λ s. option_map (λ (x : Group). x.ends) (lookup (bytes_eq s) es)) (sym ((bytes_decides site other).0 q)) ∙ ap (option_map (λ (x : Group). x.ends)) l));
    })
held_holds held held' es es' h i site f None l r u =
    let g : Group = record { holder = i; ends = record { first = None; last = None } } in
    let u' : IsDistinct bytes_eq (keys_of (es ++ (site, g) ∷ [])) = subst (λ xs. IsDistinct bytes_eq (keys_of xs)) r.0 u in
    rw (r.0, r.1) (record {
      holds = new_held held es h i site g f refl u';
      names_are = new_names held es h i site g f refl;
      ends_are = λ other. lookup_ends (bytes_eq other) (es ++ (site, g) ∷ []) ∙ cases (bytes_eq site other)
          (λ q.
          let same = (bytes_decides site other).0 q in
          let none : lookup (bytes_eq other) es ≡ None = subst (λ s. lookup (bytes_eq s) es ≡ None) same l in
          let back : bytes_eq other site ≡ true = (bytes_decides other site).1 (sym same) in
          rw q (ap (option_map (λ (x : Group). x.ends)) (lookup_new (bytes_eq other) es (site, g) none back) ∙ sym (ap (λ o. Some (or_no_ends o)) (lookup_ends (bytes_eq other) es ∙ ap (option_map (λ (x : Group). x.ends)) none))))
          (λ q.
          let back : bytes_eq other site ≡ false = nat_list_eq_equiv.symm other site ∙ q in
          rw q (ap (option_map (λ (x : Group). x.ends)) (lookup_same (bytes_eq other) es (site, g) back) ∙ sym (lookup_ends (bytes_eq other) es)));
    })

-- One more slot.

pub grown_held : (held : List (Option Name)) (es : List (List ℕ × Group)) → IsHeld held es → IsHeld (held ++ None ∷ []) es
grown_held held es h = record {
  unique = h.unique;
  holder = λ k p g. let old = h.holder k p g in get_left held (None ∷ []) p.1.holder (within held p.1.holder (Some (Shared k)) old) ∙ old;
  shared = λ i k g. h.shared i k (old_one i (Shared k) g);
  own = λ i s g. h.own i s (old_one i (Own s) g);
}
  where
    old_one : (i : ℕ) (n : Name) → slice_get (held ++ None ∷ []) i ≡ Some (Some n) → slice_get held i ≡ Some (Some n)
    old_one i n g = go held i g
      where
        go : (xs : List (Option Name)) (i : ℕ) → slice_get (xs ++ None ∷ []) i ≡ Some (Some n) → slice_get xs i ≡ Some (Some n)
        go [] zero g = let no : Some None ≡ Some (Some n) = g in cc
        go [] (suc i) g = let no : None ≡ Some (Some n) = g in cc
        go (x ∷ xs) zero g = g
        go (x ∷ xs) (suc i) g = go xs i g

-- A slot loses its site.

-- one that holds its own bytes isn't alone
pub own_not_alone : (held : List (Option Name)) (es : List (List ℕ × Group)) → IsHeld held es → (i : ℕ) (site : List ℕ) → slice_get held i ≡ Some (Some (Own site)) → ((j : ℕ) → HasName (names_in es held) j site → j ≡ i) → ⊥
own_not_alone held es h i site at alone = by (lookup (bytes_eq site) es) refl (h.own i site at)
  where
    by : (o : Option Group) → lookup (bytes_eq site) es ≡ o → is_some o ≡ true → ⊥
    by None e s = cc
    by (Some g) e s =
        let p = place_from_lookup (bytes_eq site) es g e in
        let same : p.1 ≡ site = sym ((bytes_decides site p.1).0 p.3) in
        let there = h.holder p.0 (p.1, g) p.2 in
        let here = alone g.holder (held_name held es g.holder (Shared p.0) site there (get_keys es p.0 (p.1, g) p.2 ∙ ap Some same)) in
        let no : Some (Some (Own site)) ≡ Some (Some (Shared p.0)) = sym at ∙ subst (λ x. slice_get held x ≡ Some (Some (Shared p.0))) here there in
        cc

pub own_ends : (heir : Option ℕ) (site other : List ℕ) (found : Option Ends) → (heir ≡ None → ⊥) → found ≡ taken_ends heir site other found
own_ends None site other found n = absurd (n refl)
own_ends (Some j) site other found n = refl

-- a second slot of the holder's site holds its own bytes
pub heir_owns : (held : List (Option Name)) (es : List (List ℕ × Group)) → IsHeld held es → (i k j : ℕ) (site : List ℕ) → slice_get held i ≡ Some (Some (Shared k)) → HasName (names_in es held) i site → ¬ (j ≡ i) → HasName (names_in es held) j site → slice_get held j ≡ Some (Some (Own site))
heir_owns held es h i k j site at name d other = by n.0 n.1 n.2
  where
    n : (n : Name) × (slice_get held j ≡ Some (Some n)) × (name_in (keys_of es) (Some n) ≡ Some site)
    n = name_held held es j site other

    by : (m : Name) → slice_get held j ≡ Some (Some m) → name_in (keys_of es) (Some m) ≡ Some site → slice_get held j ≡ Some (Some (Own site))
    by (Own s) e f = let same : Some s ≡ Some site = f in let is : s ≡ site = cc in subst (λ x. slice_get held j ≡ Some (Some (Own x))) is e
    by (Shared b) e f =
        let t = h.shared j b e in
        let s = h.shared i k at in
        let key_b : Some t.0.0 ≡ Some site = sym (get_keys es b t.0 t.1) ∙ f in
        let named : Some (slice_get (keys_of es) k) ≡ Some (Some site) = sym at_name ∙ name in
        let key : slice_get (keys_of es) k ≡ Some site = cc in
        let key_k : Some s.0.0 ≡ Some site = sym (get_keys es k s.0 s.1) ∙ key in
        let is_b : t.0.0 ≡ site = cc in
        let is_k : s.0.0 ≡ site = cc in
        let found_b : lookup (bytes_eq site) es ≡ Some t.0.1 = lookup_from_place nat_list_eq_equiv es b site t.0.1 h.unique (t.1 ∙ ap (λ x. Some (x, t.0.1)) is_b) in
        let found_k : lookup (bytes_eq site) es ≡ Some s.0.1 = lookup_from_place nat_list_eq_equiv es k site s.0.1 h.unique (s.1 ∙ ap (λ x. Some (x, s.0.1)) is_k) in
        let same : Some t.0.1 ≡ Some s.0.1 = sym found_b ∙ found_k in
        let is : t.0.1 ≡ s.0.1 = cc in
        absurd (d (sym t.2 ∙ ap (λ (x : Group). x.holder) is ∙ s.2))
      where
        at_name : slice_get (names_in es held) i ≡ Some (slice_get (keys_of es) k)
        at_name = get_map (name_in (keys_of es)) held i ∙ ap (option_map (name_in (keys_of es))) at

pub record IsTaken (held' : List (Option Name)) (es' : List (List ℕ × Group)) (names : List (Option (List ℕ))) (i : ℕ) : Type 0 where
  pub holds : IsHeld held' es'
  pub names_are : names_in es' held' ≡ slice_set names i None

pub removed_taken : (held held1 held' : List (Option Name)) (es es' : List (List ℕ × Group)) → IsHeld held es → (i k : ℕ) (site : List ℕ) → slice_get held i ≡ Some (Some (Shared k)) → held1 ≡ slice_set held i None
    → (HasName (names_in es held) i site → (j : ℕ) → HasName (names_in es held) j site → j ≡ i)
    → Removed es held1 k site es' held' → IsDistinct bytes_eq (keys_of es') → ((other : List ℕ) → lookup (bytes_eq other) es' ≡ cond (bytes_eq site other) None (lookup (bytes_eq other) es))
    → IsTaken held' es' (names_in es held) i × HasName (names_in es held) i site
removed_taken held held1 held' es es' h i k site at e1 alone r u l =
    let name = held_name held es i (Shared k) site at (get_keys es k (site, r.0) r.1) in
    let u' : IsDistinct bytes_eq (keys_of (swap_remove es k (site, r.0))) = subst (λ xs. IsDistinct bytes_eq (keys_of xs)) r.2 u in
    let l' : (other : List ℕ) → lookup (bytes_eq other) (swap_remove es k (site, r.0)) ≡ cond (bytes_eq site other) None (lookup (bytes_eq other) es) = subst (λ xs. (other : List ℕ) → lookup (bytes_eq other) xs ≡ cond (bytes_eq site other) None (lookup (bytes_eq other) es)) r.2 l in
    let t = removed_held held es h i k site r.0 at r.1 (alone name) u' l' in
    let same : held' ≡ moved_to (slice_set held i None) k (slice_get (swap_remove es k (site, r.0)) k) = r.3 ∙ ap₂ (λ a b. moved_to a k (slice_get b k)) e1 r.2 in
    (rw (same, r.2) (record { holds = t.0; names_are = t.1 }), name)

pub inherit_taken : (held held1 held' : List (Option Name)) (es es' : List (List ℕ × Group)) → IsHeld held es → (i k j : ℕ) (site : List ℕ) → slice_get held i ≡ Some (Some (Shared k)) → held1 ≡ slice_set held i None
    → HasName (names_in es held) i site → ¬ (j ≡ i) × HasName (names_in es held) j site
    → held' ≡ slice_set held1 j (Some (Shared k)) → ((p : List ℕ × Group) → slice_get es k ≡ Some p → es' ≡ set_value_at es k (record { holder = j; ends = p.1.ends }))
    → IsTaken held' es' (names_in es held) i × (ends_list es' ≡ ends_list es)
inherit_taken held held1 held' es es' h i k j site at e1 name heir e2 en =
    let s = h.shared i k at in
    let own = heir_owns held es h i k j site at name heir.0 heir.1 in
    let entries = en s.0 s.1 in
    let held_is : held' ≡ slice_set (slice_set held i None) j (Some (Shared k)) = e2 ∙ ap (λ x. slice_set x j (Some (Shared k))) e1 in
    let named : Some (slice_get (keys_of es) k) ≡ Some (Some site) = sym (get_map (name_in (keys_of es)) held i ∙ ap (option_map (name_in (keys_of es))) at) ∙ name in
    let key : slice_get (keys_of es) k ≡ Some site = cc in
    let key_k : Some s.0.0 ≡ Some site = sym (get_keys es k s.0 s.1) ∙ key in
    let is : s.0.0 ≡ site = cc in (
      rw (held_is, entries) (record {
        holds = inherit_held held es h i j k site s.0 s.0.1.ends at own s.1 is;
        names_are = inherit_names held es h i j k site s.0 s.0.1.ends at own s.1 is;
      }),
      ap ends_list entries ∙ ends_set es k j s.0 s.1,
    )

-- Where the key of a slot's site is.

pub shared_place : (held : List (Option Name)) (es : List (List ℕ × Group)) (i k : ℕ) (site : List ℕ) → slice_get held i ≡ Some (Some (Shared k)) → HasName (names_in es held) i site → slice_get (map (λ p. p.0) (ends_list es)) k ≡ Some site
shared_place held es i k site at name =
    let named : Some (slice_get (keys_of es) k) ≡ Some (Some site) = sym (get_map (name_in (keys_of es)) held i ∙ ap (option_map (name_in (keys_of es))) at) ∙ name in
    let key : slice_get (keys_of es) k ≡ Some site = cc in
    ap (λ ks. slice_get ks k) (keys_map (λ (g : Group). g.ends) es) ∙ key

pub own_place : (held : List (Option Name)) (es : List (List ℕ × Group)) (i k : ℕ) (own site : List ℕ) → slice_get held i ≡ Some (Some (Own own)) → HasName (names_in es held) i site → position (bytes_eq own) (keys_of es) ≡ Some k → slice_get (map (λ p. p.0) (ends_list es)) k ≡ Some site
own_place held es i k own site at name p =
    let named : Some (Some own) ≡ Some (Some site) = sym (get_map (name_in (keys_of es)) held i ∙ ap (option_map (name_in (keys_of es))) at) ∙ name in
    let same : own ≡ site = cc in
    ap (λ ks. slice_get ks k) (keys_map (λ (g : Group). g.ends) es) ∙ key_at (keys_of es) k p ∙ ap Some same
  where
    key_at : (ks : List (List ℕ)) (k : ℕ) → position (bytes_eq own) ks ≡ Some k → slice_get ks k ≡ Some own
    key_at ks k p =
        let r = position-Some (bytes_eq own) ks k own p in
        get_within ks k own r.0 ∙ ap Some (sym ((bytes_decides own (get_or ks k own)).0 r.1))

pub place_right : (held : List (Option Name)) (es : List (List ℕ × Group)) (i k : ℕ) (site : List ℕ) → HasName (names_in es held) i site → place_of (keys_of es) (slice_get held i) ≡ Some k → slice_get (map (λ p. p.0) (ends_list es)) k ≡ Some site
place_right held es i k site name p =
    let n = name_held held es i site name in
    by n.0 n.1 (sym (ap (place_of (keys_of es)) n.1) ∙ p)
  where
    by : (n : Name) → slice_get held i ≡ Some (Some n) → name_place (keys_of es) n ≡ Some k → slice_get (map (λ p. p.0) (ends_list es)) k ≡ Some site
    by (Own own) e q = own_place held es i k own site e name q
    by (Shared m) e q =
        let h : Some m ≡ Some k = q in
        let same : m ≡ k = cc in
        shared_place held es i k site (e ∙ ap (λ x. Some (Some (Shared x))) same) name

pub place_there : (held : List (Option Name)) (es : List (List ℕ × Group)) → IsHeld held es → (i : ℕ) (site : List ℕ) → HasName (names_in es held) i site → place_of (keys_of es) (slice_get held i) ≡ None → ⊥
place_there held es h i site name p =
    let n = name_held held es i site name in
    by n.0 n.1 (sym (ap (place_of (keys_of es)) n.1) ∙ p)
  where
    by : (n : Name) → slice_get held i ≡ Some (Some n) → name_place (keys_of es) n ≡ None → ⊥
    by (Own own) e q = true≢false (sym (some_index (bytes_eq own) es ∙ h.own i own e) ∙ ap is_some q)
    by (Shared m) e q = let no : Some m ≡ None = q in cc
