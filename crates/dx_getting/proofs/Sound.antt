-- What keeps the entries and the known calls right.
use Rattle.std.proofs.Common.{◌≡◌, ℕ, ◌+◌, ◌<◌, ◌≤◌, List, [], ◌∷◌, ◌++◌, map, Bool, true, false, cond, Option, Some, None, refl, sym, ap, ◌∙◌, subst, arith, is_some, true≢false}
use Rattle.std.specs.Prelude.{filter, not, ◌==◌, nat_le, nat_eq, if◌then◌else◌, Result, Ok, Err}
use Rattle.std.specs.Map.{lookup}
use Rattle.std.specs.Cmp.{unsigned_Decides}
use Rattle.dx_base.specs.Object.{Tree}
use Rattle.dx_objects.specs.Runs.{Values}
use Rattle.dx_tags.specs.declared.term.Term.{Term}
use Rattle.dx_tags.specs.declared.term.ValueTag.{ValueTag}
use Rattle.dx_tags.specs.contracts.term.ValueTagPartialEq.TheImpl as tags
use Rattle.dx_tags.specs.Closed.{heads_of, value_term}
use Rattle.dx_links.specs.Denotes.{results_of, denotes}
use Rattle.dx_cache.specs.declared.entry.Entry.{Entry}
use Rattle.dx_cache.specs.Cached as kept
use Rattle.dx_cache.specs.Cached.{IsPartOf, part_none, part_keep, part_skip}
use Rattle.dx_cache.proofs.Places.{cases}
use Rattle.dx_cache.proofs.Drops.{part_all, part_then}
use Rattle.dx_getting.specs.Terms.{BoundValues}
use Rattle.dx_getting.specs.Stands.{Setting, World, IsCall, call_at, around_of, EntriesRight, KnownRight, LinksDenote, IsReady}
use Rattle.dx_getting.specs.Steps.{AreCalls, find_link}
use Rattle.dx_getting.proofs.Names.{tag_decides}

module _ (e : Setting) (files : World) where
  pub entries_part : {xs ys : List Entry} → IsPartOf xs ys → EntriesRight e files ys → EntriesRight e files xs
  entries_part part_none h = tt
  entries_part (part_keep {x = x} {xs = xs} {ys = ys} p) h = (h.0, entries_part p h.1)
  entries_part (part_skip {y = y} {ys = ys} p) h = entries_part p h.1

  pub entries_append : (xs ys : List Entry) → EntriesRight e files xs → EntriesRight e files ys → EntriesRight e files (xs ++ ys)
  entries_append [] ys p q = q
  entries_append (x ∷ xs) ys p q = (p.0, entries_append xs ys p.1 q)

  pub known_append : (xs ys : List (ℕ × Values)) → KnownRight e files xs → KnownRight e files ys → KnownRight e files (xs ++ ys)
  known_append [] ys p q = q
  known_append (x ∷ xs) ys p q = (p.0, known_append xs ys p.1 q)

  pub found_right : (t : ℕ) (es : List Entry) (x : Entry) → EntriesRight e files es → kept.find t es ≡ Some x → results_of (around_of e files) (call_at (heads_of e.terms) t) ≡ Ok x.outs
  found_right t [] x h f = cc
  found_right t (y ∷ es) x h f = cases (y.tag == t)
      (λ q. let f1 : Some y ≡ Some x = rw q at f in let same : y ≡ x = cc in
      let tag : y.tag ≡ t = (unsigned_Decides y.tag t).0 q in
      ap (λ u. results_of (around_of e files) (call_at (heads_of e.terms) u)) (sym tag) ∙ h.0.1 ∙ ap (λ (z : Entry). Ok z.outs) same)
      (λ q. let f1 : kept.find t es ≡ Some x = rw q at f in found_right t es x h.1 f1)

  pub known_right : (t : ℕ) (ks : List (ℕ × Values)) (outs : Values) → KnownRight e files ks → lookup (nat_eq t) ks ≡ Some outs → results_of (around_of e files) (call_at (heads_of e.terms) t) ≡ Ok outs
  known_right t [] outs h f = cc
  known_right t (y ∷ ks) outs h f = cases (nat_eq t y.0)
      (λ q. let f1 : Some y.1 ≡ Some outs = rw q at f in let same : y.1 ≡ outs = cc in
      let tag : t ≡ y.0 = (unsigned_Decides t y.0).0 q in
      ap (λ u. results_of (around_of e files) (call_at (heads_of e.terms) u)) tag ∙ h.0.1 ∙ ap Ok same)
      (λ q. let f1 : lookup (nat_eq t) ks ≡ Some outs = rw q at f in known_right t ks outs h.1 f1)

  pub link_right : (t : ValueTag) (ls : BoundValues) (o : Tree) → LinksDenote e files ls → find_link t ls ≡ Some o → denotes (around_of e files) (value_term (heads_of e.terms) t) ≡ Ok (Some o)
  link_right t [] o h f = cc
  link_right t (y ∷ ls) o h f = cases (tags.ghosts.eq t y.0)
      (λ q. let f1 : Some y.1 ≡ Some o = rw q at f in let same : y.1 ≡ o = cc in
      ap (λ u. denotes (around_of e files) (value_term (heads_of e.terms) u)) ((tag_decides t y.0).0 q) ∙ h.0 ∙ ap (λ z. Ok (Some z)) same)
      (λ q. let f1 : find_link t ls ≡ Some o = rw q at f in link_right t ls o h.1 f1)

pub filter_part : (p : Entry → Bool) (es : List Entry) → IsPartOf (filter p es) es
filter_part p [] = part_none
filter_part p (e ∷ es) = cases (p e) (λ q. rw q (part_keep (filter_part p es))) (λ q. rw q (part_skip (filter_part p es)))

fitting_part : (budget size : ℕ) (es : List Entry) → IsPartOf (kept.fitting budget size es) es
fitting_part budget size [] = part_none
fitting_part budget size (e ∷ es) = cases (nat_le (kept.total (e ∷ es) + size) budget) (λ q. rw q (part_all (e ∷ es))) (λ q. rw q (part_skip (fitting_part budget size es)))

others_part : (attribute : ℕ) (site : List ℕ) (es : List Entry) → IsPartOf (kept.others attribute site es) es
others_part attribute site es = cases (attribute == 2) (λ q. rw q (filter_part (λ x. not (kept.of_site site x)) es)) (λ q. rw q (part_all es))

pub left_part : (site : List ℕ) (attribute size budget : ℕ) (es : List Entry) → IsPartOf (kept.left_for site attribute size budget es) es
left_part site attribute size budget es =
    cases (attribute == 0) (λ a. rw a (part_all es))
    (λ a. cases (nat_le size budget)
    (λ w. rw (a, w) (part_then _ _ _ (fitting_part budget size (kept.others attribute site es)) (others_part attribute site es)))
    (λ w. rw (a, w) (others_part attribute site es)))

pub ready_last : (t : ℕ) (outs : Values) (ks : List (ℕ × Values)) → IsReady t (ks ++ (t, outs) ∷ [])
ready_last t outs [] = let q : nat_eq t t ≡ true = (unsigned_Decides t t).1 refl in (outs, rw q refl)
ready_last t outs (k ∷ ks) =
    let r = ready_last t outs ks in
    cases (nat_eq t k.0) (λ q. (k.1, rw q refl)) (λ q. (r.0, rw q r.1))

pub ready_some : (t : ℕ) (ks : List (ℕ × Values)) (o : Option Values) → lookup (nat_eq t) ks ≡ o → is_some o ≡ true → IsReady t ks
ready_some t ks (Some outs) e h = (outs, e)
ready_some t ks None e h = cc

-- a known call of another tag keeps a call away
pub unknown_more : (t u : ℕ) (outs : Values) (ks : List (ℕ × Values)) → nat_eq u t ≡ false → lookup (nat_eq u) ks ≡ None → lookup (nat_eq u) (ks ++ (t, outs) ∷ []) ≡ None
unknown_more t u outs [] q h = rw q refl
unknown_more t u outs (k ∷ ks) q h = cases (nat_eq u k.0)
    (λ p. let h1 : Some k.1 ≡ None = rw p at h in cc)
    (λ p. let h1 : lookup (nat_eq u) ks ≡ None = rw p at h in rw p (unknown_more t u outs ks q h1))

pub not_same : (t u : ℕ) → t < u → nat_eq u t ≡ false
not_same t u h = cases (nat_eq u t) (λ q. let same = (unsigned_Decides u t).0 q in absurd (omega arith)) (λ q. q)

-- entries of call terms

pub calls_part : (terms : List Term) {xs ys : List Entry} → IsPartOf xs ys → AreCalls terms ys → AreCalls terms xs
calls_part terms part_none h = tt
calls_part terms (part_keep {x = x} {xs = xs} {ys = ys} p) h = (h.0, calls_part terms p h.1)
calls_part terms (part_skip {y = y} {ys = ys} p) h = calls_part terms p h.1

pub calls_append : (terms : List Term) (xs ys : List Entry) → AreCalls terms xs → AreCalls terms ys → AreCalls terms (xs ++ ys)
calls_append terms [] ys p q = q
calls_append terms (x ∷ xs) ys p q = (p.0, calls_append terms xs ys p.1 q)

pub calls_filter : (terms : List Term) (p : Entry → Bool) (es : List Entry) → AreCalls terms es → AreCalls terms (filter p es)
calls_filter terms p es h = calls_part terms (filter_part p es) h

pub calls_moved : (terms : List Term) (t : ℕ) (es : List Entry) → AreCalls terms es → AreCalls terms (kept.moved t es)
calls_moved terms t es h = calls_append terms (filter (λ x. not (kept.has_tag t x)) es) (filter (kept.has_tag t) es) (calls_filter terms (λ x. not (kept.has_tag t x)) es h) (calls_filter terms (kept.has_tag t) es h)

pub calls_if : (terms : List Term) (b : Bool) (x : Entry) → IsCall terms x.tag → AreCalls terms (if b then x ∷ [] else [])
calls_if terms true x h = (h, tt)
calls_if terms false x h = tt

-- the entry that moves to the end keeps the entries of others away
pub moved_none : (t u : ℕ) (es : List Entry) → kept.find u es ≡ None → kept.find u (kept.moved t es) ≡ None
moved_none t u es h = none_append u (filter (λ x. not (kept.has_tag t x)) es) (filter (kept.has_tag t) es) (none_filtered u (λ x. not (kept.has_tag t x)) es h) (none_filtered u (kept.has_tag t) es h)
  where
    none_append : (u : ℕ) (xs ys : List Entry) → kept.find u xs ≡ None → kept.find u ys ≡ None → kept.find u (xs ++ ys) ≡ None
    none_append u [] ys p q = q
    none_append u (x ∷ xs) ys p q = cases (x.tag == u)
        (λ b. let p1 : Some x ≡ None = rw b at p in cc)
        (λ b. let p1 : kept.find u xs ≡ None = rw b at p in rw b (none_append u xs ys p1 q))

    none_filtered : (u : ℕ) (p : Entry → Bool) (es : List Entry) → kept.find u es ≡ None → kept.find u (filter p es) ≡ None
    none_filtered u p [] h = refl
    none_filtered u p (x ∷ es) h = cases (x.tag == u)
        (λ b. let h1 : Some x ≡ None = rw b at h in cc)
        (λ b. let h1 : kept.find u es ≡ None = rw b at h in
        cases (p x) (λ q. rw q (rw b (none_filtered u p es h1))) (λ q. rw q (none_filtered u p es h1)))
