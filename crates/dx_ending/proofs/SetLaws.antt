-- Links by their terms, after changes.
use Rattle.std.proofs.Common.{◌≡◌, List, [], ◌∷◌, Option, Some, None, Bool, true, false, refl, ap, ◌∙◌}
use Rattle.std.specs.Prelude.{map, option_map, if◌then◌else◌}
use Rattle.std.specs.Map.{remove_entry}
use Rattle.std.specs.BTreeMap.{insert_entry, is_at}
use Rattle.std.specs.Ordering.{is_eq, match_ordering}
use Rattle.std.specs.declared.cmp.Ordering.{Ordering}
use Rattle.std.specs.declared.cmp.Ordering.TheVariants.{Less, Equal, Greater}
use Rattle.dx_tags.specs.Closed.{Head}
use Rattle.dx_links.specs.declared.key.Key.{Key}
use Rattle.dx_links.specs.Holding.{Holding}
use Rattle.dx_links.specs.LinkMap.{LinkMap, key_cmp, put_at}
use Rattle.dx_performing.specs.Kept.{put_term, after_set_terms}
use Rattle.dx_looking.specs.Setting.{links_of}
use Rattle.dx_ending.specs.Terms.{SetsAlike, link_of, set_terms_of}

-- a map of the values goes through what is put under a key and what is taken away
module _ {K X Y : Type 0} (cmp : K → K → Ordering) (f : X → Y) where
  abbrev pub valued : List (K × X) → List (K × Y)
  valued es = map (λ (e : K × X). (e.0, f e.1)) es

  pub valued_put : (k : K) (v : X) (es : List (K × X)) → valued (insert_entry cmp es k v) ≡ insert_entry cmp (valued es) k (f v)
  valued_put k v [] = refl
  valued_put k v (x ∷ es) = by (cmp k x.0) (valued_put k v es)
    where
      by : (r : Ordering) → valued (insert_entry cmp es k v) ≡ insert_entry cmp (valued es) k (f v)
          → valued (match_ordering r ((k, v) ∷ x ∷ es) ((x.0, v) ∷ es) (x ∷ insert_entry cmp es k v)) ≡ match_ordering r ((k, f v) ∷ (x.0, f x.1) ∷ valued es) ((x.0, f v) ∷ valued es) ((x.0, f x.1) ∷ insert_entry cmp (valued es) k (f v))
      by Less e = refl
      by Equal e = refl
      by Greater e = ap (λ ys. (x.0, f x.1) ∷ ys) e

  pub valued_taken : (k : K) (es : List (K × X)) → valued (remove_entry (is_at (cmp k)) es) ≡ remove_entry (is_at (cmp k)) (valued es)
  valued_taken k [] = refl
  valued_taken k (x ∷ es) = by (is_eq (cmp k x.0)) (valued_taken k es)
    where
      by : (b : Bool) → valued (remove_entry (is_at (cmp k)) es) ≡ remove_entry (is_at (cmp k)) (valued es)
          → valued (if b then es else x ∷ remove_entry (is_at (cmp k)) es) ≡ (if b then valued es else (x.0, f x.1) ∷ remove_entry (is_at (cmp k)) (valued es))
      by true e = refl
      by false e = ap (λ ys. (x.0, f x.1) ∷ ys) e

put_alike : (hs : List Head) (links : LinkMap) (k : Key) (o : Option Holding) → links_of hs (put_at links k o) ≡ put_term (links_of hs links) k (option_map (link_of hs) o)
put_alike hs links k (Some h) = valued_put key_cmp (link_of hs) k h links
put_alike hs links k None = valued_taken key_cmp (link_of hs) k links

pub sets_alike : SetsAlike
sets_alike hs links [] = refl
sets_alike hs links (c ∷ cs) = sets_alike hs (put_at links c.key c.held) cs ∙ ap (λ ls. after_set_terms ls (set_terms_of hs cs)) (put_alike hs links c.key c.held)
