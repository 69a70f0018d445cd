-- Terms and links that resolving can start from.
use Rattle.std.proofs.Common.{◌≡◌, ℕ, List, [], ◌∷◌, ◌++◌, Bool, true, false, Some, sym, ap, ◌∙◌, subst}
use Rattle.std.specs.Prelude.{if◌then◌else◌}
use Rattle.std.specs.Ordering.{is_eq}
use Rattle.dx_tags.specs.declared.term.Term.{Term}
use Rattle.dx_tags.specs.declared.term.ValueTag.{ValueTag}
use Rattle.dx_tags.specs.Closed.{Head, NamesHead, IsResultOf, HasMore}
use Rattle.dx_tags.specs.Whole.{is_file}
use Rattle.dx_links.specs.declared.key.Key.{Key}
use Rattle.dx_links.specs.declared.held.Change.{Change}
use Rattle.dx_links.specs.Holding.{Holding}
use Rattle.dx_links.specs.LinkMap.{LinkMap, key_cmp, held_at, put_at, after}
use Rattle.dx_links.proofs.LinkLaws.{key_cmp_total}
use Rattle.dx_links.proofs.MapLaws.{lookup_put}
use Rattle.dx_demand.specs.Terms.{AreExact, IsValue}
use Rattle.dx_demand.specs.Picked.{LinksFit}
use Rattle.dx_demand.proofs.Terms.{value_stays}
use Rattle.dx_demand_tests.specs.Linked.{AreLinked}

-- ---- nothing yet

pub exact_none : (terms : List Term) → terms ≡ [] → AreExact terms
exact_none terms e = subst AreExact (sym e) (record { formed = tt; distinct = λ i j t p q. cc; whole = tt })

pub linked_none : (terms : List Term) (links : LinkMap) → AreExact terms → links ≡ [] → AreLinked terms links
linked_none terms links x e = record { exact = x; fit = subst (LinksFit terms) (sym e) (λ k h p. cc) }

-- ---- more terms

pub linked_grows : (old new : List Term) (links : LinkMap) → HasMore old new → AreExact new → AreLinked old links → AreLinked new links
linked_grows old new links g x h = record { exact = x; fit = λ k x p. value_stays old new g x.tag (h.fit k x p) }

pub value_named : (terms : List Term) (tag : ℕ) (h : Head) → NamesHead terms tag h → IsResultOf h 0 → is_file h ≡ false → IsValue terms (record { tag = tag; result = 0 })
value_named terms tag h n r f = record {
  fits = record { within = n.within; result = subst (λ (x : Head). IsResultOf x 0) (sym n.head) r };
  value = ap is_file n.head ∙ f;
}

-- ---- a link more

put_fits : (terms : List Term) (links : LinkMap) (k : Key) (h : Holding) → LinksFit terms links → IsValue terms h.tag → LinksFit terms (put_at links k (Some h))
put_fits terms links k h f v q x e = by (is_eq (key_cmp q k)) (sym (lookup_put key_cmp_total q k h links) ∙ e)
  where
    by : (b : Bool) → (if b then Some h else held_at q links) ≡ Some x → IsValue terms x.tag
    by true p = let same : h ≡ x = cc in subst (λ (y : Holding). IsValue terms y.tag) same v
    by false p = f q x p

pub link_made : (terms : List Term) (links new : LinkMap) (none changes : List Change) (k : Key) (h : Holding) (t : ValueTag) → AreLinked terms links → IsValue terms t → h.tag ≡ t → none ≡ [] → changes ≡ none ++ record { key = k; held = Some h } ∷ [] → new ≡ after links changes → AreLinked terms new
link_made terms links new none changes k h t l v same empty one made =
    let all = one ∙ ap (λ (cs : List Change). cs ++ record { key = k; held = Some h } ∷ []) empty in
    record {
      exact = l.exact;
      fit = subst (LinksFit terms) (sym (made ∙ ap (after links) all)) (put_fits terms links k h l.fit (subst (IsValue terms) (sym same) v));
    }
