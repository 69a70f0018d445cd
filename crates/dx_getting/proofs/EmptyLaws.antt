-- The terms of held values, and what links with these terms denote.
use Rattle.std.proofs.Common.{◌≡◌, ℕ, zero, suc, ◌+◌, ◌<◌, ◌≤◌, List, [], ◌∷◌, ◌++◌, length, Some, refl, sym, ap, ◌∙◌, subst, arith}
use Rattle.std.specs.Prelude.{slice_get, Ok}
use Rattle.dx_objects.specs.Values.{value_at}
use Rattle.dx_objects.specs.Runs.{Values}
use Rattle.dx_tags.specs.declared.term.Term.{Term}
use Rattle.dx_tags.specs.declared.term.Term.TheVariants.{Held as HeldBy}
use Rattle.dx_tags.specs.Closed.{Head, HeldHead, head_at, heads_of, result_of_head}
use Rattle.dx_tags.specs.HeldTerms.{held_terms}
use Rattle.dx_tags.specs.Whole.{AreWhole}
use Rattle.dx_tags.proofs.ClosedTerms.{head_unfolds}
use Rattle.dx_tags.proofs.HeldTerms.{held_at, held_formed, held_is}
use Rattle.dx_links.specs.declared.key.Key.{Key}
use Rattle.dx_links.specs.Denotes.{Around, denotes}
use Rattle.dx_links.specs.Emptied.{values_held, front_held, all_held}
use Rattle.dx_links.specs.Holding.{Holding}
use Rattle.dx_links.specs.LinkMap.{LinkMap}
use Rattle.dx_links.proofs.EmptiedLaws.{front_length, value_here}
use Rattle.dx_getting.specs.Emptied.{LinksAreRight}
use Rattle.dx_getting.specs.Stands.{AreExact}

whole_snoc : (hs : List Head) (m : ℕ) (xs : List Term) → AreWhole hs xs → AreWhole hs (xs ++ HeldBy m ∷ [])
whole_snoc hs m [] f = (tt, tt)
whole_snoc hs m (x ∷ xs) f = (f.0, whole_snoc hs m xs f.1)

held_whole : (hs : List Head) (n : ℕ) → AreWhole hs (held_terms n)
held_whole hs zero = tt
held_whole hs (suc n) = whole_snoc hs n (held_terms n) (held_whole hs n)

pub held_exact : (n : ℕ) → AreExact (held_terms n)
held_exact n = record {
  formed = held_formed (heads_of (held_terms n)) 0 n;
  distinct = λ i j t a b. let p = held_is n i t a in let q = held_is n j t b in let e = p.1 ∙ sym q.1 in cc;
  whole = held_whole (heads_of (held_terms n)) n;
}

-- ---- what the terms denote

-- there are as many as before
pub all_length : (links : LinkMap) → length (all_held links) ≡ length links
all_length links = front_length (length links) 0 links

held_head : (n k : ℕ) → k < n → head_at (heads_of (held_terms n)) k ≡ HeldHead k
held_head n k h = head_unfolds (held_terms n) (held_formed (heads_of (held_terms n)) 0 n) k (HeldBy k) (held_at n k h)

held_right : (n m : ℕ) (a : Around) (ls : LinkMap) → m + length ls ≤ n → ((i : ℕ) (l : Key × Holding) → slice_get ls i ≡ Some l → a.held (m + i) ≡ Some l.1.value) → LinksAreRight a (heads_of (held_terms n)) (front_held (length ls) m ls)
held_right n m a [] h f = tt
held_right n m a (l ∷ ls) h f =
    let lt : m < n = omega (arith, h) in
    let place : m ≡ m + 0 = omega arith in (
      ap (λ d. denotes a (result_of_head d 0)) (held_head n m lt) ∙ ap Ok (ap a.held place ∙ f 0 l refl),
      held_right n (suc m) a ls (omega (arith, h)) (λ i x e. ap a.held (omega arith) ∙ f (suc i) x e),
    )

all_right : (a : Around) (ls : LinkMap) → a.held ≡ value_at (values_held ls) → LinksAreRight a (heads_of (held_terms (length ls))) (all_held ls)
all_right a ls q = held_right (length ls) 0 a ls (omega arith) (λ i l at. ap a.held (omega arith) ∙ ap (λ (g : ℕ → _). g i) q ∙ value_here ls i l at)

-- after an emptying of links
pub links_right : (a : Around) (links new : LinkMap) (tags : List Term) (held : Values) → new ≡ all_held links → held ≡ values_held links → tags ≡ held_terms (length links) → a.held ≡ value_at held → LinksAreRight a (heads_of tags) new
links_right a links new tags held n h t q =
    subst (λ ts. LinksAreRight a (heads_of ts) new) (sym t) (subst (LinksAreRight a (heads_of (held_terms (length links)))) (sym n) (all_right a links (q ∙ ap value_at h)))
