-- What an emptying leaves, as the machine's.
use Rattle.std.proofs.Common.{◌≡◌, ℕ, zero, suc, ◌+◌, ◌<◌, ◌≤◌, List, [], ◌∷◌, ◌++◌, length, map, Some, refl, sym, ap, ap₂, ◌∙◌, arith}
use Rattle.dx_tags.specs.declared.term.Term.TheVariants.{Held as HeldBy}
use Rattle.dx_tags.specs.Closed.{Head, HeldHead, HeldTerm, head_at, heads_of, result_of_head}
use Rattle.dx_tags.specs.HeldTerms.{held_terms}
use Rattle.dx_tags.proofs.ClosedTerms.{head_unfolds}
use Rattle.dx_tags.proofs.HeldTerms.{held_at}
use Rattle.dx_links.specs.declared.key.Key.{Key}
use Rattle.dx_links.specs.Emptied.{values_held, front_held, all_held}
use Rattle.dx_links.specs.LinkMap.{LinkMap}
use Rattle.dx_getting.proofs.EmptyLaws.{held_exact}
use Rattle.dx_demand.specs.Forming.{named_terms}
use Rattle.dx_demand.proofs.FormedTerms.{named_more}
use Rattle.dx_performing.specs.Kept as machine
use Rattle.dx_performing.specs.Kept.{Link}
use Rattle.dx_looking.specs.Setting.{links_of}
use Rattle.dx_ending.specs.Emptying.{EmptiesAlike}

held_head : (n k : ℕ) → k < n → head_at (heads_of (held_terms n)) k ≡ HeldHead k
held_head n k h = head_unfolds (held_terms n) (held_exact n).formed k (HeldBy k) (held_at n k h)

pub terms_alike : (n : ℕ) → named_terms (held_terms n) ≡ machine.held_terms n
terms_alike zero = refl
terms_alike (suc n) = named_more (held_terms n) (HeldBy n) ∙ ap (λ ts. ts ++ HeldTerm n ∷ []) (terms_alike n)

links_alike : (hs : List Head) (n m : ℕ) (ls : LinkMap) → m + length ls ≤ n → links_of (heads_of (held_terms n)) (front_held (length ls) m ls) ≡ machine.held_links m (links_of hs ls)
links_alike hs n m [] h = refl
links_alike hs n m (l ∷ ls) h =
    let lt : m < n = omega (arith, h) in
    ap₂ (λ d rest. (l.0, record { object = l.1.value; term = result_of_head d 0 }) ∷ rest) (held_head n m lt) (links_alike hs n (suc m) ls (omega (arith, h)))

-- the links of an emptying are those of the machine's
pub emptied_links : (hs : List Head) (links : LinkMap) → links_of (heads_of (held_terms (length links))) (all_held links) ≡ machine.held_links 0 (links_of hs links)
emptied_links hs links = links_alike hs (length links) 0 links (omega arith)

pub values_alike : (hs : List Head) (ls : LinkMap) → values_held ls ≡ map (λ (l : Key × Link). Some l.1.object) (links_of hs ls)
values_alike hs [] = refl
values_alike hs (l ∷ ls) = ap (λ vs. Some l.1.value ∷ vs) (values_alike hs ls)

pub count_alike : (hs : List Head) (ls : LinkMap) → length (links_of hs ls) ≡ length ls
count_alike hs [] = refl
count_alike hs (l ∷ ls) = ap suc (count_alike hs ls)

pub empties_alike : EmptiesAlike
empties_alike hs links k e =
    λ i. record {
      entries = [];
      terms = (ap (λ ls. machine.held_terms (length ls)) e ∙ ap machine.held_terms (count_alike hs links) ∙ sym (terms_alike (length links))) i;
      links = (ap (machine.held_links 0) e ∙ sym (emptied_links hs links)) i;
      held = (ap (map (λ (l : Key × Link). Some l.1.object)) e ∙ sym (values_alike hs links)) i;
      written = k.written;
    }
