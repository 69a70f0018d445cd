-- Written files, as a search of their names finds them.
use Rattle.std.proofs.Common.{◌≡◌, ℕ, ◌<◌, ◌≤◌, List, [], length, get_or, Some, None, sym, ap, ◌∙◌, subst, arith}
use Rattle.std.specs.Prelude.{slice_set}
use Rattle.std.specs.Map.{keys_of}
use Rattle.std.specs.List.{insert}
use Rattle.std.specs.List.Sorted.{IsStrictlySortedBy, IsPartitionPoint, IsNonDecreasingBy}
use Rattle.std.specs.Ordering.{ordering_index}
use Rattle.std.specs.Cmp.Lexicographic.{nat_list_cmp_total}
use Rattle.std.specs.declared.cmp.Ordering.TheVariants.{Less, Equal, Greater}
use Rattle.dx_tags.specs.Files.{FileMap, name_cmp, content_of, file_put}
use Rattle.dx_tags.proofs.SortedPairs.{lookup_found, lookup_nowhere, put_found, put_between, sorted_put, rises, front, back, nowhere}

abbrev pub AreSorted : FileMap → Type 0
AreSorted files = IsStrictlySortedBy name_cmp (keys_of files)

-- a search has ended at i, with a hit or between two names
abbrev pub EndsAt : List ℕ → FileMap → ℕ → Type 0
EndsAt name es i = IsNonDecreasingBy (λ (e : List ℕ × List ℕ). ordering_index (name_cmp e.0 name)) es → IsPartitionPoint (λ (e : List ℕ × List ℕ). name_cmp e.0 name ≡ Less) (λ (e : List ℕ × List ℕ). name_cmp e.0 name ≡ Greater) es i

pub none_sorted : (es : FileMap) → es ≡ [] → AreSorted es
unfolding IsStrictlySortedBy
none_sorted es e = subst AreSorted (sym e) tt

pub content_found : (es : FileMap) (name : List ℕ) (i : ℕ) (r : List ℕ × List ℕ) → AreSorted es → i < length es → name_cmp (get_or es i r).0 name ≡ Equal → r ≡ get_or es i r → content_of name es ≡ Some r.1
content_found es name i r s h e at = lookup_found nat_list_cmp_total name es i r s h e ∙ ap (λ (p : List ℕ × List ℕ). Some p.1) (sym at)

pub content_nowhere : (es : FileMap) (name : List ℕ) (i : ℕ) → AreSorted es → EndsAt name es i → content_of name es ≡ None
content_nowhere es name i s p = lookup_nowhere nat_list_cmp_total name es (nowhere nat_list_cmp_total name es i (p (rises nat_list_cmp_total name es s)))

pub put_in_place : (es : FileMap) (name content : List ℕ) (i : ℕ) (r : List ℕ × List ℕ) → AreSorted es → i < length es → name_cmp (get_or es i r).0 name ≡ Equal → r ≡ get_or es i r → slice_set es i (r.0, content) ≡ file_put es name content
put_in_place es name content i r s h e at = ap (λ (p : List ℕ × List ℕ). slice_set es i (p.0, content)) at ∙ sym (put_found nat_list_cmp_total name content es i r s h e)

pub put_new : (es : FileMap) (name content : List ℕ) (i : ℕ) → AreSorted es → i ≤ length es → EndsAt name es i → insert es i (name, content) ≡ file_put es name content
put_new es name content i s h p =
    let point = p (rises nat_list_cmp_total name es s) in
    sym (put_between nat_list_cmp_total name content es i h (front nat_list_cmp_total name es i point) (λ d l. back nat_list_cmp_total name es i point i d (omega arith) l))

pub put_sorted : (es after : FileMap) (name content : List ℕ) → AreSorted es → after ≡ file_put es name content → AreSorted after
put_sorted es after name content s e = subst AreSorted (sym e) (sorted_put nat_list_cmp_total name content es s)

-- the same where the search went over `seen` for the bytes `sought`
pub replaces : (es seen : FileMap) (name sought content : List ℕ) (i : ℕ) (r : List ℕ × List ℕ) → AreSorted es → seen ≡ es → sought ≡ name → i < length seen → ((d : List ℕ × List ℕ) → name_cmp (get_or seen i d).0 sought ≡ Equal) → r ≡ get_or es i r → slice_set es i (r.0, content) ≡ file_put es name content
replaces es seen name sought content i r s a b h e at =
    put_in_place es name content i r s (subst (λ l. i < length l) a h) (subst (λ n. name_cmp (get_or es i r).0 n ≡ Equal) b (subst (λ l. name_cmp (get_or l i r).0 sought ≡ Equal) a (e r))) at

pub joins : (es seen : FileMap) (name sought content : List ℕ) (i : ℕ) → AreSorted es → seen ≡ es → sought ≡ name → i ≤ length seen → EndsAt sought seen i → insert es i (name, content) ≡ file_put es name content
joins es seen name sought content i s a b h p =
    put_new es name content i s (subst (λ l. i ≤ length l) a h) (subst (λ n. EndsAt n es i) b (subst (λ l. EndsAt sought l i) a p))
