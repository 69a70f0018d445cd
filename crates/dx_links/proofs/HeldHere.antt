-- A link is what its key holds.
use Rattle.std.proofs.Common.{◌≡◌, ℕ, ◌<◌, length, get_or, Some, sym, ap, ◌∙◌, subst, refl}
use Rattle.std.specs.Prelude.{slice_get}
use Rattle.std.proofs.lemmas.Option.{slice_get-get_or}
use Rattle.std.specs.Ordering.{ordering_reverse}
use Rattle.std.specs.declared.cmp.Ordering.{Ordering}
use Rattle.std.specs.declared.cmp.Ordering.TheVariants.{Less, Equal, Greater}
use Rattle.dx_tags.proofs.SortedPairs.{lookup_found}
use Rattle.dx_links.specs.declared.key.Key.{Key}
use Rattle.dx_links.specs.Holding.{Holding}
use Rattle.dx_links.specs.LinkMap.{LinkMap, key_cmp, held_at}
use Rattle.dx_links.proofs.LinkLaws.{AreSorted, key_cmp_total}

own_way : (r : Ordering) → r ≡ ordering_reverse r → r ≡ Equal
own_way Less e = cc
own_way Equal e = refl
own_way Greater e = cc

pub itself : (k : Key) → key_cmp k k ≡ Equal
itself k = own_way (key_cmp k k) (key_cmp_total.antisymm k k)

pub held_here : (links : LinkMap) (i : ℕ) (l : Key × Holding) → AreSorted links → i < length links → slice_get links i ≡ Some l → held_at l.0 links ≡ Some l.1
held_here links i l s within e =
    let here = slice_get-get_or links i l within in
    let at : get_or links i l ≡ l = cc in
    lookup_found key_cmp_total l.0 links i l s within (subst (λ (x : Key × Holding). key_cmp x.0 l.0 ≡ Equal) (sym at) (itself l.0))
    ∙ ap (λ (x : Key × Holding). Some x.1) at
