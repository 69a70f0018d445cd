use Rattle.std.proofs.Common.{◌≡◌, ◌∙◌, ℕ, List, sym, ap, ap₂, subst, Option, Some, None, refl, arith, length, map}
use Rattle.std.specs.Prelude.{slice_get, slice_set, bytes_eq}
use Rattle.std.specs.Option.{option_map}
use Rattle.std.specs.Map.{keys_of, lookup}
use Rattle.dx_cache.proofs.SlotLaws.{within, get_set_other, length_set}
use Rattle.dx_cache.specs.declared.names.Group.{Group}
use Rattle.dx_cache.specs.declared.names.Name.TheVariants.{Own, Shared}
use Rattle.dx_cache.specs.Named.{Named, HasName, IsHeir, taken_ends}
use Rattle.dx_cache.specs.Held.{name_in, IsHeld}
use Rattle.dx_cache.proofs.Lists.{get_keys, map_set}
use Rattle.dx_cache.proofs.Holding.{names_in, ends_list, lookup_ends, held_name, own_taken, own_not_alone, own_ends, taken_lookup, heir_owns, removed_taken, inherit_taken}
use Rattle.dx_cache.proofs.names.Names.take.Goals as goal

no_heir : (names : List (Option (List ℕ))) (i : ℕ) (heir : Option ℕ) → heir ≡ None → ((site : List ℕ) → HasName names i site → IsHeir names i site heir) → (site : List ℕ) → HasName names i site → (j : ℕ) → HasName names j site → j ≡ i
no_heir names i heir e h site n = subst (λ o. IsHeir names i site o) e (h site n)

an_heir : (names : List (Option (List ℕ))) (i j : ℕ) (heir : Option ℕ) → heir ≡ Some j → ((site : List ℕ) → HasName names i site → IsHeir names i site heir) → (site : List ℕ) → HasName names i site → ¬ (j ≡ i) × HasName names j site
an_heir names i j heir e h site n = subst (λ o. IsHeir names i site o) e (h site n)

one_name : (names : List (Option (List ℕ))) (i : ℕ) (s t : List ℕ) → HasName names i s → HasName names i t → s ≡ t
one_name names i s t m n = let e : Some (Some s) ≡ Some (Some t) = sym m ∙ n in cc

pub invariant_of-self : goal.invariant_of-self
invariant_of-self c =
    let was = c.lift.ensures.was in
    let is = c.in-Some-Own.is in
    let field = c.in-Some-Own.field-0-is in
    let site = c.in-Some-Own.site-is in
    let at : slice_get c.self.inside.held.items c.args.i ≡ Some (Some (Own c.in-Some-Own.site)) = cc in
    subst (λ x. IsHeld x c.self.inside.table.entries) (sym c.lift.ensures.held) (own_taken c.self.inside.held.items c.self.inside.table.entries c.self.invariant c.args.i c.in-Some-Own.site at)

pub returns-in-Some-Own-clause-site : goal.returns-in-Some-Own-clause-site
returns-in-Some-Own-clause-site c =
    let was = c.lift.ensures.was in
    let is = c.in-Some-Own.is in
    let field = c.in-Some-Own.field-0-is in
    let site = c.in-Some-Own.site-is in
    let at : slice_get c.self.inside.held.items c.args.i ≡ Some (Some (Own c.in-Some-Own.site)) = cc in
    ap (λ (x : Named). slice_get x.names c.args.i) (sym c.self.view_is) ∙ held_name c.self.inside.held.items c.self.inside.table.entries c.args.i (Own c.in-Some-Own.site) c.in-Some-Own.site at refl

pub returns-in-Some-Own-clause-names : goal.returns-in-Some-Own-clause-names
returns-in-Some-Own-clause-names c =
    ap (map (name_in (keys_of c.self.inside.table.entries))) c.lift.ensures.held
    ∙ map_set (name_in (keys_of c.self.inside.table.entries)) c.self.inside.held.items c.args.i None
    ∙ ap (λ (x : Named). slice_set x.names c.args.i None) c.self.view_is

pub returns-in-Some-Own-clause-ends : goal.returns-in-Some-Own-clause-ends
returns-in-Some-Own-clause-ends c =
    λ site other n.
    let was = c.lift.ensures.was in
    let is = c.in-Some-Own.is in
    let field = c.in-Some-Own.field-0-is in
    let site_is = c.in-Some-Own.site-is in
    let at : slice_get c.self.inside.held.items c.args.i ≡ Some (Some (Own c.in-Some-Own.site)) = cc in
    let names : names_in c.self.inside.table.entries c.self.inside.held.items ≡ c.args.self.now.names = ap (λ (x : Named). x.names) c.self.view_is in
    let own = held_name c.self.inside.held.items c.self.inside.table.entries c.args.i (Own c.in-Some-Own.site) c.in-Some-Own.site at refl in
    ap (λ (x : Named). lookup (bytes_eq other) x.ends) c.self.view_is
    ∙ own_ends c.args.heir site other (lookup (bytes_eq other) c.args.self.now.ends)
    (λ e. own_not_alone c.self.inside.held.items c.self.inside.table.entries c.self.invariant c.args.i c.in-Some-Own.site at
    (λ j m. no_heir c.args.self.now.names c.args.i c.args.heir e c.requires.heir c.in-Some-Own.site (subst (λ ns. HasName ns c.args.i c.in-Some-Own.site) names own) j (subst (λ ns. HasName ns j c.in-Some-Own.site) names m)))

pub remove-requires-clause-within : goal.remove-requires-clause-within
remove-requires-clause-within c =
    let was = c.lift.ensures.was in
    let is = c.in-Some-Shared.is in
    let field = c.in-Some-Shared.field-0-is in
    let k_is = c.in-Some-Shared.k-is in
    let at : slice_get c.self.inside.held.items c.args.i ≡ Some (Some (Shared c.in-Some-Shared.k)) = cc in
    let s = c.self.invariant.shared c.args.i c.in-Some-Shared.k at in
    within c.self.inside.table.entries c.in-Some-Shared.k s.0 s.1

pub remove-requires-clause-holders : goal.remove-requires-clause-holders
remove-requires-clause-holders c =
    λ m p e.
    let w = within c.self.inside.held.items p.1.holder (Some (Shared m)) (c.self.invariant.holder m p e) in
    let l : length c.lift.new.held.items ≡ length c.self.inside.held.items = ap length c.lift.ensures.held ∙ length_set c.self.inside.held.items c.args.i None in
    omega (arith, w, l)

pub inherit-requires-clause-within : goal.inherit-requires-clause-within
inherit-requires-clause-within c =
    let was = c.lift.ensures.was in
    let is = c.in-Some-Shared.is in
    let field = c.in-Some-Shared.field-0-is in
    let k_is = c.in-Some-Shared.k-is in
    let at : slice_get c.self.inside.held.items c.args.i ≡ Some (Some (Shared c.in-Some-Shared.k)) = cc in
    let s = c.self.invariant.shared c.args.i c.in-Some-Shared.k at in
    within c.self.inside.table.entries c.in-Some-Shared.k s.0 s.1

pub inherit-requires-clause-own : goal.inherit-requires-clause-own
inherit-requires-clause-own c =
    let was = c.lift.ensures.was in
    let is = c.in-Some-Shared.is in
    let field = c.in-Some-Shared.field-0-is in
    let k_is = c.in-Some-Shared.k-is in
    let at : slice_get c.self.inside.held.items c.args.i ≡ Some (Some (Shared c.in-Some-Shared.k)) = cc in
    let names : c.args.self.now.names ≡ names_in c.self.inside.table.entries c.self.inside.held.items = ap (λ (x : Named). x.names) (sym c.self.view_is) in
    let heir = an_heir c.args.self.now.names c.args.i c.in-Some.j c.args.heir c.in-Some.is c.requires.heir c.requires.named.0 c.requires.named.1 in
    let own = heir_owns c.self.inside.held.items c.self.inside.table.entries c.self.invariant c.args.i c.in-Some-Shared.k c.in-Some.j c.requires.named.0 at
    (subst (λ ns. HasName ns c.args.i c.requires.named.0) names c.requires.named.1) heir.0 (subst (λ ns. HasName ns c.in-Some.j c.requires.named.0) names heir.1) in
    (c.requires.named.0, ap (λ xs. slice_get xs c.in-Some.j) c.lift.ensures.held ∙ get_set_other c.self.inside.held.items c.args.i c.in-Some.j None heir.0 ∙ own)

pub invariant_of-self-in-None-heir : goal.invariant_of-self-in-None-heir
invariant_of-self-in-None-heir c =
    let was = c.lift.ensures.was in
    let is = c.in-Some-Shared.is in
    let field = c.in-Some-Shared.field-0-is in
    let k_is = c.in-Some-Shared.k-is in
    let at : slice_get c.self.inside.held.items c.args.i ≡ Some (Some (Shared c.in-Some-Shared.k)) = cc in
    let names : names_in c.self.inside.table.entries c.self.inside.held.items ≡ c.args.self.now.names = ap (λ (x : Named). x.names) c.self.view_is in
    (removed_taken c.self.inside.held.items _ _ c.self.inside.table.entries _ c.self.invariant c.args.i c.in-Some-Shared.k c.remove.result at c.lift.ensures.held
    (λ n j m. no_heir c.args.self.now.names c.args.i c.args.heir c.in-None-heir.is c.requires.heir c.remove.result (subst (λ ns. HasName ns c.args.i c.remove.result) names n) j (subst (λ ns. HasName ns j c.remove.result) names m))
    c.remove.ensures.removed c.remove.ensures.unique c.remove.ensures.lookups).0.holds

pub returns-in-None-heir-clause-site : goal.returns-in-None-heir-clause-site
returns-in-None-heir-clause-site c =
    let was = c.lift.ensures.was in
    let is = c.in-Some-Shared.is in
    let field = c.in-Some-Shared.field-0-is in
    let k_is = c.in-Some-Shared.k-is in
    let at : slice_get c.self.inside.held.items c.args.i ≡ Some (Some (Shared c.in-Some-Shared.k)) = cc in
    let names : names_in c.self.inside.table.entries c.self.inside.held.items ≡ c.args.self.now.names = ap (λ (x : Named). x.names) c.self.view_is in
    subst (λ ns. HasName ns c.args.i c.remove.result) names (removed_taken c.self.inside.held.items _ _ c.self.inside.table.entries _ c.self.invariant c.args.i c.in-Some-Shared.k c.remove.result at c.lift.ensures.held
    (λ n j m. no_heir c.args.self.now.names c.args.i c.args.heir c.in-None-heir.is c.requires.heir c.remove.result (subst (λ ns. HasName ns c.args.i c.remove.result) names n) j (subst (λ ns. HasName ns j c.remove.result) names m))
    c.remove.ensures.removed c.remove.ensures.unique c.remove.ensures.lookups).1

pub returns-in-None-heir-clause-names : goal.returns-in-None-heir-clause-names
returns-in-None-heir-clause-names c =
    let was = c.lift.ensures.was in
    let is = c.in-Some-Shared.is in
    let field = c.in-Some-Shared.field-0-is in
    let k_is = c.in-Some-Shared.k-is in
    let at : slice_get c.self.inside.held.items c.args.i ≡ Some (Some (Shared c.in-Some-Shared.k)) = cc in
    let names : names_in c.self.inside.table.entries c.self.inside.held.items ≡ c.args.self.now.names = ap (λ (x : Named). x.names) c.self.view_is in
    (removed_taken c.self.inside.held.items _ _ c.self.inside.table.entries _ c.self.invariant c.args.i c.in-Some-Shared.k c.remove.result at c.lift.ensures.held
    (λ n j m. no_heir c.args.self.now.names c.args.i c.args.heir c.in-None-heir.is c.requires.heir c.remove.result (subst (λ ns. HasName ns c.args.i c.remove.result) names n) j (subst (λ ns. HasName ns j c.remove.result) names m))
    c.remove.ensures.removed c.remove.ensures.unique c.remove.ensures.lookups).0.names_are ∙ ap (λ ns. slice_set ns c.args.i None) names

pub returns-in-None-heir-clause-ends : goal.returns-in-None-heir-clause-ends
returns-in-None-heir-clause-ends c =
    λ site other n.
    let was = c.lift.ensures.was in
    let is = c.in-Some-Shared.is in
    let field = c.in-Some-Shared.field-0-is in
    let k_is = c.in-Some-Shared.k-is in
    let at : slice_get c.self.inside.held.items c.args.i ≡ Some (Some (Shared c.in-Some-Shared.k)) = cc in
    let names : names_in c.self.inside.table.entries c.self.inside.held.items ≡ c.args.self.now.names = ap (λ (x : Named). x.names) c.self.view_is in
    let ends : ends_list c.self.inside.table.entries ≡ c.args.self.now.ends = ap (λ (x : Named). x.ends) c.self.view_is in
    let here = held_name c.self.inside.held.items c.self.inside.table.entries c.args.i (Shared c.in-Some-Shared.k) c.remove.result at (get_keys c.self.inside.table.entries c.in-Some-Shared.k (c.remove.result, c.remove.ensures.removed.0) c.remove.ensures.removed.1) in
    let same = one_name c.args.self.now.names c.args.i c.remove.result site (subst (λ ns. HasName ns c.args.i c.remove.result) names here) n in
    lookup_ends (bytes_eq other) c.remove.new.table.entries
    ∙ ap (option_map (λ (g : Group). g.ends)) (c.remove.ensures.lookups other)
    ∙ taken_lookup c.remove.result other (lookup (bytes_eq other) c.self.inside.table.entries)
    ∙ ap (taken_ends None c.remove.result other) (sym (lookup_ends (bytes_eq other) c.self.inside.table.entries) ∙ ap (lookup (bytes_eq other)) ends)
    ∙ ap₂ (λ o s. taken_ends o s other (lookup (bytes_eq other) c.args.self.now.ends)) (sym c.in-None-heir.is) same

pub invariant_of-self-in-Some : goal.invariant_of-self-in-Some
invariant_of-self-in-Some c =
    let was = c.lift.ensures.was in
    let is = c.in-Some-Shared.is in
    let field = c.in-Some-Shared.field-0-is in
    let k_is = c.in-Some-Shared.k-is in
    let at : slice_get c.self.inside.held.items c.args.i ≡ Some (Some (Shared c.in-Some-Shared.k)) = cc in
    let names : c.args.self.now.names ≡ names_in c.self.inside.table.entries c.self.inside.held.items = ap (λ (x : Named). x.names) (sym c.self.view_is) in
    let heir = an_heir c.args.self.now.names c.args.i c.in-Some.j c.args.heir c.in-Some.is c.requires.heir c.requires.named.0 c.requires.named.1 in
    (inherit_taken c.self.inside.held.items _ _ c.self.inside.table.entries _ c.self.invariant c.args.i c.in-Some-Shared.k c.in-Some.j c.requires.named.0 at c.lift.ensures.held
    (subst (λ ns. HasName ns c.args.i c.requires.named.0) names c.requires.named.1) (heir.0, subst (λ ns. HasName ns c.in-Some.j c.requires.named.0) names heir.1)
    c.inherit.ensures.held c.inherit.ensures.entries).0.holds

pub returns-in-Some-clause-site : goal.returns-in-Some-clause-site
returns-in-Some-clause-site c =
    let was = c.lift.ensures.was in
    let is = c.in-Some-Shared.is in
    let field = c.in-Some-Shared.field-0-is in
    let k_is = c.in-Some-Shared.k-is in
    let at : slice_get c.self.inside.held.items c.args.i ≡ Some (Some (Shared c.in-Some-Shared.k)) = cc in
    let names : c.args.self.now.names ≡ names_in c.self.inside.table.entries c.self.inside.held.items = ap (λ (x : Named). x.names) (sym c.self.view_is) in
    let heir = an_heir c.args.self.now.names c.args.i c.in-Some.j c.args.heir c.in-Some.is c.requires.heir c.requires.named.0 c.requires.named.1 in
    let own = heir_owns c.self.inside.held.items c.self.inside.table.entries c.self.invariant c.args.i c.in-Some-Shared.k c.in-Some.j c.requires.named.0 at
    (subst (λ ns. HasName ns c.args.i c.requires.named.0) names c.requires.named.1) heir.0 (subst (λ ns. HasName ns c.in-Some.j c.requires.named.0) names heir.1) in
    let there = ap (λ xs. slice_get xs c.in-Some.j) c.lift.ensures.held ∙ get_set_other c.self.inside.held.items c.args.i c.in-Some.j None heir.0 ∙ own in
    let both : Some (Some (Own c.inherit.result)) ≡ Some (Some (Own c.requires.named.0)) = sym c.inherit.ensures.site ∙ there in
    let same : c.requires.named.0 ≡ c.inherit.result = cc in
    subst (λ s. HasName c.args.self.now.names c.args.i s) same c.requires.named.1

pub returns-in-Some-clause-names : goal.returns-in-Some-clause-names
returns-in-Some-clause-names c =
    let was = c.lift.ensures.was in
    let is = c.in-Some-Shared.is in
    let field = c.in-Some-Shared.field-0-is in
    let k_is = c.in-Some-Shared.k-is in
    let at : slice_get c.self.inside.held.items c.args.i ≡ Some (Some (Shared c.in-Some-Shared.k)) = cc in
    let names : c.args.self.now.names ≡ names_in c.self.inside.table.entries c.self.inside.held.items = ap (λ (x : Named). x.names) (sym c.self.view_is) in
    let heir = an_heir c.args.self.now.names c.args.i c.in-Some.j c.args.heir c.in-Some.is c.requires.heir c.requires.named.0 c.requires.named.1 in
    (inherit_taken c.self.inside.held.items _ _ c.self.inside.table.entries _ c.self.invariant c.args.i c.in-Some-Shared.k c.in-Some.j c.requires.named.0 at c.lift.ensures.held
    (subst (λ ns. HasName ns c.args.i c.requires.named.0) names c.requires.named.1) (heir.0, subst (λ ns. HasName ns c.in-Some.j c.requires.named.0) names heir.1)
    c.inherit.ensures.held c.inherit.ensures.entries).0.names_are ∙ ap (λ ns. slice_set ns c.args.i None) (sym names)

pub returns-in-Some-clause-ends : goal.returns-in-Some-clause-ends
returns-in-Some-clause-ends c =
    λ site other n.
    let was = c.lift.ensures.was in
    let is = c.in-Some-Shared.is in
    let field = c.in-Some-Shared.field-0-is in
    let k_is = c.in-Some-Shared.k-is in
    let at : slice_get c.self.inside.held.items c.args.i ≡ Some (Some (Shared c.in-Some-Shared.k)) = cc in
    let names : c.args.self.now.names ≡ names_in c.self.inside.table.entries c.self.inside.held.items = ap (λ (x : Named). x.names) (sym c.self.view_is) in
    let heir = an_heir c.args.self.now.names c.args.i c.in-Some.j c.args.heir c.in-Some.is c.requires.heir c.requires.named.0 c.requires.named.1 in
    let taken = inherit_taken c.self.inside.held.items _ _ c.self.inside.table.entries _ c.self.invariant c.args.i c.in-Some-Shared.k c.in-Some.j c.requires.named.0 at c.lift.ensures.held
    (subst (λ ns. HasName ns c.args.i c.requires.named.0) names c.requires.named.1) (heir.0, subst (λ ns. HasName ns c.in-Some.j c.requires.named.0) names heir.1)
    c.inherit.ensures.held c.inherit.ensures.entries in
    ap (lookup (bytes_eq other)) (taken.1 ∙ ap (λ (x : Named). x.ends) c.self.view_is)
    ∙ ap (λ o. taken_ends o site other (lookup (bytes_eq other) c.args.self.now.ends)) (sym c.in-Some.is)
