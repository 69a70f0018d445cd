use Rattle.std.proofs.Common.{◌≡◌, ◌∙◌, ℕ, List, sym, ap, Some, map}
use Rattle.std.specs.Prelude.{slice_get, bytes_eq}
use Rattle.std.specs.Option.{option_map}
use Rattle.std.specs.Map.{lookup}
use Rattle.std.specs.Cmp.Lexicographic.{nat_list_eq_equiv}
use Rattle.indexmap.specs.IndexMap.{set_value_at}
use Rattle.indexmap.proofs.CallerLemmas.{updates-with_value_at}
use Rattle.dx_cache.specs.declared.chains.Ends.{Ends}
use Rattle.dx_cache.specs.declared.names.Group.{Group}
use Rattle.dx_cache.specs.Named.{Named, given_ends}
use Rattle.dx_cache.specs.Held.{name_in}
use Rattle.dx_cache.proofs.Lists.{entry_of_value, get_keys, keys_set, keys_map}
use Rattle.dx_cache.proofs.Holding.{lookup_ends, given_held, given_lookup}
use Rattle.dx_cache.proofs.names.Names.set_ends.Goals as goal

pub invariant_of-self : goal.invariant_of-self
invariant_of-self c =
    let e = entry_of_value c.self.inside.table.entries c.place-k.result c.index.result.now c.index.ensures in
    given_held c.self.inside.held.items c.self.inside.table.entries c.self.invariant c.place-k.result (e.0, c.index.result.now) c.args.ends e.1

pub returns-clause-names : goal.returns-clause-names
returns-clause-names c =
    ap (λ ks. map (name_in ks) c.self.inside.held.items) (keys_set c.self.inside.table.entries c.place-k.result (record { holder = c.index.result.now.holder; ends = c.args.ends }))
    ∙ ap (λ (x : Named). x.names) c.self.view_is

pub returns-clause-ends : goal.returns-clause-ends
returns-clause-ends c =
    λ site other n.
    let g : Group = record { holder = c.index.result.now.holder; ends = c.args.ends } in
    let e = entry_of_value c.self.inside.table.entries c.place-k.result c.index.result.now c.index.ensures in
    let key : Some e.0 ≡ Some site = sym (get_keys c.self.inside.table.entries c.place-k.result (e.0, c.index.result.now) e.1) ∙ ap (λ ks. slice_get ks c.place-k.result) (sym (keys_map (λ (x : Group). x.ends) c.self.inside.table.entries))
    ∙ ap (λ (x : Named). slice_get (map (λ (p : List ℕ × Ends). p.0) x.ends) c.place-k.result) c.self.view_is ∙ c.place-k.ensures.place site n in
    let same : e.0 ≡ site = cc in
    let at : slice_get c.self.inside.table.entries c.place-k.result ≡ Some (site, c.index.result.now) = e.1 ∙ ap (λ s. Some (s, c.index.result.now)) same in
    let now = updates-with_value_at c.self.inside.table c.place-k.result g nat_list_eq_equiv c.self.invariant.unique site c.index.result.now at in
    lookup_ends (bytes_eq other) (set_value_at c.self.inside.table.entries c.place-k.result g)
    ∙ ap (option_map (λ (x : Group). x.ends)) (now.0 other)
    ∙ given_lookup site other g (lookup (bytes_eq other) c.self.inside.table.entries)
    ∙ ap (given_ends site c.args.ends other) (sym (lookup_ends (bytes_eq other) c.self.inside.table.entries) ∙ ap (λ (x : Named). lookup (bytes_eq other) x.ends) c.self.view_is)
