use Rattle.std.proofs.Common.{◌≡◌, ◌∙◌, sym, ap, Some, None, false, Option, is_some, true≢false, ◌∷◌, ◌++◌, []}
use Rattle.std.specs.Prelude.{bytes_eq, slice_set}
use Rattle.std.specs.Map.{lookup}
use Rattle.indexmap.proofs.CallerLemmas.{insert_entry-new}
use Rattle.dx_cache.specs.declared.names.Name.TheVariants.{Shared}
use Rattle.dx_cache.proofs.names.hold.Goals as goal

none_some : {A : Type 0} (o : Option A) → false ≡ is_some o → o ≡ None
none_some None h = cc
none_some (Some x) h = absurd (true≢false (sym h))

pub returns-in-Ok-clause-holds : goal.returns-in-Ok-clause-holds
returns-in-Ok-clause-holds c =
    let none = none_some (lookup (bytes_eq c.args.site) c.args.table.now.entries) c.in-None.ensures.found in
    rw none (
      c.in-Ok.ensures.entries ∙ insert_entry-new bytes_eq c.args.table.now c.args.site (record { holder = c.args.i; ends = c.no_ends.result }) none ∙ ap (λ e. c.args.table.now.entries ++ (c.args.site, record { holder = c.args.i; ends = e }) ∷ []) c.no_ends.ensures,
      c.put-in-None.ensures ∙ ap (λ k. slice_set c.args.held.now.items c.args.i (Some (Shared k))) c.len-k.ensures.len,
    )
