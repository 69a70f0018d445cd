use Rattle.std.proofs.Common.{◌∙◌, ℕ, List, sym, ap, map}
use Rattle.std.specs.Prelude.{slice_get, bytes_eq}
use Rattle.std.specs.Map.{lookup}
use Rattle.dx_cache.specs.declared.chains.Ends.{Ends}
use Rattle.dx_cache.specs.Named.{Named}
use Rattle.dx_cache.proofs.Holding.{ends_here}
use Rattle.dx_cache.proofs.names.Names.ends_at.Goals as goal

pub returns : goal.returns
returns c = record {
  ends = λ site n.
      ap (λ (x : Named). lookup (bytes_eq site) x.ends) (sym c.self.view_is)
      ∙ ends_here c.self.inside.table.entries c.self.invariant.unique c.place-k.result c.index.result.now site c.index.ensures
      (ap (λ (x : Named). slice_get (map (λ (p : List ℕ × Ends). p.0) x.ends) c.place-k.result) c.self.view_is ∙ c.place-k.ensures.place site n);
}
