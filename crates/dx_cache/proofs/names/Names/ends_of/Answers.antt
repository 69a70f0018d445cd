use Rattle.std.proofs.Common.{◌∙◌, sym, ap}
use Rattle.std.specs.Prelude.{bytes_eq}
use Rattle.std.specs.Option.{option_map}
use Rattle.std.specs.Map.{lookup}
use Rattle.dx_cache.specs.declared.names.Group.{Group}
use Rattle.dx_cache.specs.Named.{Named}
use Rattle.dx_cache.proofs.Lists.{none_some}
use Rattle.dx_cache.proofs.Holding.{lookup_ends}
use Rattle.dx_cache.proofs.names.Names.ends_of.Goals as goal

pub returns-in-None : goal.returns-in-None
returns-in-None c =
    let none = none_some (lookup (bytes_eq c.args.site.now) c.self.inside.table.entries) c.in-None.ensures.found in
    sym (ap (option_map (λ (g : Group). g.ends)) none) ∙ sym (lookup_ends (bytes_eq c.args.site.now) c.self.inside.table.entries) ∙ ap (λ (x : Named). lookup (bytes_eq c.args.site.now) x.ends) c.self.view_is

pub returns-in-Some : goal.returns-in-Some
returns-in-Some c =
    ap (option_map (λ (g : Group). g.ends)) (sym c.index.ensures ∙ c.in-Some.ensures.value)
    ∙ sym (lookup_ends (bytes_eq c.args.site.now) c.self.inside.table.entries) ∙ ap (λ (x : Named). lookup (bytes_eq c.args.site.now) x.ends) c.self.view_is
