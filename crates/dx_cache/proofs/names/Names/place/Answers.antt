use Rattle.std.proofs.Common.{◌≡◌, ◌∙◌, ◌<◌, ℕ, List, sym, ap, subst, Option, Some, map, length, arith}
use Rattle.std.specs.Prelude.{slice_get}
use Rattle.dx_cache.specs.declared.chains.Ends.{Ends}
use Rattle.dx_cache.proofs.SlotLaws.{within}
use Rattle.dx_cache.specs.declared.names.Group.{Group}
use Rattle.dx_cache.specs.declared.names.Name.{Name}
use Rattle.dx_cache.specs.Named.{Named, HasName, IsNamed}
use Rattle.dx_cache.proofs.Holding.{names_in, name_held, place_right, place_there}
use Rattle.dx_cache.proofs.names.Names.place.Goals as goal

named_within : (held : List (Option Name)) (es : List (List ℕ × Group)) (names : List (Option (List ℕ))) (i : ℕ) → names ≡ names_in es held → IsNamed names i → i < length held
named_within held es names i e n =
    let got = name_held held es i n.0 (subst (λ ns. HasName ns i n.0) e n.1) in
    within held i (Some got.0) got.1

pub place_in-requires : goal.place_in-requires
place_in-requires c =
    let w = named_within c.self.inside.held.items c.self.inside.table.entries c.args.self.now.names c.args.i (ap (λ (x : Named). x.names) (sym c.self.view_is)) c.requires.named in
    omega (arith, w)

pub unreachable-requires : goal.unreachable-requires
unreachable-requires c =
    place_there c.self.inside.held.items c.self.inside.table.entries c.self.invariant c.args.i c.requires.named.0
    (ap (λ (x : Named). slice_get x.names c.args.i) c.self.view_is ∙ c.requires.named.1) (sym c.in-None.ensures)

pub returns : goal.returns
returns c = record {
  place = λ site n.
      ap (λ (x : Named). slice_get (map (λ (p : List ℕ × Ends). p.0) x.ends) c.in-Some.k) (sym c.self.view_is)
      ∙ place_right c.self.inside.held.items c.self.inside.table.entries c.args.i c.in-Some.k site (ap (λ (x : Named). slice_get x.names c.args.i) c.self.view_is ∙ n) (sym c.in-Some.ensures);
}
