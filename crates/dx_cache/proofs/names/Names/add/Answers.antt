use Rattle.std.proofs.Common.{◌∙◌, ap, Some, None, refl, arith}
use Rattle.std.specs.Prelude.{slice_get, slice_set, bytes_eq}
use Rattle.std.specs.Map.{lookup}
use Rattle.dx_cache.proofs.SlotLaws.{within}
use Rattle.dx_cache.specs.Named.{Named, added_ends}
use Rattle.dx_cache.proofs.Holding.{free_held, held_holds}
use Rattle.dx_cache.proofs.names.Names.add.Goals as goal

pub hold-requires-clause-within : goal.hold-requires-clause-within
hold-requires-clause-within c =
    let free = free_held c.self.inside.held.items c.self.inside.table.entries c.self.invariant c.args.i (ap (λ (x : Named). slice_get x.names c.args.i) c.self.view_is ∙ c.requires.free) in
    let w = within c.self.inside.held.items c.args.i None free in
    omega (arith, w)

pub invariant_of-self : goal.invariant_of-self
invariant_of-self c =
    let free = free_held c.self.inside.held.items c.self.inside.table.entries c.self.invariant c.args.i (ap (λ (x : Named). slice_get x.names c.args.i) c.self.view_is ∙ c.requires.free) in
    (held_holds c.self.inside.held.items c.hold.new.held.items c.self.inside.table.entries c.hold.new.table.entries c.self.invariant c.args.i c.args.site free _ refl c.hold.ensures.holds c.hold.ensures.unique).holds

pub returns-clause-names : goal.returns-clause-names
returns-clause-names c =
    let free = free_held c.self.inside.held.items c.self.inside.table.entries c.self.invariant c.args.i (ap (λ (x : Named). slice_get x.names c.args.i) c.self.view_is ∙ c.requires.free) in
    (held_holds c.self.inside.held.items c.hold.new.held.items c.self.inside.table.entries c.hold.new.table.entries c.self.invariant c.args.i c.args.site free _ refl c.hold.ensures.holds c.hold.ensures.unique).names_are
    ∙ ap (λ (x : Named). slice_set x.names c.args.i (Some c.args.site)) c.self.view_is

pub returns-clause-ends : goal.returns-clause-ends
returns-clause-ends c =
    λ other.
    let free = free_held c.self.inside.held.items c.self.inside.table.entries c.self.invariant c.args.i (ap (λ (x : Named). slice_get x.names c.args.i) c.self.view_is ∙ c.requires.free) in
    (held_holds c.self.inside.held.items c.hold.new.held.items c.self.inside.table.entries c.hold.new.table.entries c.self.invariant c.args.i c.args.site free _ refl c.hold.ensures.holds c.hold.ensures.unique).ends_are other
    ∙ ap (λ (x : Named). added_ends c.args.site other (lookup (bytes_eq other) x.ends)) c.self.view_is
