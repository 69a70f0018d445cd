use Rattle.std.proofs.Common.{◌≡◌}
use Rattle.dx_places.specs.Grammar.{left}
use Rattle.dx_native_grammar.specs.Grammar as spec
use Rattle.dx_native_listing.proofs.listing.attribute_table.Given as goal

abbrev pub invariant-loop-alloc : goal.invariant-loop-alloc
invariant-loop-alloc l = spec.attributes.read l.fn.cursor ≡ (spec.attributes_from l.found).read l.cursor

abbrev pub decreases-loop-alloc : goal.decreases-loop-alloc
decreases-loop-alloc l = left l.cursor
