use Rattle.std.proofs.Common.{sym}
use Rattle.dx_compute_meaning.specs.Shown.{shown_arrays}
use Rattle.dx_compute_meaning.proofs.Places.{item_within}
use Rattle.dx_compute.proofs.given.GivenInputs.value.Goals as goal

pub value_of-requires-clause-item : goal.value_of-requires-clause-item
value_of-requires-clause-item c =
    item_within (shown_arrays c.args.self.now.arrays.now) c.args.self.now.items c.args.k c.args.item c.in-Some.array.now c.args.self.now.alike (sym c.in-Some.ensures) c.requires.item
