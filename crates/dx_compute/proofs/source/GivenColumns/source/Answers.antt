use Rattle.std.proofs.Common.{sym}
use Rattle.dx_compute_meaning.specs.Shown.{shown_arrays}
use Rattle.dx_compute.proofs.Sources.{alike_at}
use Rattle.dx_compute.proofs.source.GivenColumns.source.Goals as goal

pub source_of-requires-clause-alike : goal.source_of-requires-clause-alike
source_of-requires-clause-alike c = alike_at (shown_arrays c.args.self.now.arrays.now) c.args.self.now.items c.args.k c.in-Some.array.now c.args.self.now.alike (sym c.in-Some.ensures)
