use Rattle.std.proofs.Common.{sym}
use Rattle.dx_compute_meaning.specs.Shown.{shown_arrays}
use Rattle.dx_compute.proofs.Sources.{alike_at}
use Rattle.dx_compute.proofs.Tables.{table_at}
use Rattle.dx_compute.proofs.source.GivenColumns.table.Goals as goal

pub table_of-requires : goal.table_of-requires
table_of-requires c = record { alike = alike_at (shown_arrays c.args.self.now.arrays.now) c.args.self.now.items c.args.k c.in-Some.array.now c.args.self.now.alike (sym c.in-Some.ensures) }

pub returns-in-Some : goal.returns-in-Some
returns-in-Some c = table_at (shown_arrays c.args.self.now.arrays.now) c.args.self.now.items c.args.k c.in-Some.array.now c.table_of.result (sym c.in-Some.ensures) c.table_of.ensures
