use Rattle.std.proofs.Common.{sym, ap, ◌∙◌}
use Rattle.dx_slab.specs.Components.{is_of_cells}
use Rattle.dx_slab.proofs.Parting.{dropped}
use Rattle.dx_slab.proofs.components.push_cut.Goals as goal

pub returns-then-is_of_cells : goal.returns-then-is_of_cells
returns-then-is_of_cells c =
    dropped c.args.counts.now c.args.cut c.args.part.now.name c.args.part.now.position c.args.part.now.object.value c.args.own.now
    (sym c.requires.cells ∙ c.if-has_no_cells.true)
    (ap is_of_cells (sym c.role_of-role.ensures) ∙ sym c.is_of_cells.ensures ∙ c.if-is_of_cells.true)
