use Rattle.std.proofs.Common.{subst, sym, List, All}
use Rattle.dx_graph.specs.declared.operand.Operand.{Operand}
use Rattle.dx_graph.specs.declared.operand.Results.{Results}
use Rattle.dx_graph.specs.Operands.{OperandFits, ResultsFit}
use Rattle.dx_graph.proofs.operand.Results.at.Goals as goal

pub returns-in-One-clause-fits : goal.returns-in-One-clause-fits
returns-in-One-clause-fits c = λ nodes h. c.first_of_one.ensures.fits nodes (subst (λ (r : Results). ResultsFit nodes r) c.in-One.is h)

pub returns-in-Many-clause-fits : goal.returns-in-Many-clause-fits
returns-in-Many-clause-fits c = λ nodes h.
    c.nth.ensures.fits nodes (subst (λ (os : List Operand). All (OperandFits nodes) os) (sym c.as_slice.ensures.value) (subst (λ (r : Results). ResultsFit nodes r) c.in-Many.is h))
