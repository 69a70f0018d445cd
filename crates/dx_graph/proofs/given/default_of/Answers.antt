use Rattle.std.proofs.Common.{Option, subst}
use Rattle.std.proofs.Math.Logic.{∥∥₁_map}
use Rattle.dx_ast.specs.declared.constants.Const.{Const}
use Rattle.dx_ast.specs.Lawful.{IsLawfulDefault}
use Rattle.dx_graph.proofs.given.default_of.Goals as goal

pub returns-in-Some-clause-fits : goal.returns-in-Some-clause-fits
returns-in-Some-clause-fits c = λ nodes h. ∥∥₁_map h (λ l. subst (λ (o : Option Const). IsLawfulDefault o) c.in-Some.is l.1)
