use Rattle.std.proofs.Common.{List, map, subst, sym}
use Rattle.dx_ast.specs.declared.statements.Assign.{Assign}
use Rattle.dx_definitions.specs.Constants.{AreNoted}
use Rattle.dx_definitions.specs.Index.{text_of, index_of, IsIndexed}
use Rattle.dx_definitions.proofs.definitions.Definitions.reserve.Goals as goal

pub invariant_of-self : goal.invariant_of-self
invariant_of-self c =
    subst (λ (xs : List Assign). IsIndexed c.self.inside.noted (index_of c.self.inside.positions) (map text_of xs) × AreNoted (map text_of xs) c.self.inside.constants.items) (sym c.reserve.ensures.items) c.self.invariant
