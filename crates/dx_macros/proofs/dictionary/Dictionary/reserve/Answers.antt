use Rattle.std.proofs.Common.{List, subst, sym}
use Rattle.dx_ast.specs.declared.statements.Assign.{Assign}
use Rattle.dx_macros.specs.Shown.{AreLawfulDefinitions}
use Rattle.dx_macros.proofs.dictionary.Dictionary.reserve.Goals as goal

pub invariant_of-self : goal.invariant_of-self
invariant_of-self c = record {
  lawful_macros = c.args.self.now.lawful_macros;
  lawful_definitions = subst (λ (xs : List Assign). ∥ AreLawfulDefinitions xs ∥₁) (sym c.reserve.ensures.items) c.args.self.now.lawful_definitions;
}
