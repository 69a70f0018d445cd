use Rattle.std.proofs.Common.{◌∙◌, sym, ap, List, get_or}
use Rattle.dx_ast.specs.declared.statements.Assign.{Assign}
use Rattle.dx_definitions.proofs.Finding.{definition_at}
use Rattle.dx_definitions.proofs.definitions.Definitions.at.Goals as goal

pub returns : goal.returns
returns c =
    sym (definition_at c.args.self.now.items c.args.i c.index-as_slice-i.result c.requires (c.index-as_slice-i.is ∙ ap (λ (xs : List Assign). get_or xs c.args.i c.index-as_slice-i.result) c.as_slice.ensures))
