use Rattle.std.proofs.Common.{◌<◌, ◌∙◌, sym, ap, List, get_or, length, arith}
use Rattle.dx_ast.specs.declared.statements.Assign.{Assign}
use Rattle.std.proofs.lemmas.List.{length-map}
use Rattle.dx_definitions.specs.Index.{text_of}
use Rattle.dx_definitions.proofs.Finding.{definition_at}
use Rattle.dx_macros.proofs.dictionary.Dictionary.definition.Goals as goal

pub returns : goal.returns
returns c =
    let below : c.args.i < length c.args.self.now.definitions.items = omega (arith, c.requires, length-map c.args.self.now.definitions.items text_of) in
    sym (definition_at c.args.self.now.definitions.items c.args.i c.index-as_slice-i.result below (c.index-as_slice-i.is ∙ ap (λ (xs : List Assign). get_or xs c.args.i c.index-as_slice-i.result) c.as_slice.ensures))
