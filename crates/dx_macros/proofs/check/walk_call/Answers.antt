use Rattle.std.proofs.Common.{◌∙◌, [], refl}
use Rattle.dx_ast.specs.Plain.{plain_call}
use Rattle.dx_macros.specs.Dictionary.{of_call}
use Rattle.dx_macros.specs.DictionaryView.{dictionary_of}
use Rattle.dx_macros.proofs.Doing.{finds, reads, started}
use Rattle.dx_macros.proofs.check.walk_call.Goals as goal

pub returns-clause-finds : goal.returns-clause-finds
returns-clause-finds c =
    let d = dictionary_of c.args.d.now in
    finds c.run.result _ _
    (c.in_ok-m.ensures.means ∙ started d c.text_at_top-text.result c.len-position.result 0 [] (of_call (plain_call c.args.c.now)) c.text_at_top-text.ensures c.len-position.ensures refl refl)
    c.run.ensures

pub returns-clause-reads : goal.returns-clause-reads
returns-clause-reads c =
    let d = dictionary_of c.args.d.now in
    reads c.run.result _ _
    (c.in_ok-m.ensures.means ∙ started d c.text_at_top-text.result c.len-position.result 0 [] (of_call (plain_call c.args.c.now)) c.text_at_top-text.ensures c.len-position.ensures refl refl)
    c.run.ensures
