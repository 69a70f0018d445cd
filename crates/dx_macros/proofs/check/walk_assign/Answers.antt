use Rattle.std.proofs.Common.{◌∙◌}
use Rattle.dx_macros.specs.DictionaryView.{dictionary_of}
use Rattle.dx_definitions.specs.Index.{text_of}
use Rattle.dx_macros.proofs.Doing.{finds, reads, started}
use Rattle.dx_macros.proofs.check.walk_assign.Goals as goal

pub returns-clause-finds : goal.returns-clause-finds
returns-clause-finds c =
    let d = dictionary_of c.args.d.now in
    finds c.run.result _ _
    (c.in_ok-m.ensures.means ∙ started d c.text_at_top-text.result c.len-position.result c.len.result c.as_slice.result.now (text_of c.args.a.now) c.text_at_top-text.ensures c.len-position.ensures c.as_slice.ensures c.len.ensures)
    c.run.ensures

pub returns-clause-reads : goal.returns-clause-reads
returns-clause-reads c =
    let d = dictionary_of c.args.d.now in
    reads c.run.result _ _
    (c.in_ok-m.ensures.means ∙ started d c.text_at_top-text.result c.len-position.result c.len.result c.as_slice.result.now (text_of c.args.a.now) c.text_at_top-text.ensures c.len-position.ensures c.as_slice.ensures c.len.ensures)
    c.run.ensures
