use Rattle.std.proofs.Common.{◌<◌, ◌∙◌, sym, ap, subst}
use Rattle.dx_ast.specs.Syntax as syntax
use Rattle.dx_ast.specs.Plain.{plain_expr}
use Rattle.dx_definitions.specs.Index.{text_of}
use Rattle.dx_graph.specs.GraphView.{graph_of}
use Rattle.dx_texts.specs.Marks.{TopWalked}
use Rattle.dx_graph.proofs.Growing.{if_ok}
use Rattle.dx_expansion.proofs.Driving.{value_lawful, names_lawful, defined, renamed}
use Rattle.dx_texts.proofs.Measures.{expr_name}
use Rattle.dx_texts.proofs.Parts.{top_name}
use Rattle.dx_expansion.proofs.driver.expand_definition.Goals as goal

pub expand_assign-requires-clause-lawful : goal.expand_assign-requires-clause-lawful
expand_assign-requires-clause-lawful c = value_lawful c.args.w.now.dictionary.now c.args.i c.definition-a.result.now (subst (λ n. c.args.i < n) c.requires.rests.places c.requires.below) c.definition-a.ensures

pub expand_assign-requires-clause-names : goal.expand_assign-requires-clause-names
expand_assign-requires-clause-names c = names_lawful c.args.w.now.dictionary.now c.args.i c.definition-a.result.now (subst (λ n. c.args.i < n) c.requires.rests.places c.requires.below) c.definition-a.ensures

pub expand_assign-requires-clause-walked : goal.expand_assign-requires-clause-walked
expand_assign-requires-clause-walked c = subst (TopWalked c.args.w.now c.args.i) (sym c.definition-a.ensures) c.requires.walked

pub top_meaning-requires : goal.top_meaning-requires
top_meaning-requires c =
    let is = ap plain_expr c.in-Name.is ∙ expr_name c.in-Name.name ∙ ap syntax.Name (sym c.bytes.ensures) in
    record { walked = top_name c.args.w.now c.args.i (text_of c.definition-a.result.now) c.bytes.result.now is (subst (TopWalked c.args.w.now c.args.i) (sym c.definition-a.ensures) c.requires.walked) }

pub returns-in-Name-clause-gives : goal.returns-in-Name-clause-gives
returns-in-Name-clause-gives c =
    let is = ap plain_expr c.in-Name.is ∙ expr_name c.in-Name.name ∙ ap syntax.Name (sym c.bytes.ensures) in
    renamed c.args.w.now c.args.i c.definition-a.result.now c.bytes.result.now c.top_meaning.result (graph_of c.args.graph.now).nodes c.definition-a.ensures is
    (c.top_meaning.ensures (graph_of c.args.graph.now).nodes c.requires.rests.memo)

pub returns-in_default-clause-gives : goal.returns-in_default-clause-gives
returns-in_default-clause-gives c =
    if_ok c.expand_assign.result (λ r h. defined c.args.w.now c.args.i c.definition-a.result.now c.args.graph.now c.expand_assign.new.graph r c.definition-a.ensures h) c.expand_assign.ensures.expands
