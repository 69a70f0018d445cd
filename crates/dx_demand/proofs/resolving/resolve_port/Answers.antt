use Rattle.dx_demand.specs.Memo.{formed_of}
use Rattle.std.proofs.Common.{◌∙◌, sym}
use Rattle.dx_graph.specs.GraphView.{graph_of}
use Rattle.dx_meaning.proofs.Formed.{after_same}
use Rattle.dx_demand.specs.Forming.{formings, port_forms}
use Rattle.dx_demand.specs.Memo.{answers_of, input_at}
use Rattle.dx_demand.proofs.Calls.{valued_known}
use Rattle.dx_demand.proofs.resolving.resolve_port.Goals as goal

pub returns-in-Some-clause-fits : goal.returns-in-Some-clause-fits
returns-in-Some-clause-fits g c = c.resolved.ensures.fits (graph_of c.args.g.now).nodes c.args.tags.now (g.G.Given.told c.args.given.now) c.args.seen.now.memo (c.requires.seen.memo.answers c.args.root c.in-Some.a (sym c.answer.ensures ∙ c.in-Some.is))

pub returns-in-Some-clause-found : goal.returns-in-Some-clause-found
returns-in-Some-clause-found g c = λ cl. c.resolved.ensures.found c.args.links.now.links c.args.tags.now (formed_of c.args.seen.now.memo) (cl.memo.answers c.args.root c.in-Some.a (sym c.answer.ensures ∙ c.in-Some.is))

pub returns-in-Some-clause-forms : goal.returns-in-Some-clause-forms
returns-in-Some-clause-forms g c = λ s sees seen f.
    let nodes = (graph_of c.args.g.now).nodes in
    sym (after_same (port_forms s nodes c.args.root) (formings nodes c.args.tags.now c.args.seen.now.memo) (f.memo.answers c.args.root c.in-Some.a (sym c.answer.ensures ∙ c.in-Some.is)))

pub returns-in-Some-clause-valued : goal.returns-in-Some-clause-valued
returns-in-Some-clause-valued g c =
    let answers = answers_of c.args.seen.now.memo in
    c.resolved.ensures.valued answers (input_at c.args.root) (valued_known answers c.args.root c.in-Some.a (sym c.answer.ensures ∙ c.in-Some.is))

pub returns-in-Some-clause-halted : goal.returns-in-Some-clause-halted
returns-in-Some-clause-halted g c = λ s sees seen. c.resolved.ensures.halts s (graph_of c.args.g.now).nodes (input_at c.args.root)
