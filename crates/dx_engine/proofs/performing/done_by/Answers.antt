use Rattle.std.proofs.Common.{length, subst}
use Rattle.dx_graph.specs.Graph.{node_at}
use Rattle.dx_demand.specs.Memo.{answers_of}
use Rattle.dx_looking.specs.Setting.{nodes_in}
use Rattle.dx_effects.specs.Coming.{ArgumentsFit, ArgumentsValued}
use Rattle.dx_performing.specs.Acts.{act}
use Rattle.dx_engine.specs.Doing.{place_of_node}
use Rattle.dx_engine.proofs.Acting.{values_fit, act_fits}
use Rattle.dx_engine.proofs.performing.done_by.Goals as goal

pub acted-requires-clause-values : goal.acted-requires-clause-values
acted-requires-clause-values c =
    let fit = subst (ArgumentsFit c.args.setup.now (length (node_at (nodes_in c.args.setup.now) c.args.n).inputs) c.args.at.now) c.in-Values.is c.requires.arguments in
    values_fit c.args.setup.now c.args.n c.requires.node c.args.effect c.requires.what c.in-Values.values fit.0

pub node_of_refusal-requires-clause-valued : goal.node_of_refusal-requires-clause-valued
node_of_refusal-requires-clause-valued c = subst (ArgumentsValued (answers_of c.args.at.now.seen.memo) (node_at (nodes_in c.args.setup.now) c.args.n).inputs) c.in-Refused.is c.requires.valued

pub node_of_selector-requires-clause-selects : goal.node_of_selector-requires-clause-selects
node_of_selector-requires-clause-selects c =
    let fit = subst (ArgumentsFit c.args.setup.now (length (node_at (nodes_in c.args.setup.now) c.args.n).inputs) c.args.at.now) c.in-SelectorRefused.is c.requires.arguments in
    fit.1

pub returns-in-Values-clause-fits : goal.returns-in-Values-clause-fits
returns-in-Values-clause-fits c =
    let fit = subst (ArgumentsFit c.args.setup.now (length (node_at (nodes_in c.args.setup.now) c.args.n).inputs) c.args.at.now) c.in-Values.is c.requires.arguments in
    act_fits c.args.setup.now c.args.at.now (act c.args.effect (place_of_node c.args.setup.now c.args.n) c.in-Values.values) c.in-Values.terms c.args.n fit.1 c.requires.node c.acted.result c.acted.ensures.does
