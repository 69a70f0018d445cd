use Rattle.std.proofs.Common.{refl, inr}
use Rattle.dx_graph.specs.GraphView.{graph_of}
use Rattle.dx_demand.proofs.Memos.{same_selectors_keep}
use Rattle.dx_demand.proofs.Ports.{unnamed_rule, names_first, names_none}
use Rattle.dx_demand.proofs.Leading.{unnamed_halted}
use Rattle.dx_demand.proofs.PortSteps.{nodes_of}
use Rattle.dx_demand.specs.Forming.{formings}
use Rattle.dx_demand.proofs.FormedPorts.{unnamed_formed}
use Rattle.dx_demand.proofs.Growing.{on_ok_with}
use Rattle.dx_demand.proofs.Calls.{selectors_kept}
use Rattle.dx_demand.proofs.step.called_step.Goals as goal

pub import_step-requires-clause-selects : goal.import_step-requires-clause-selects
import_step-requires-clause-selects g c = names_first c.args.called (cc)

pub returns-else-has_name-clause-kept : goal.returns-else-has_name-clause-kept
returns-else-has_name-clause-kept g c = same_selectors_keep c.args.memo.now c.module_step.new.memo c.module_step.ensures.selectors

pub returns-else-has_name-clause-fits : goal.returns-else-has_name-clause-fits
returns-else-has_name-clause-fits g c = c.module_step.ensures.fits (g.G.Given.told c.args.given.now)

pub returns-else-has_name-clause-right : goal.returns-else-has_name-clause-right
returns-else-has_name-clause-right g c = λ s tells wrote m b. c.module_step.ensures.right s m b (λ s' more.
    let nodes = (graph_of c.args.g.now).nodes in
    let lawful = nodes_of (graph_of c.args.g.now) c.args.g.now.lawful in
    let none = names_none c.args.called cc in
    (unnamed_rule s' nodes lawful c.args.port c.requires.port.0 c.args.called c.requires.what none, unnamed_halted s' nodes lawful c.args.port c.requires.port.0 c.args.called c.requires.what none))

pub module_step-requires-clause-reads : goal.module_step-requires-clause-reads
module_step-requires-clause-reads g c = inr refl

pub returns-else-has_name-clause-forms : goal.returns-else-has_name-clause-forms
returns-else-has_name-clause-forms g c = λ s tells wrote m b w a.
    let nodes = (graph_of c.args.g.now).nodes in
    c.module_step.ensures.forms s m b w a (unnamed_formed s nodes (nodes_of (graph_of c.args.g.now) c.args.g.now.lawful) c.args.port c.requires.port.0 c.args.called c.requires.what (names_none c.args.called cc) (formings nodes c.args.tags.now c.args.memo.now))

pub returns-else-has_name-clause-selected : goal.returns-else-has_name-clause-selected
returns-else-has_name-clause-selected g c = λ h. on_ok_with c.module_step.result c.module_step.ensures.goes_on (λ more.
    selectors_kept (graph_of c.args.g.now).nodes c.args.memo.now c.module_step.new.memo c.module_step.ensures.answers c.module_step.ensures.selectors h)
