use Rattle.dx_demand.specs.Memo.{formed_of}
use Rattle.dx_demand.proofs.Finding.{kept_itself, kept_same, all_found_grows, memo_found_grows}
use Rattle.dx_demand.proofs.Terms.{arguments_on}
use Rattle.dx_graph.specs.GraphView.{graph_of}
use Rattle.dx_demand.specs.Memo.{node_scans}
use Rattle.dx_demand.proofs.Growing.{memo_fits_grows, memo_right_grows, begins_grows, on_ok_with}
use Rattle.std.proofs.Common.{length}
use Rattle.dx_demand.proofs.FormedSteps.{step_with}
use Rattle.dx_demand.proofs.step.next_step.Goals as goal

pub returns-in-Module-clause-right : goal.returns-in-Module-clause-right
returns-in-Module-clause-right g c = λ s sees m b. c.called_step.ensures.right s sees.told sees.written m b

pub returns-in-Switch-clause-right : goal.returns-in-Switch-clause-right
returns-in-Switch-clause-right g c = λ s sees m b. c.selector_step.ensures.right s sees.told sees.linked m

pub returns-in-GetLocal-clause-right : goal.returns-in-GetLocal-clause-right
returns-in-GetLocal-clause-right g c = λ s sees m b. c.selector_step-in-GetLocal.ensures.right s sees.told sees.linked m

pub returns-in-Effect-clause-earlier : goal.returns-in-Effect-clause-earlier
returns-in-Effect-clause-earlier g c = on_ok_with c.effect_step.result c.effect_step.ensures.goes_on (λ more. arguments_on c.args.tags.now c.effect_step.new.tags more c.args.arguments.now c.requires.earlier)

pub returns-in-Effect-clause-memo : goal.returns-in-Effect-clause-memo
returns-in-Effect-clause-memo g c = on_ok_with c.effect_step.result c.effect_step.ensures.goes_on (λ more. memo_fits_grows (graph_of c.args.g.now).nodes c.args.tags.now c.effect_step.new.tags more c.args.memo.now c.requires.memo)

pub returns-in-Effect-clause-fits : goal.returns-in-Effect-clause-fits
returns-in-Effect-clause-fits g c = c.effect_step.ensures.fits (g.G.Given.told c.args.given.now)

pub returns-in-Effect-clause-memo_right : goal.returns-in-Effect-clause-memo_right
returns-in-Effect-clause-memo_right g c = λ s m. on_ok_with c.effect_step.result c.effect_step.ensures.goes_on (λ more. memo_right_grows s (graph_of c.args.g.now).nodes c.args.tags.now c.effect_step.new.tags more c.args.memo.now c.requires.memo m)

pub returns-in-Effect-clause-begins : goal.returns-in-Effect-clause-begins
returns-in-Effect-clause-begins g c = λ s m b. on_ok_with c.effect_step.result c.effect_step.ensures.goes_on (λ more. begins_grows c.args.tags.now c.effect_step.new.tags more (node_scans s (graph_of c.args.g.now).nodes c.args.port.node) c.args.arguments.now c.requires.earlier b)

pub returns-in-Switch-clause-earlier : goal.returns-in-Switch-clause-earlier
returns-in-Switch-clause-earlier g c = on_ok_with c.selector_step.result c.selector_step.ensures.goes_on (λ more. arguments_on c.args.tags.now c.selector_step.new.tags more c.args.arguments.now c.requires.earlier)

pub returns-in-Switch-clause-begins : goal.returns-in-Switch-clause-begins
returns-in-Switch-clause-begins g c = λ s m b. on_ok_with c.selector_step.result c.selector_step.ensures.goes_on (λ more. begins_grows c.args.tags.now c.selector_step.new.tags more (node_scans s (graph_of c.args.g.now).nodes c.args.port.node) c.args.arguments.now c.requires.earlier b)

pub returns-in-GetLocal-clause-earlier : goal.returns-in-GetLocal-clause-earlier
returns-in-GetLocal-clause-earlier g c = on_ok_with c.selector_step-in-GetLocal.result c.selector_step-in-GetLocal.ensures.goes_on (λ more. arguments_on c.args.tags.now c.selector_step-in-GetLocal.new.tags more c.args.arguments.now c.requires.earlier)

pub returns-in-GetLocal-clause-begins : goal.returns-in-GetLocal-clause-begins
returns-in-GetLocal-clause-begins g c = λ s m b. on_ok_with c.selector_step-in-GetLocal.result c.selector_step-in-GetLocal.ensures.goes_on (λ more. begins_grows c.args.tags.now c.selector_step-in-GetLocal.new.tags more (node_scans s (graph_of c.args.g.now).nodes c.args.port.node) c.args.arguments.now c.requires.earlier b)

pub returns-in-Effect-clause-memo_found : goal.returns-in-Effect-clause-memo_found
returns-in-Effect-clause-memo_found g c = λ m f. on_ok_with c.effect_step.result c.effect_step.ensures.goes_on (λ more. memo_found_grows (graph_of c.args.g.now).nodes c.args.tags.now c.effect_step.new.tags more c.requires.formed.formed c.args.links.now.links c.args.memo.now c.requires.memo m)

pub returns-in-Effect-clause-arguments_found : goal.returns-in-Effect-clause-arguments_found
returns-in-Effect-clause-arguments_found g c = λ m f. on_ok_with c.effect_step.result c.effect_step.ensures.goes_on (λ more.
    all_found_grows c.args.tags.now c.effect_step.new.tags more c.args.links.now.links (formed_of c.args.memo.now) (formed_of c.args.memo.now) (kept_itself (formed_of c.args.memo.now)) c.args.arguments.now c.requires.earlier.earlier f)

pub returns-in-Switch-clause-arguments_found : goal.returns-in-Switch-clause-arguments_found
returns-in-Switch-clause-arguments_found g c = λ m f. on_ok_with c.selector_step.result c.selector_step.ensures.goes_on (λ more.
    all_found_grows c.args.tags.now c.selector_step.new.tags more c.args.links.now.links (formed_of c.args.memo.now) (formed_of c.selector_step.new.memo) (kept_same c.args.memo.now c.selector_step.new.memo c.selector_step.ensures.same) c.args.arguments.now c.requires.earlier.earlier f)

pub returns-in-GetLocal-clause-arguments_found : goal.returns-in-GetLocal-clause-arguments_found
returns-in-GetLocal-clause-arguments_found g c = λ m f. on_ok_with c.selector_step-in-GetLocal.result c.selector_step-in-GetLocal.ensures.goes_on (λ more.
    all_found_grows c.args.tags.now c.selector_step-in-GetLocal.new.tags more c.args.links.now.links (formed_of c.args.memo.now) (formed_of c.selector_step-in-GetLocal.new.memo) (kept_same c.args.memo.now c.selector_step-in-GetLocal.new.memo c.selector_step-in-GetLocal.ensures.same) c.args.arguments.now c.requires.earlier.earlier f)

pub returns-in-Module-clause-forms : goal.returns-in-Module-clause-forms
returns-in-Module-clause-forms g c = λ s sees m b w a. c.called_step.ensures.forms s sees.told sees.written m b w a

pub returns-in-Effect-clause-forms : goal.returns-in-Effect-clause-forms
returns-in-Effect-clause-forms g c = λ s sees m b w a.
    step_with c.effect_step.result s (graph_of c.args.g.now).nodes c.args.tags.now c.args.memo.now c.effect_step.new.tags c.args.memo.now c.args.port (length c.args.arguments.now) a (c.effect_step.ensures.forms s w)

pub returns-in-Switch-clause-forms : goal.returns-in-Switch-clause-forms
returns-in-Switch-clause-forms g c = λ s sees m b w a.
    step_with c.selector_step.result s (graph_of c.args.g.now).nodes c.args.tags.now c.args.memo.now c.selector_step.new.tags c.selector_step.new.memo c.args.port (length c.args.arguments.now) a (c.selector_step.ensures.forms s sees.told sees.linked m w)

pub returns-in-GetLocal-clause-forms : goal.returns-in-GetLocal-clause-forms
returns-in-GetLocal-clause-forms g c = λ s sees m b w a.
    step_with c.selector_step-in-GetLocal.result s (graph_of c.args.g.now).nodes c.args.tags.now c.args.memo.now c.selector_step-in-GetLocal.new.tags c.selector_step-in-GetLocal.new.memo c.args.port (length c.args.arguments.now) a (c.selector_step-in-GetLocal.ensures.forms s sees.told sees.linked m w)

pub returns-in-Module-clause-met : goal.returns-in-Module-clause-met
returns-in-Module-clause-met g c = λ s sees m a. c.called_step.ensures.met s a

pub returns-in-Effect-clause-met : goal.returns-in-Effect-clause-met
returns-in-Effect-clause-met g c = λ s sees m a. c.effect_step.ensures.met s

pub returns-in-Switch-clause-met : goal.returns-in-Switch-clause-met
returns-in-Switch-clause-met g c = λ s sees m a. c.selector_step.ensures.met s sees.told sees.linked m

pub returns-in-GetLocal-clause-met : goal.returns-in-GetLocal-clause-met
returns-in-GetLocal-clause-met g c = λ s sees m a. c.selector_step-in-GetLocal.ensures.met s sees.told sees.linked m

pub returns-in-Effect-clause-valued : goal.returns-in-Effect-clause-valued
returns-in-Effect-clause-valued g c = λ a. on_ok_with c.effect_step.result c.effect_step.ensures.goes_on (λ more. a)

pub returns-in-Switch-clause-valued : goal.returns-in-Switch-clause-valued
returns-in-Switch-clause-valued g c = λ a. on_ok_with c.selector_step.result c.selector_step.ensures.goes_on (λ more. a)

pub returns-in-GetLocal-clause-valued : goal.returns-in-GetLocal-clause-valued
returns-in-GetLocal-clause-valued g c = λ a. on_ok_with c.selector_step-in-GetLocal.result c.selector_step-in-GetLocal.ensures.goes_on (λ more. a)

pub returns-in-Effect-clause-selected : goal.returns-in-Effect-clause-selected
returns-in-Effect-clause-selected g c = λ h. on_ok_with c.effect_step.result c.effect_step.ensures.goes_on (λ more. h)
