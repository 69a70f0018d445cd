use Rattle.std.proofs.Common.{length}
use Rattle.dx_demand.specs.Memo.{formed_of}
use Rattle.dx_demand.specs.Found.{StackFound}
use Rattle.dx_demand.proofs.Finding.{empty_found}
use Rattle.std.proofs.Common.{sym, subst}
use Rattle.dx_demand.specs.Memo.{answers_of}
use Rattle.dx_demand.specs.Stack.{StackFits}
use Rattle.dx_demand.specs.Steps.{LeftRight}
use Rattle.dx_graph.specs.GraphView.{graph_of}
use Rattle.dx_demand.proofs.Memos.{empty_fits, empty_right}
use Rattle.dx_demand.specs.Forming.{formings, LeftFormed}
use Rattle.dx_demand.proofs.FormedSteps.{empty_formed}
use Rattle.dx_demand.specs.Calling.{StackValued}
use Rattle.dx_demand.proofs.Calls.{empty_met, empty_selectors}
use Rattle.dx_demand.proofs.seen.Seen.restart.Goals as goal

pub returns-clause-fits : goal.returns-clause-fits
returns-clause-fits c = λ terms. record { memo = empty_fits (graph_of c.args.g.now).nodes terms c.restart_memo.new.memo c.in_ok-restart_memo.ensures; stack = subst (StackFits (graph_of c.args.g.now).nodes terms (answers_of c.restart_memo.new.memo)) (sym c.clear.ensures.items) tt }

pub returns-clause-right : goal.returns-clause-right
returns-clause-right c = λ s terms. record { memo = empty_right s (graph_of c.args.g.now).nodes terms c.restart_memo.new.memo c.in_ok-restart_memo.ensures; left = subst (LeftRight s (graph_of c.args.g.now).nodes terms) (sym c.clear.ensures.items) tt }

pub returns-clause-closed : goal.returns-clause-closed
returns-clause-closed c = λ links terms. record { memo = empty_found links terms (length (graph_of c.args.g.now).nodes) c.restart_memo.new.memo c.in_ok-restart_memo.ensures; stack = subst (StackFound links terms (formed_of c.restart_memo.new.memo)) (sym c.clear.ensures.items) tt }

pub returns-clause-none : goal.returns-clause-none
returns-clause-none c = c.in_ok-restart_memo.ensures.formed

pub returns-clause-formed : goal.returns-clause-formed
returns-clause-formed c = λ s terms.
    let nodes = (graph_of c.args.g.now).nodes in
    record { memo = empty_formed s nodes terms (length nodes) c.restart_memo.new.memo c.in_ok-restart_memo.ensures; left = subst (LeftFormed s nodes (formings nodes terms c.restart_memo.new.memo)) (sym c.clear.ensures.items) tt }

pub returns-clause-met : goal.returns-clause-met
returns-clause-met c = λ s.
    let nodes = (graph_of c.args.g.now).nodes in
    let memo = c.restart_memo.new.memo in
    record { memo = empty_met s nodes (length nodes) memo c.in_ok-restart_memo.ensures; selectors = empty_selectors nodes (length nodes) memo c.in_ok-restart_memo.ensures; stack = subst (StackValued nodes (answers_of memo)) (sym c.clear.ensures.items) tt }
