use Rattle.std.proofs.Common.{◌≡◌, ◌∙◌, ⊎_elim, inl, sym, ap, subst, arith, length}
use Rattle.dx_ast.specs.Table.{row_of}
use Rattle.dx_graph.specs.declared.node.Node.{Node}
use Rattle.dx_graph.specs.GraphView.{graph_of}
use Rattle.dx_demand.specs.Memo.{answers_of}
use Rattle.dx_demand.specs.Searching.{calls_at, met_by, AllMet, AllWithin}
use Rattle.dx_demand.specs.declared.settled.Port.{Port}
use Rattle.dx_demand.proofs.PortSteps.{nodes_of}
use Rattle.dx_demand.proofs.Searched.{before_stays, row_met, row_fresh, rows_met, call_within}
use Rattle.dx_demand.proofs.seen.Memo.meet_node.Goals as goal

pub loop-r-init : goal.loop-r-init
loop-r-init c = record {
  met = λ s terms k ground all fresh. (all, λ q node less. absurd (omega (arith, less)));
  within = λ h. h;
  fresh = λ fresh q others. fresh q (⊎_elim (λ l. omega (arith, l)) (λ l. (let same = l.0 in omega (arith, same))) others);
}

pub loop-r-preserved : goal.loop-r-preserved
loop-r-preserved c =
    let nodes = (graph_of c.args.g.now).nodes in
    let lawful = nodes_of (graph_of c.args.g.now) c.args.g.now.lawful in
    let memo = c.args.self.now in
    let n = c.args.n in
    let r = c.loop-r.r in
    let p : Port = record { node = n; result = r } in
    let f = calls_at c.loop-r.found in
    let f' = calls_at c.meet_port.new.found in
    let e = c.in_ok-meet_port.ensures in
    record {
      met = λ s terms k ground all fresh.
          let before = c.loop-r.invariant.met s terms k ground all fresh in (
            subst (AllMet s nodes (answers_of memo) k.call n) (sym e) (before_stays s nodes (answers_of memo) k.call n f p (met_by nodes (answers_of memo) c.args.t p f) (omega arith) before.0),
            row_met s nodes terms memo ground lawful c.args.t k n r c.requires.node f f' e before.0 (c.loop-r.invariant.fresh fresh) before.1,
          );
      within = λ h. subst (AllWithin (length nodes)) (sym e) (call_within nodes (answers_of memo) c.args.t p (length nodes) f (c.loop-r.invariant.within h) c.requires.node);
      fresh = λ fresh. row_fresh n r f f' (met_by nodes (answers_of memo) c.args.t p f) e (c.loop-r.invariant.fresh fresh);
    }

pub returns-clause-met : goal.returns-clause-met
returns-clause-met c = λ s terms k ground all fresh.
    let nodes = (graph_of c.args.g.now).nodes in
    let before = c.loop-r.invariant.met s terms k ground all fresh in
    let all_done : c.loop-r.r ≡ c.results-r-end.result = omega (arith, c.loop-r-test.false, c.loop-r.auto.r-end) in
    let count = all_done ∙ c.results-r-end.ensures ∙ ap (λ (x : Node). (row_of x.what).results) c.node.ensures in
    rows_met s nodes (answers_of c.args.self.now) k.call c.args.n c.loop-r.r (calls_at c.loop-r.found) count before.0 before.1

pub returns-clause-fresh : goal.returns-clause-fresh
returns-clause-fresh c = λ fresh q le. c.loop-r.invariant.fresh fresh q (inl (omega (arith, le)))

pub returns-clause-within : goal.returns-clause-within
returns-clause-within c = c.loop-r.invariant.within
