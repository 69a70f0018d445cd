use Rattle.std.proofs.Common.{◌≡◌, ◌∙◌, ℕ, length, sym, ap, subst, arith}
use Rattle.dx_graph.specs.GraphView.{graph_of}
use Rattle.dx_demand.specs.Memo.{answers_of}
use Rattle.dx_demand.specs.Searching.{Calls, calls_at, under, place_of, AllMet, AllWithin, Ground}
use Rattle.dx_graph.specs.Graph.{MayTake}
use Rattle.dx_meaning.specs.Met.{first_place}
use Rattle.dx_demand.specs.Calling.{IsValued, input_met}
use Rattle.dx_demand.specs.declared.settled.Port.{Port}
use Rattle.dx_demand.proofs.PortSteps.{nodes_of}
use Rattle.dx_demand.proofs.Searched.{own_met_right, call_within, under_within}
use Rattle.dx_demand.proofs.seen.Seen.call_of.Goals as goal

pub loop-n-preserved : goal.loop-n-preserved
loop-n-preserved c = record {
  met = λ s terms k ground. c.in_ok-meet_node-in-Result.ensures.met s terms k ground (c.loop-n.invariant.met s terms k ground) c.loop-n.invariant.fresh;
  within = c.in_ok-meet_node-in-Result.ensures.within c.loop-n.invariant.within;
  fresh = c.in_ok-meet_node-in-Result.ensures.fresh c.loop-n.invariant.fresh;
}

pub returns-in_ok-meet_port-in-Result-clause-first : goal.returns-in_ok-meet_port-in-Result-clause-first
returns-in_ok-meet_port-in-Result-clause-first c = λ s terms k exact fits right met.
    let nodes = (graph_of c.args.g.now).nodes in
    let lawful = nodes_of (graph_of c.args.g.now) c.args.g.now.lawful in
    let memo = c.args.self.now.memo in
    let ground : Ground s nodes terms memo = record { exact = exact; fits = fits.memo; right = right.memo; met = met.memo } in
    let p : Port = record { node = c.in-Result.node; result = c.in-Result.result_number } in
    let may = subst (MayTake nodes (length nodes)) c.in-Result.is c.requires.input in
    let valued = subst (IsValued (answers_of memo)) c.in-Result.is c.requires.valued in
    let f = calls_at c.loop-n.found in
    let f' = calls_at c.meet_port.new.found in
    let here : c.loop-n.n ≡ p.node = omega (arith, c.loop-n-test.false, c.loop-n.auto.n-end) in
    let all = subst (λ (n : ℕ). AllMet s nodes (answers_of memo) k.call n f) here (c.loop-n.invariant.met s terms k ground) in
    let own = own_met_right s nodes terms memo ground lawful c.args.t k p may.0 f all (c.loop-n.invariant.fresh p (omega (arith, here))) may valued in
    let found : c.call_under.result ≡ f' p = c.call_under.ensures ∙ ap (under f') c.in-Result.is in
    ap (place_of nodes) (found ∙ ap (λ (x : Calls). x p) c.in_ok-meet_port-in-Result.ensures) ∙ own ∙ sym (ap (λ i. first_place (input_met s nodes i) k.call) c.in-Result.is)

pub returns-in_ok-meet_port-in-Result-clause-within : goal.returns-in_ok-meet_port-in-Result-clause-within
returns-in_ok-meet_port-in-Result-clause-within c =
    let nodes = (graph_of c.args.g.now).nodes in
    let memo = c.args.self.now.memo in
    let p : Port = record { node = c.in-Result.node; result = c.in-Result.result_number } in
    let may = subst (MayTake nodes (length nodes)) c.in-Result.is c.requires.input in
    let all = subst (AllWithin (length nodes)) (sym c.in_ok-meet_port-in-Result.ensures) (call_within nodes (answers_of memo) c.args.t p (length nodes) (calls_at c.loop-n.found) c.loop-n.invariant.within may.0) in
    λ n e. under_within (length nodes) (calls_at c.meet_port.new.found) all c.args.i.now n (sym c.call_under.ensures ∙ e)
