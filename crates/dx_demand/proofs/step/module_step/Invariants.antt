use Rattle.dx_demand.specs.Terms.{AreArguments, AreExact}
use Rattle.std.proofs.Common.{◌≡◌, ◌≤◌, ◌-◌, length}
use Rattle.dx_graph.specs.Graph.{node_at}
use Rattle.dx_graph.specs.GraphView.{graph_of}
use Rattle.dx_tags.specs.Closed.{heads_of, GoesOn}
use Rattle.dx_meaning.specs.Scan.{Sight}
use Rattle.dx_links.specs.LinkMap.{LinkMap}
use Rattle.dx_demand.specs.Found.{AllFound, MemoFound}
use Rattle.dx_demand.specs.Calling.{AreValued}
use Rattle.dx_demand.specs.Memo.{answers_of, formed_of, node_scans, MemoRight}
use Rattle.dx_demand.specs.Stack.{Begins}
use Rattle.dx_meaning.specs.Forming.{HasAll}
use Rattle.dx_demand.specs.Forming.{formings, first_forms, node_forms, MemoFormed, HasFront, calls_forms, FormedSoFar}
use Rattle.dx_demand.proofs.step.module_step.Given as goal

abbrev pub decreases-loop-inputs : goal.decreases-loop-inputs
decreases-loop-inputs l = length l.inputs - length l.arguments

-- the arguments so far are those of the first inputs
abbrev pub invariant-loop-inputs : goal.invariant-loop-inputs
invariant-loop-inputs l = record {
  file : l.file ≡ l.fn.file;
  formed : AreExact l.tags;
  goes_on : GoesOn l.fn.tags l.tags;
  few : length l.arguments ≤ length (node_at (graph_of l.g).nodes l.port.node).inputs;
  earlier : AreArguments l.tags l.arguments;
  found : (links : LinkMap) → MemoFound links l.fn.tags l.memo → AllFound links l.fn.tags (formed_of l.memo) l.fn.arguments → AllFound links l.tags (formed_of l.memo) l.arguments;
  valued : AreValued (answers_of l.memo) (node_at (graph_of l.g).nodes l.port.node).inputs (length l.fn.arguments) → AreValued (answers_of l.memo) (node_at (graph_of l.g).nodes l.port.node).inputs (length l.arguments);
  forms : (s : Sight) → MemoRight s (graph_of l.g).nodes l.fn.tags l.memo → Begins (heads_of l.fn.tags) (node_scans s (graph_of l.g).nodes l.port.node) l.fn.arguments → MemoFormed s (graph_of l.g).nodes l.fn.tags l.memo →
      HasAll (formings (graph_of l.g).nodes l.fn.tags l.memo) (first_forms (length l.fn.arguments) (node_forms s (graph_of l.g).nodes l.port.node)) →
      HasFront s (graph_of l.g).nodes (formings (graph_of l.g).nodes l.fn.tags l.memo) l.port (calls_forms (graph_of l.g).nodes l.port l.called l.fn.file) →
      FormedSoFar s (graph_of l.g).nodes l.fn.tags l.tags l.memo l.port (length l.arguments);
  begins : (s : Sight) → MemoRight s (graph_of l.g).nodes l.fn.tags l.memo → Begins (heads_of l.fn.tags) (node_scans s (graph_of l.g).nodes l.port.node) l.fn.arguments →
      Begins (heads_of l.tags) (node_scans s (graph_of l.g).nodes l.port.node) l.arguments;
}
