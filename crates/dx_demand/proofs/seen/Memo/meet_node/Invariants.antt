use Rattle.dx_graph.specs.GraphView.{graph_of}
use Rattle.dx_tags.specs.declared.term.Term.{Term}
use Rattle.std.proofs.Common.{List, length}
use Rattle.dx_meaning.specs.Scan.{Sight}
use Rattle.dx_demand.specs.Memo.{answers_of}
use Rattle.dx_demand.specs.Forming.{IsCallTag}
use Rattle.dx_demand.specs.Searching.{calls_at, Ground, AllMet, AllFresh, AllWithin}
use Rattle.dx_demand.proofs.Searched.{RowMet, RowFresh}
use Rattle.dx_demand.proofs.seen.Memo.meet_node.Given as goal

-- the first results are done
abbrev pub invariant-loop-r : goal.invariant-loop-r
invariant-loop-r l = record {
  met : (s : Sight) (terms : List Term) (c : IsCallTag terms l.fn.t) → Ground s (graph_of l.fn.g).nodes terms l.fn.self → AllMet s (graph_of l.fn.g).nodes (answers_of l.fn.self) c.call l.fn.n (calls_at l.fn.found) → AllFresh l.fn.n (calls_at l.fn.found) →
      AllMet s (graph_of l.fn.g).nodes (answers_of l.fn.self) c.call l.fn.n (calls_at l.found) × RowMet s (graph_of l.fn.g).nodes (answers_of l.fn.self) c.call l.fn.n l.r (calls_at l.found);
  within : AllWithin (length (graph_of l.fn.g).nodes) (calls_at l.fn.found) → AllWithin (length (graph_of l.fn.g).nodes) (calls_at l.found);
  fresh : AllFresh l.fn.n (calls_at l.fn.found) → RowFresh l.fn.n l.r (calls_at l.found);
}
