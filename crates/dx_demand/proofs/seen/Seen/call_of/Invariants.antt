use Rattle.dx_graph.specs.GraphView.{graph_of}
use Rattle.dx_tags.specs.declared.term.Term.{Term}
use Rattle.std.proofs.Common.{List, length}
use Rattle.dx_meaning.specs.Scan.{Sight}
use Rattle.dx_demand.specs.Memo.{answers_of}
use Rattle.dx_demand.specs.Forming.{IsCallTag}
use Rattle.dx_demand.specs.Searching.{calls_at, Ground, AllMet, AllFresh, AllWithin}
use Rattle.dx_demand.proofs.seen.Seen.call_of.Given as goal

-- the first nodes are done
abbrev pub invariant-loop-n : goal.invariant-loop-n
invariant-loop-n l = record {
  met : (s : Sight) (terms : List Term) (c : IsCallTag terms l.fn.t) → Ground s (graph_of l.fn.g).nodes terms l.fn.self.memo → AllMet s (graph_of l.fn.g).nodes (answers_of l.fn.self.memo) c.call l.n (calls_at l.found);
  within : AllWithin (length (graph_of l.fn.g).nodes) (calls_at l.found);
  fresh : AllFresh l.n (calls_at l.found);
}
