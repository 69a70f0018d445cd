use Rattle.dx_demand.specs.Terms.{AreExact}
use Rattle.std.proofs.Common.{◌≡◌, ◌+◌, ◌*◌, ◌++◌, ◌∷◌, [], length}
use Rattle.dx_graph.specs.GraphView.{graph_of}
use Rattle.dx_tags.specs.Closed.{GoesOn}
use Rattle.dx_meaning.specs.Scan.{Sight}
use Rattle.dx_demand.specs.Found.{Kept, MemoFound, StackFound, IsClosed}
use Rattle.dx_demand.specs.Memo.{formed_of, answers_of, KeepsAnswers, MemoFits, MemoRight}
use Rattle.dx_demand.specs.Stack.{bottom, StackFits, StackRight}
use Rattle.dx_demand.specs.Steps.{Sees, SeenRight, KeepsSelectors}
use Rattle.dx_demand.specs.Calling.{SeenMet, MemoMet, SelectorsValued, StackValued}
use Rattle.dx_demand.specs.Forming.{formings, SeenFormed}
use Rattle.dx_demand.proofs.FormedLoop.{FormedAt}
use Rattle.dx_demand.proofs.Stacks.{open_ports}
use Rattle.dx_demand.proofs.resolving.settle_port.Given as goal

abbrev pub decreases-steps : goal.decreases-steps
decreases-steps g l = open_ports (answers_of l.seen.memo) (length (graph_of l.g).nodes) * (length (graph_of l.g).nodes + 1) + l.top.port.node

-- the frames lead from the port that was asked for, and what is kept fits and is right
abbrev pub invariant-steps : goal.invariant-steps
invariant-steps g l = record {
  formed : AreExact l.tags;
  goes_on : GoesOn l.fn.tags l.tags;
  memo : MemoFits (graph_of l.g).nodes l.tags l.seen.memo;
  stack : StackFits (graph_of l.g).nodes l.tags (answers_of l.seen.memo) (l.seen.stack.items ++ l.top ∷ []);
  bottom : bottom l.seen.stack.items l.top ≡ l.fn.root;
  kept : KeepsSelectors l.fn.seen.memo l.seen.memo;
  answers : KeepsAnswers (answers_of l.fn.seen.memo) (answers_of l.seen.memo);
  first : Kept (formed_of l.fn.seen.memo) (formed_of l.seen.memo);
  found : IsClosed l.links.links l.fn.tags l.fn.seen → MemoFound l.links.links l.tags l.seen.memo × StackFound l.links.links l.tags (formed_of l.seen.memo) (l.seen.stack.items ++ l.top ∷ []);
  met : (s : Sight) → Sees (g.G.Given.told l.given) l.links.links l.written.files l.tags s → SeenRight s (graph_of l.g).nodes l.fn.tags l.fn.seen → SeenMet s (graph_of l.g).nodes l.fn.seen →
      MemoMet s (graph_of l.g).nodes (answers_of l.seen.memo) × SelectorsValued (graph_of l.g).nodes l.seen.memo × StackValued (graph_of l.g).nodes (answers_of l.seen.memo) (l.seen.stack.items ++ l.top ∷ []);
  forms : (s : Sight) → Sees (g.G.Given.told l.given) l.links.links l.written.files l.tags s → SeenRight s (graph_of l.g).nodes l.fn.tags l.fn.seen → SeenFormed s (graph_of l.g).nodes l.fn.tags l.fn.seen →
      FormedAt s (graph_of l.g).nodes (formings (graph_of l.g).nodes l.fn.tags l.fn.seen.memo) l.tags l.seen.memo l.fn.root (l.seen.stack.items ++ l.top ∷ []);
  right : (s : Sight) → Sees (g.G.Given.told l.given) l.links.links l.written.files l.tags s → SeenRight s (graph_of l.g).nodes l.fn.tags l.fn.seen →
      MemoRight s (graph_of l.g).nodes l.tags l.seen.memo × StackRight s (graph_of l.g).nodes l.tags l.fn.root (l.seen.stack.items ++ l.top ∷ []);
}
