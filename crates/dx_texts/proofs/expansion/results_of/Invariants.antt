use Rattle.std.proofs.Common.{List, take, drop}
use Rattle.dx_base.specs.NameTable.{under_name}
use Rattle.dx_texts.specs.Expanding.{Remembers, scope_of}
use Rattle.dx_graph.specs.Graph.{Node}
use Rattle.dx_texts.specs.Marks.{NamesWalked}
use Rattle.dx_graph.specs.Operands.{OwnFits}
use Rattle.dx_graph.proofs.Outcomes.{Named}
use Rattle.dx_texts.proofs.expansion.results_of.Given as goal

abbrev pub invariant-loop-name : goal.invariant-loop-name
invariant-loop-name l = record {
  walked : NamesWalked l.w l.t (drop l.name-index l.names);
  named : (nodes : List Node) → Remembers nodes l.w → OwnFits nodes (under_name l.t.own) → Named nodes (scope_of l.w l.t nodes) (take l.name-index l.names) l.all.items;
}
