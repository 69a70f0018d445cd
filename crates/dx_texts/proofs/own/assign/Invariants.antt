use Rattle.std.proofs.Common.{◌≡◌, ◌++◌, List, drop, take}
use Rattle.dx_base.specs.NameTable.{under_name}
use Rattle.dx_ast.specs.Classes.{Text as Name}
use Rattle.dx_texts.specs.Marks.{Holds}
use Rattle.dx_macros.specs.Expansion as plain
use Rattle.dx_graph.specs.Graph.{Node}
use Rattle.dx_graph.specs.Operands.{results_trees, ResultsFit, scope_with, OwnFits}
use Rattle.dx_texts.proofs.own.assign.Given as goal

abbrev pub invariant-loop-i : goal.invariant-loop-i
invariant-loop-i l = record {
  scope : (nodes : List Node) (top : plain.Scope) → plain.assigned (drop l.i l.targets) l.i (results_trees nodes l.results) (scope_with nodes (under_name l.own) top)
      ≡ plain.assigned l.targets 0 (results_trees nodes l.results) (scope_with nodes (under_name l.initial.own) top);
  own : (names : List Name) → Holds (under_name l.initial.own) names → Holds (under_name l.own) (names ++ take l.i l.targets);
  fits : (nodes : List Node) → ResultsFit nodes l.results → OwnFits nodes (under_name l.initial.own) → OwnFits nodes (under_name l.own);
}
