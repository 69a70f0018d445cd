use Rattle.std.proofs.Common.{◌≡◌, List, All, map, drop, take}
use Rattle.dx_base.specs.NameTable.{under_name}
use Rattle.dx_signatures.specs.Callees.{param_names}
use Rattle.dx_texts.specs.Marks.{Holds}
use Rattle.dx_ast.specs.Lawful.{IsLawfulParam}
use Rattle.dx_macros.specs.Expansion as plain
use Rattle.dx_graph.specs.Graph.{Node}
use Rattle.dx_graph.specs.Operands.{given_of, GivenFits, scope_with, OwnFits}
use Rattle.dx_texts.proofs.own.bind_params.Given as goal

abbrev pub invariant-loop-i : goal.invariant-loop-i
invariant-loop-i l = record {
  scope : (nodes : List Node) (top : plain.Scope) → plain.with_params (drop l.i l.params) l.i (map (given_of nodes) l.given) (scope_with nodes (under_name l.own) top)
      ≡ plain.with_params l.params 0 (map (given_of nodes) l.given) top;
  own : Holds (under_name l.own) (param_names (take l.i l.params));
  fits : (nodes : List Node) → All (GivenFits nodes) l.given → ∥ All IsLawfulParam l.params ∥₁ → OwnFits nodes (under_name l.own);
}
