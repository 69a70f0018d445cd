-- What the operands of an expansion under way stand for in a graph with these nodes.
use Rattle.std.specs.Prelude.{◌≡◌, ℕ, suc, ◌<◌, ◌≤◌, List, [], ◌∷◌, Option, Some, None, All, length, slice_index_or}
use Rattle.dx_ast.specs.declared.constants.Const.TheVariants as const
use Rattle.dx_ast.specs.declared.expressions.Arg.{out-Arg}
use Rattle.dx_ast.specs.Lawful.{IsLawfulConst}
use Rattle.dx_ast.specs.Table.{row_of}
use Rattle.dx_macros.specs.Tree.{Tree, ConstantTree, ResultTree, Trees, AndTree}
use Rattle.dx_macros.specs.Expansion.{Scope, null_tree, only, function_result}
use Rattle.dx_macros.specs.Expansion as plain
use Rattle.dx_graph.specs.Graph.{Node, node_at}
use Rattle.dx_graph.specs.Unfolding.{call_at, calls_of, tree_of}
use Rattle.dx_graph.specs.declared.node.Input.{Input}
use Rattle.dx_graph.specs.declared.operand.Operand.{Operand}
use Rattle.dx_graph.specs.declared.operand.Operand.TheVariants as operand
use Rattle.dx_graph.specs.declared.operand.Results.{Results}
use Rattle.dx_graph.specs.declared.operand.Results.TheVariants as results
use Rattle.dx_graph.specs.declared.given.Given.{Given}

-- ---- operands

abbrev pub operand_tree : List Node → Operand → Tree
operand_tree nodes operand.Null = null_tree
operand_tree nodes (operand.Number n) = ConstantTree (const.Int n)
operand_tree nodes (operand.Constant c) = ConstantTree c.now
operand_tree nodes (operand.Result n result) = ResultTree result (call_at (calls_of nodes) n)

-- there is a node with this number, and it has at least so many results
pub record HasResults (nodes : List Node) (n : ℕ) (count : ℕ) : Type 0 where
  pub node : n < length nodes
  pub results : count ≤ (row_of (node_at nodes n).what).results

-- the operand is a constant that a script can have, or a result of a node that there is
abbrev pub OperandFits : List Node → Operand → Type 0
OperandFits nodes operand.Null = Unit {0}
OperandFits nodes (operand.Number n) = Unit {0}
OperandFits nodes (operand.Constant c) = ∥ IsLawfulConst c.now ∥₁
OperandFits nodes (operand.Result n result) = HasResults nodes n (suc result)

pub record Means (nodes : List Node) (o : Operand) (t : Tree) : Type 0 where
  pub fits : OperandFits nodes o
  pub tree : operand_tree nodes o ≡ t

-- ---- results of an expression

abbrev pub results_trees : List Node → Results → ℕ → Tree
results_trees nodes (results.One o) = only (operand_tree nodes o)
results_trees nodes (results.Node n count) = function_result count (call_at (calls_of nodes) n)
results_trees nodes (results.Many os) = λ n. operand_tree nodes (slice_index_or os.items n operand.Null)

abbrev pub ResultsFit : List Node → Results → Type 0
ResultsFit nodes (results.One o) = OperandFits nodes o
ResultsFit nodes (results.Node n count) = HasResults nodes n count
ResultsFit nodes (results.Many os) = All (OperandFits nodes) os.items

pub record Gives (nodes : List Node) (r : Results) (result : ℕ → Tree) : Type 0 where
  pub fits : ResultsFit nodes r
  pub trees : results_trees nodes r ≡ result

-- ---- arguments

abbrev pub given_of : List Node → Given → plain.Given
given_of nodes g = record { name = (out-Arg g.arg.now).name; tree = operand_tree nodes g.operand }

abbrev pub GivenFits : List Node → Given → Type 0
GivenFits nodes g = OperandFits nodes g.operand

-- the trees of these inputs, and then these
abbrev pub before_trees : List Node → List Input → Trees → Trees
before_trees nodes [] rest = rest
before_trees nodes (i ∷ later) rest = AndTree (tree_of (calls_of nodes) i) (before_trees nodes later rest)

-- ---- names

abbrev pub Own : Type 0
Own = List ℕ → Option Operand

-- what an own name means, and what others mean
abbrev pub meaning : List Node → Option Operand → Tree → Tree
meaning nodes (Some o) t = operand_tree nodes o
meaning nodes None t = t

abbrev pub scope_with : List Node → Own → Scope → Scope
scope_with nodes own top = λ name. meaning nodes (own name) (top name)

abbrev pub OptionFits : List Node → Option Operand → Type 0
OptionFits nodes (Some o) = OperandFits nodes o
OptionFits nodes None = Unit {0}

abbrev pub OwnFits : List Node → Own → Type 0
OwnFits nodes own = (name : List ℕ) → OptionFits nodes (own name)
