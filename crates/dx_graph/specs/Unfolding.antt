-- What the nodes of a graph stand for: trees of calls, in which nothing is shared.
use Rattle.std.specs.Prelude.{◌≡◌, ℕ, ◌<◌, List, [], ◌∷◌, length, map, slice_index_or}
use Rattle.dx_macros.specs.Tree.{Tree, ConstantTree, ResultTree, CallTree, TreeCall, Trees, NoTree, AndTree}
use Rattle.dx_graph.specs.Earlier.{by_earlier}
use Rattle.dx_graph.specs.Graph.{Node, Graph, no_node, node_at}
use Rattle.dx_graph.specs.declared.node.Input.{Input}
use Rattle.dx_graph.specs.declared.node.Input.TheVariants as input

abbrev pub no_call : CallTree
no_call = TreeCall no_node.what no_node.place NoTree

abbrev pub call_at : List CallTree → ℕ → CallTree
call_at calls n = slice_index_or calls n no_call

abbrev pub tree_of : List CallTree → Input → Tree
tree_of calls (input.Constant c) = ConstantTree c
tree_of calls (input.Result n result) = ResultTree result (call_at calls n)

abbrev pub trees_of : List CallTree → List Input → Trees
trees_of calls [] = NoTree
trees_of calls (i ∷ rest) = AndTree (tree_of calls i) (trees_of calls rest)

abbrev pub call_of : List CallTree → Node → CallTree
call_of calls node = TreeCall node.what node.place (trees_of calls node.inputs)

-- the calls of the nodes, each by those of the earlier ones
abbrev pub calls_of : List Node → List CallTree
calls_of nodes = by_earlier call_of [] nodes

-- the calls that the effects of a graph stand for, in order
abbrev pub unfolded : Graph → List CallTree
unfolded g = map (call_at (calls_of g.nodes)) g.effects

-- each node stands for the call of its function at what its inputs stand for
abbrev pub UnfoldByInputs : List Node → Type 0
UnfoldByInputs nodes = (n : ℕ) → n < length nodes → call_at (calls_of nodes) n ≡ call_of (calls_of nodes) (node_at nodes n)

-- the input is no result of node number n or of a later one
abbrev pub IsBelow : ℕ → Input → Type 0
IsBelow n (input.Constant c) = Unit {0}
IsBelow n (input.Result m result) = m < n
