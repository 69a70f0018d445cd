-- Graphs of calls.
use Rattle.std.specs.Prelude.{ℕ, ◌+◌, ◌<◌, ◌≤◌, List, [], ◌∷◌, ◌++◌, All, length, slice_index_or}
use Rattle.dx_base.specs.declared.function.Function.{Function}
use Rattle.dx_base.specs.declared.function.Function.TheVariants as function
use Rattle.dx_ast.specs.Lawful.{IsLawfulConst}
use Rattle.dx_ast.specs.Table.{row_of}
use Rattle.dx_macros.specs.Site.{Spot, Nth}
use Rattle.dx_macros.specs.Tree.{Place}
use Rattle.dx_graph.specs.Trails.{no_steps}
use Rattle.dx_graph.specs.Sites.{IsLawfulSite}
use Rattle.dx_graph.specs.declared.node.Input.{Input}
use Rattle.dx_graph.specs.declared.node.Input.TheVariants as input

-- a call of a function
pub record Node : Type 0 where
  pub what : Function
  pub place : Place
  pub inputs : List Input

-- nodes are numbered from 0; the effects are numbers of nodes, in order
pub record Graph : Type 0 where
  pub nodes : List Node
  pub effects : List ℕ

abbrev pub no_nodes : Graph
no_nodes = record { nodes = []; effects = [] }

-- the k-th call of a function in a text, and what is called there; the two are the same in what a statement comes to
abbrev pub node_of : Spot → (called : Function) → (what : Function) → List Input → (cache : ℕ) → (k : ℕ) → Node
node_of spot called what inputs cache k = record {
  what = what;
  place = record { site = spot.base ++ Nth (row_of called).name k ∷ []; path = spot.path; cache = cache };
  inputs = inputs;
}

abbrev pub no_node : Node
no_node = node_of no_steps function.Switch function.Switch [] 0 0

abbrev pub node_at : List Node → ℕ → Node
node_at nodes n = slice_index_or nodes n no_node

abbrev pub with_node : Node → Graph → Graph
with_node node g = record { nodes = g.nodes ++ node ∷ []; effects = g.effects }

abbrev pub with_effects : List ℕ → Graph → Graph
with_effects effects g = record { nodes = g.nodes; effects = effects }

-- ---- what holds of every graph

-- an input of node number n is a constant that a script can have, or one of the results of an earlier node
abbrev pub MayTake : List Node → ℕ → Input → Type 0
MayTake nodes n (input.Constant c) = ∥ IsLawfulConst c ∥₁
MayTake nodes n (input.Result m result) = (m < n) × (result < (row_of (node_at nodes m).what).results)

-- a node can be number n: each named parameter has an input, no more arguments follow than the function takes, and its
-- site is one of a lawful script
pub record IsNode (nodes : List Node) (n : ℕ) (node : Node) : Type 0 where
  pub inputs : All (MayTake nodes n) node.inputs
  pub enough : length (row_of node.what).params ≤ length node.inputs
  pub few : length node.inputs ≤ length (row_of node.what).params + (row_of node.what).more
  pub cache : node.place.cache ≤ 2
  pub site : ∥ IsLawfulSite node.place.site ∥₁

abbrev pub AreNodes : List Node → Type 0
AreNodes nodes = (n : ℕ) → n < length nodes → IsNode nodes n (node_at nodes n)

abbrev pub IsEffect : Function → Type 0
IsEffect (function.Effect e) = Unit {0}
IsEffect other = ⊥

-- the node with this number has an effect
abbrev pub IsEffectNode : List Node → ℕ → Type 0
IsEffectNode nodes n = (n < length nodes) × IsEffect (node_at nodes n).what

pub record IsGraph (g : Graph) : Type 0 where
  pub nodes : AreNodes g.nodes
  pub effects : All (IsEffectNode g.nodes) g.effects
