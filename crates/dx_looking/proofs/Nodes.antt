-- The nodes of a graph: their sites aren't empty, and their attributes are at most 2.
use Rattle.std.proofs.Common.{◌≡◌, ℕ, zero, suc, ◌<◌, ◌≤◌, List, [], ◌∷◌, ◌++◌, length, map, arith}
use Rattle.dx_macros.specs.Site.{Step, Nth, step_text, steps_text, Spot}
use Rattle.dx_graph.specs.Graph.{Node, node_at, AreNodes}
use Rattle.dx_graph.specs.GraphView.{graph_of}
use Rattle.dx_graph.specs.declared.graph.Graph.{Graph}
use Rattle.dx_graph.specs.Trails.{spots_of, spot_under}
use Rattle.dx_ast.specs.Table.{row_of}
use Rattle.dx_base.specs.declared.function.Function.TheVariants.{Switch}
use Rattle.dx_graph.specs.Shown.{plain_node}
use Rattle.dx_graph.specs.declared.node.Placed.{Placed}

abbrev pub IsNamed : Node → Type 0
IsNamed n = ¬ (steps_text n.place.site ≡ [])

behind_some : {A : Type 0} (xs ys : List A) (y : A) → ¬ (xs ++ y ∷ ys ≡ [])
behind_some [] ys y e = cc
behind_some (x ∷ xs) ys y e = cc

last_some : (base : List Step) (name : List ℕ) (k : ℕ) → ¬ (steps_text (base ++ Nth name k ∷ []) ≡ [])
last_some [] name k e = behind_some name _ 58 e
last_some (s ∷ []) name k e = behind_some (step_text s) _ 47 e
last_some (s ∷ t ∷ rest) name k e = behind_some (step_text s) _ 47 e

node_named : (spots : List Spot) (ps : List Placed) (n : ℕ) → IsNamed (node_at (map (plain_node spots) ps) n)
node_named spots [] n e = last_some [] (row_of Switch).name 0 e
node_named spots (p ∷ ps) zero e = last_some (spot_under spots p.trail).base (row_of p.called).name p.k e
node_named spots (p ∷ ps) (suc n) e = node_named spots ps n e

pub nodes_named : (g : Graph) (n : ℕ) → IsNamed (node_at (graph_of g).nodes n)
nodes_named g n = node_named (spots_of g.trails) g.nodes.items n

-- ---- attributes

within_or : (nodes : List Node) (n : ℕ) → (n < length nodes → (node_at nodes n).place.cache ≤ 2) → (node_at nodes n).place.cache ≤ 2
within_or [] n h = omega arith
within_or (x ∷ xs) zero h = h (omega arith)
within_or (x ∷ xs) (suc n) h = within_or xs n (λ lt. h (omega (arith, lt)))

pub attributes_small : (nodes : List Node) → AreNodes nodes → (n : ℕ) → (node_at nodes n).place.cache ≤ 2
attributes_small nodes are n = within_or nodes n (λ lt. (are n lt).cache)
