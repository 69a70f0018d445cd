-- What one more node does to what a graph stands for.
use Rattle.std.proofs.Common.{◌≡◌, ℕ, ◌<◌, [], ◌∷◌, length, map, ap, ap₂, ◌∙◌, All}
use Rattle.std.specs.Prelude.{Result, Ok, Err, IfOk, OnOk, OnErr}
use Rattle.std.proofs.Math.Logic.{∥∥₁_elim}
use Rattle.std.proofs.Props.{props}
use Rattle.dx_macros.specs.Tree.{CallTree}
use Rattle.dx_graph.specs.Graph as plain
use Rattle.dx_graph.specs.Graph.{Node, with_node}
use Rattle.dx_graph.specs.GraphView.{graph_of}
use Rattle.dx_graph.specs.Unfolding.{call_at, call_of, calls_of, unfolded}
use Rattle.dx_graph.specs.declared.graph.Graph.{Graph}
use Rattle.dx_graph.proofs.Unfolding.{call_added, effects_stay}

-- a new node stands for its call
pub node_unfolds : {E : Type 0} (r : Result ℕ E) (old new : plain.Graph) (node : Node) (c : CallTree) → IfOk r (λ n. n ≡ length old.nodes) → OnOk r (new ≡ with_node node old) →
    call_of (calls_of old.nodes) node ≡ c → IfOk r (λ n. call_at (calls_of new.nodes) n ≡ c)
node_unfolds (Ok n) old new node c number ok e =
    ap₂ (λ (g : plain.Graph) (m : ℕ). call_at (calls_of g.nodes) m) ok number ∙ call_added old.nodes node ∙ e
node_unfolds (Err x) old new node c number ok e = number

pub effects_below : (g : Graph) → All (λ n. n < length (graph_of g).nodes) (graph_of g).effects
effects_below g k d h = ∥∥₁_elim g.lawful (hlevel props) (λ l. (l.effects k d h).0)

-- and no effect stands for another call than before
pub unfolds_same : {A E : Type 0} (r : Result A E) (old new : plain.Graph) (node : Node) → All (λ n. n < length old.nodes) old.effects → OnOk r (new ≡ with_node node old) → OnErr r (new ≡ old) →
    unfolded new ≡ unfolded old
unfolds_same (Ok a) old new node below ok err = ap unfolded ok ∙ effects_stay old.nodes (node ∷ []) old.effects below
unfolds_same (Err x) old new node below ok err = ap unfolded err

-- a graph without effects stands for no call
pub no_effects : (g : plain.Graph) → g.effects ≡ [] → unfolded g ≡ []
no_effects g e = ap (map (call_at (calls_of g.nodes))) e
