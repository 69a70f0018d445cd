-- Graphs that grow: what a node or an input stands for stays.
use Rattle.std.proofs.Common.{◌≡◌, ℕ, suc, ◌<◌, ◌≤◌, List, [], ◌∷◌, ◌++◌, length, take, drop, map, subst, Option, Some, None, refl, sym, ap, ap₂, ◌∙◌, arith}
use Rattle.std.specs.Prelude.{All}
use Rattle.std.proofs.lemmas.List.{get_or_append_left, take-append-drop, length-take-le}
use Rattle.dx_macros.specs.Site.{Spot}
use Rattle.dx_macros.specs.Tree.{ResultTree, TreeCall, AndTree}
use Rattle.dx_ast.specs.Table.{row_of}
use Rattle.dx_graph.specs.Trails.{spot_under, no_steps, IsTrail}
use Rattle.dx_graph.specs.Graph.{Node, no_node, node_at, MayTake, AreNodes}
use Rattle.dx_graph.specs.Unfolding.{no_call, call_at, tree_of, trees_of, call_of, calls_of, UnfoldByInputs, IsBelow}
use Rattle.dx_graph.specs.declared.node.Input.{Input}
use Rattle.dx_graph.specs.declared.node.Input.TheVariants as input
use Rattle.dx_graph.proofs.Earlier.{at, kept_at, added_at}

-- ---- trails

pub spot_stays : (spots more : List Spot) (t : Option ℕ) → IsTrail (length spots) t → spot_under (spots ++ more) t ≡ spot_under spots t
spot_stays spots more None h = refl
spot_stays spots more (Some t) h = get_or_append_left spots more no_steps t (omega (arith, h))

pub trail_stays : (m n : ℕ) (t : Option ℕ) → m ≤ n → IsTrail m t → IsTrail n t
trail_stays m n t le h = omega (arith, le, h)

-- ---- calls

pub call_stays : (ns more : List Node) (n : ℕ) → n < length ns → call_at (calls_of (ns ++ more)) n ≡ call_at (calls_of ns) n
call_stays ns more n h = kept_at call_of ns more n no_call h

-- a node that joins stands for the call that its inputs make it
pub call_added : (ns : List Node) (n : Node) → call_at (calls_of (ns ++ n ∷ [])) (length ns) ≡ call_of (calls_of ns) n
call_added ns n = added_at call_of ns n no_call

-- ---- inputs

pub tree_stays : (ns more : List Node) (i : Input) → IsBelow (length ns) i → tree_of (calls_of (ns ++ more)) i ≡ tree_of (calls_of ns) i
tree_stays ns more (input.Constant c) h = refl
tree_stays ns more (input.Result n result) h = ap (ResultTree result) (call_stays ns more n h)

pub trees_stay : (ns more : List Node) (is : List Input) → All (IsBelow (length ns)) is → trees_of (calls_of (ns ++ more)) is ≡ trees_of (calls_of ns) is
trees_stay ns more [] h = refl
trees_stay ns more (i ∷ rest) h = ap₂ AndTree (tree_stays ns more i (h 0 i (omega arith))) (trees_stay ns more rest (λ k d lt. h (suc k) d (omega (arith, lt))))

pub node_stays : (ns more : List Node) (n : ℕ) → n < length ns → node_at (ns ++ more) n ≡ node_at ns n
node_stays ns more n h = get_or_append_left ns more no_node n h

pub below : (ns : List Node) (n : ℕ) (i : Input) → MayTake ns n i → IsBelow n i
below ns n (input.Constant c) h = tt
below ns n (input.Result m result) h = h.0

-- each node stands for the call that its inputs make it
pub unfold_by_inputs : (nodes : List Node) → AreNodes nodes → UnfoldByInputs nodes
unfold_by_inputs nodes all n h =
    let node = node_at nodes n in
    let before = take n nodes in
    let count : length before ≡ n = length-take-le n nodes (omega (arith, h)) in
    let whole : before ++ drop n nodes ≡ nodes = take-append-drop n nodes in
    let under : All (IsBelow (length before)) node.inputs = subst (λ k. All (IsBelow k) node.inputs) (sym count) (λ k d lt. below nodes n _ ((all n h).inputs k d lt)) in
    at call_of nodes n no_node no_call h
    ∙ ap (TreeCall node.what node.place) (sym (trees_stay before (drop n nodes) node.inputs under) ∙ ap (λ ns. trees_of (calls_of ns) node.inputs) whole)

-- what a node may take, a later one may take in the graph with more nodes
pub may_take_later : (ns more : List Node) (m n : ℕ) (i : Input) → m ≤ length ns → m ≤ n → MayTake ns m i → MayTake (ns ++ more) n i
may_take_later ns more m n (input.Constant c) le lt h = h
may_take_later ns more m n (input.Result k result) le lt h =
    let before : k < length ns = omega (arith, le, h.0) in
    (omega (arith, lt, h.0), subst (λ (node : Node). result < (row_of node.what).results) (sym (node_stays ns more k before)) h.1)

-- ---- effects

-- nodes that join change no effect
pub effects_stay : (ns more : List Node) (es : List ℕ) → All (λ n. n < length ns) es → map (call_at (calls_of (ns ++ more))) es ≡ map (call_at (calls_of ns)) es
effects_stay ns more [] h = refl
effects_stay ns more (n ∷ rest) h = ap₂ (λ c cs. c ∷ cs) (call_stays ns more n (h 0 n (omega arith))) (effects_stay ns more rest (λ k d lt. h (suc k) d (omega (arith, lt))))
