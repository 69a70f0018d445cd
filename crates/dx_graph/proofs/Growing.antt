-- A graph stays lawful while it grows.
use Rattle.std.proofs.Common.{◌≡◌, ◌⊎◌, inl, inr, ℕ, suc, ◌+◌, ◌<◌, ◌≤◌, List, [], ◌∷◌, ◌++◌, length, get_or, take, map, Bool, true, false, refl, sym, ap, subst, ◌∙◌, arith, length-append}
use Rattle.std.specs.Prelude.{Result, Ok, Err, IfOk, OnOk, OnErr, if◌then◌else◌}
use Rattle.std.proofs.lemmas.List.{get_or_push}
use Rattle.std.proofs.lemmas.List.Elements.{All-push, All-take}
use Rattle.std.proofs.Math.Logic.{∥∥₁_map}
use Rattle.std.proofs.Math.Nat.{eq-or-lt_of_le}
use Rattle.dx_graph.specs.Trails.{spot_of, spots_of}
use Rattle.dx_graph.specs.Graph.{Node, Graph, no_node, node_of, node_at, with_node, with_effects, IsNode, AreNodes, IsEffect, IsEffectNode, IsGraph}
use Rattle.dx_graph.specs.Shown.{plain_node, graph_with, IsPlaced, ArePlaced}
use Rattle.dx_graph.specs.declared.node.Placed.{Placed}
use Rattle.dx_graph.specs.declared.trail.Trail.{Trail}
use Rattle.dx_graph.proofs.Earlier.{append_nil, same_length}
use Rattle.dx_graph.proofs.Walking.{under_more, map_push}
use Rattle.dx_graph.proofs.Unfolding.{node_stays, may_take_later}

-- ---- one element more, or none where memory ran out

pub longer : {A R E : Type 0} (r : Result R E) (old new : List A) (x : A) → OnOk r (new ≡ old ++ x ∷ []) → OnErr r (new ≡ old) → (more : List A) × (new ≡ old ++ more)
longer (Ok a) old new x ok err = (x ∷ [], ok)
longer (Err e) old new x ok err = ([], err ∙ sym (append_nil old))

pub on_ok : {R E P Q : Type 0} (r : Result R E) → (P → Q) → OnOk r P → OnOk r Q
on_ok (Ok a) go h = go h
on_ok (Err e) go h = h

pub if_ok : {R E : Type 0} {P Q : R → Type 0} (r : Result R E) → ((x : R) → P x → Q x) → IfOk r P → IfOk r Q
if_ok (Ok a) go h = go a h
if_ok (Err e) go h = h

-- ---- more trails

same_nodes : (ts more : List Trail) (ps : List Placed) → ArePlaced (length ts) ps → map (plain_node (spots_of (ts ++ more))) ps ≡ map (plain_node (spots_of ts)) ps
same_nodes ts more [] h = refl
same_nodes ts more (p ∷ rest) h = λ i.
    node_of (under_more ts more p.trail (h 0 p (omega arith)) i) p.called p.node.what p.node.inputs p.node.cache p.k
    ∷ same_nodes ts more rest (λ k d lt. h (suc k) d (omega (arith, lt))) i

-- more trails change no node
pub same_graph : (old new more : List Trail) (ps : List Placed) (es : List ℕ) → new ≡ old ++ more → ArePlaced (length old) ps → graph_with new ps es ≡ graph_with old ps es
same_graph old new more ps es e h = ap (λ ts. graph_with ts ps es) e ∙ ap (λ ns. record { nodes = ns; effects = es }) (same_nodes old more ps h)

pub placed_more : (old new more : List Trail) (ps : List Placed) → new ≡ old ++ more → ArePlaced (length old) ps → ArePlaced (length new) ps
placed_more old new more ps e h k d lt = omega (arith, h k d lt, ap length e, length-append old more)

-- ---- one node more

last_or_under : (n count : ℕ) → (n ≡ count) ⊎ (n < count) → (n < count) ⊎ (n ≡ count)
last_or_under n count (inl e) = inr e
last_or_under n count (inr lt) = inl lt

under_last : (n count : ℕ) → n < count + 1 → (n < count) ⊎ (n ≡ count)
under_last n count h = last_or_under n count (eq-or-lt_of_le (omega (arith, h)))

node_later : (ns more : List Node) (n : ℕ) (node : Node) → n ≤ length ns → IsNode ns n node → IsNode (ns ++ more) n node
node_later ns more n node le h = record {
  inputs = λ k d lt. may_take_later ns more n n (get_or node.inputs k d) le (omega arith) (h.inputs k d lt);
  enough = h.enough;
  few = h.few;
  cache = h.cache;
  site = h.site;
}

node_by : (ns : List Node) (node : Node) (n : ℕ) → AreNodes ns → IsNode ns (length ns) node → (n < length ns) ⊎ (n ≡ length ns) → IsNode (ns ++ node ∷ []) n (node_at (ns ++ node ∷ []) n)
node_by ns node n all h (inl lt) =
    subst (λ m. IsNode (ns ++ node ∷ []) n m) (sym (node_stays ns (node ∷ []) n lt)) (node_later ns (node ∷ []) n (node_at ns n) (omega (arith, lt)) (all n lt))
node_by ns node n all h (inr e) =
    subst (λ m. IsNode (ns ++ node ∷ []) m (node_at (ns ++ node ∷ []) m)) (sym e)
    (subst (λ m. IsNode (ns ++ node ∷ []) (length ns) m) (sym (get_or_push ns node no_node (length ns) refl)) (node_later ns (node ∷ []) (length ns) node (omega arith) h))

pub nodes_push : (ns : List Node) (node : Node) → AreNodes ns → IsNode ns (length ns) node → AreNodes (ns ++ node ∷ [])
nodes_push ns node all h n lt = node_by ns node n all h (under_last n (length ns) (omega (arith, lt, length-append ns (node ∷ []))))

effect_later : (ns more : List Node) (n : ℕ) → IsEffectNode ns n → IsEffectNode (ns ++ more) n
effect_later ns more n h = (omega (arith, h.0, length-append ns more), subst (λ (node : Node). IsEffect node.what) (sym (node_stays ns more n h.0)) h.1)

graph_push : (g : Graph) (node : Node) → IsGraph g → IsNode g.nodes (length g.nodes) node → IsGraph (with_node node g)
graph_push g node all h = record {
  nodes = nodes_push g.nodes node all.nodes h;
  effects = λ k d lt. effect_later g.nodes (node ∷ []) (get_or g.effects k d) (all.effects k d lt);
}

pub with_push : (ts : List Trail) (ps : List Placed) (p : Placed) (es : List ℕ) → graph_with ts (ps ++ p ∷ []) es ≡ with_node (plain_node (spots_of ts) p) (graph_with ts ps es)
with_push ts ps p es = ap (λ ns. record { nodes = ns; effects = es }) (map_push (plain_node (spots_of ts)) ps p)

-- what holds with one element more and without it holds after a push
pub either : {A : Type 0} (P : List A → Type 0) (b : Bool) (old later new : List A) → P old → P later → new ≡ (if b then later else old) → P new
either P true old later new without with_it e = subst P (sym e) with_it
either P false old later new without with_it e = subst P (sym e) without

pub lawful_push : (ts : List Trail) (old : List Placed) (p : Placed) (es : List ℕ) → ∥ IsGraph (graph_with ts old es) ∥₁ →
    IsNode (graph_with ts old es).nodes (length (graph_with ts old es).nodes) (plain_node (spots_of ts) p) → ∥ IsGraph (graph_with ts (old ++ p ∷ []) es) ∥₁
lawful_push ts old p es all h =
    subst (λ g. ∥ IsGraph g ∥₁) (sym (with_push ts old p es)) (∥∥₁_map all (λ is. graph_push (graph_with ts old es) (plain_node (spots_of ts) p) is h))

pub placed_push : (count : ℕ) (old : List Placed) (p : Placed) → ArePlaced count old → IsPlaced count p → ArePlaced count (old ++ p ∷ [])
placed_push count old p all h = All-push (IsPlaced count) old p all h

-- ---- other effects

pub effects_push : (g : Graph) (n : ℕ) → ∥ IsGraph g ∥₁ → IsEffectNode g.nodes n → ∥ IsGraph (with_effects (g.effects ++ n ∷ []) g) ∥₁
effects_push g n all h = ∥∥₁_map all (λ is. record { nodes = is.nodes; effects = All-push (IsEffectNode g.nodes) g.effects n is.effects h })

pub effects_take : (g : Graph) (count : ℕ) → ∥ IsGraph g ∥₁ → ∥ IsGraph (with_effects (take count g.effects) g) ∥₁
effects_take g count all = ∥∥₁_map all (λ is. record { nodes = is.nodes; effects = All-take (IsEffectNode g.nodes) count g.effects is.effects })

-- ---- counts

pub count_spots : (ts : List Trail) → length (spots_of ts) ≡ length ts
count_spots ts = same_length spot_of ts

-- ---- a node that is read
