-- What operands, names and texts mean stays while the graph grows.
use Rattle.std.proofs.Common.{◌≡◌, ℕ, zero, suc, ◌≤◌, List, [], ◌∷◌, ◌++◌, length, get_or, map, Option, Some, None, refl, sym, ap, ap₂, subst, ◌∙◌, arith, length-append, append_assoc, append-nil, All}
use Rattle.dx_base.specs.NameTable.{under_name}
use Rattle.dx_ast.specs.Classes.{Text as Name}
use Rattle.dx_ast.specs.Table.{row_of}
use Rattle.dx_macros.specs.Expansion as plain
use Rattle.dx_macros.specs.Site.{Spot}
use Rattle.dx_macros.specs.Tree.{Tree, ResultTree}
use Rattle.dx_graph.specs.Trails.{spot_under, IsTrail}
use Rattle.dx_graph.specs.Sites.{IsLawfulSpot}
use Rattle.dx_graph.specs.Graph.{Node}
use Rattle.dx_graph.specs.GraphView.{graph_of, spots_in}
use Rattle.dx_graph.specs.Operands.{operand_tree, OperandFits, HasResults, results_trees, ResultsFit, Gives, given_of, GivenFits, Own, OwnFits, OptionFits, meaning, scope_with}
use Rattle.dx_texts.specs.Expanding.{Ready, Remembers, Starts, Grows, setting, under_of, top_scope, top_results}
use Rattle.dx_graph.specs.declared.graph.Graph.{Graph}
use Rattle.dx_graph.specs.declared.given.Given.{Given}
use Rattle.dx_graph.specs.declared.operand.Operand.{Operand}
use Rattle.dx_graph.specs.declared.operand.Operand.TheVariants as operand
use Rattle.dx_graph.specs.declared.operand.Results.{Results}
use Rattle.dx_graph.specs.declared.operand.Results.TheVariants as results
use Rattle.dx_texts.specs.declared.text.World.{World}
use Rattle.dx_texts.specs.declared.text.Text.{Text}
use Rattle.dx_graph.proofs.Unfolding.{call_stays, node_stays, spot_stays, trail_stays}

-- ---- operands

has_later : (ns more : List Node) (n count : ℕ) → HasResults ns n count → HasResults (ns ++ more) n count
has_later ns more n count h = record {
  node = omega (arith, h.node, length-append ns more);
  results = subst (λ (node : Node). count ≤ (row_of node.what).results) (sym (node_stays ns more n h.node)) h.results;
}

operand_fits : (ns more : List Node) (o : Operand) → OperandFits ns o → OperandFits (ns ++ more) o
operand_fits ns more operand.Null h = tt
operand_fits ns more (operand.Number n) h = tt
operand_fits ns more (operand.Constant c) h = h
operand_fits ns more (operand.Result n result) h = has_later ns more n (suc result) h

operand_stays : (ns more : List Node) (o : Operand) → OperandFits ns o → operand_tree (ns ++ more) o ≡ operand_tree ns o
operand_stays ns more operand.Null h = refl
operand_stays ns more (operand.Number n) h = refl
operand_stays ns more (operand.Constant c) h = refl
operand_stays ns more (operand.Result n result) h = ap (ResultTree result) (call_stays ns more n h.node)

-- ---- results

results_fit : (ns more : List Node) (r : Results) → ResultsFit ns r → ResultsFit (ns ++ more) r
results_fit ns more (results.One o) h = operand_fits ns more o h
results_fit ns more (results.Node n count) h = has_later ns more n count h
results_fit ns more (results.Many os) h = λ k d lt. operand_fits ns more (get_or os.items k d) (h k d lt)

nth_stays : (ns more : List Node) (os : List Operand) → All (OperandFits ns) os → (n : ℕ) → operand_tree (ns ++ more) (get_or os n operand.Null) ≡ operand_tree ns (get_or os n operand.Null)
nth_stays ns more [] h n = refl
nth_stays ns more (o ∷ os) h zero = operand_stays ns more o (h 0 o (omega arith))
nth_stays ns more (o ∷ os) h (suc n) = nth_stays ns more os (λ k d lt. h (suc k) d (omega (arith, lt))) n

results_stay : (ns more : List Node) (r : Results) → ResultsFit ns r → results_trees (ns ++ more) r ≡ results_trees ns r
results_stay ns more (results.One o) h = ap plain.only (operand_stays ns more o h)
results_stay ns more (results.Node n count) h = ap (plain.function_result count) (call_stays ns more n h.node)
results_stay ns more (results.Many os) h = λ i n. nth_stays ns more os.items h n i

gives_by : (ns more : List Node) (r : Results) (f : ℕ → Tree) → Gives ns r f → Gives (ns ++ more) r f
gives_by ns more r f g = record { fits = results_fit ns more r g.fits; trees = results_stay ns more r g.fits ∙ g.trees }

pub gives_later : (old new : List Node) (r : Results) (f : ℕ → Tree) → Starts old new → Gives old r f → Gives new r f
gives_later old new r f s g = subst (λ (ns : List Node). Gives ns r f) (sym s.1) (gives_by old s.0 r f g)

-- ---- arguments

given_stay : (ns more : List Node) (gs : List Given) → All (GivenFits ns) gs → map (given_of (ns ++ more)) gs ≡ map (given_of ns) gs
given_stay ns more [] h = refl
given_stay ns more (g ∷ gs) h = λ i. record { name = (given_of ns g).name; tree = operand_stays ns more g.operand (h 0 g (omega arith)) i } ∷ given_stay ns more gs (λ k d lt. h (suc k) d (omega (arith, lt))) i

pub given_later : (old new : List Node) (gs : List Given) → Starts old new → All (GivenFits old) gs → map (given_of new) gs ≡ map (given_of old) gs
given_later old new gs s h = ap (λ (ns : List Node). map (given_of ns) gs) s.1 ∙ given_stay old s.0 gs h

pub given_fit_later : (old new : List Node) (gs : List Given) → Starts old new → All (GivenFits old) gs → All (GivenFits new) gs
given_fit_later old new gs s h = subst (λ (ns : List Node). All (GivenFits ns) gs) (sym s.1) (λ k d lt. operand_fits old s.0 (get_or gs k d).operand (h k d lt))

-- ---- names

option_fits : (ns more : List Node) (o : Option Operand) → OptionFits ns o → OptionFits (ns ++ more) o
option_fits ns more (Some o) h = operand_fits ns more o h
option_fits ns more None h = tt

meaning_stays : (ns more : List Node) (o : Option Operand) (t : Tree) → OptionFits ns o → meaning (ns ++ more) o t ≡ meaning ns o t
meaning_stays ns more (Some o) t h = operand_stays ns more o h
meaning_stays ns more None t h = refl

pub own_fits_later : (old new : List Node) (own : Own) → Starts old new → OwnFits old own → OwnFits new own
own_fits_later old new own s h = subst (λ (ns : List Node). OwnFits ns own) (sym s.1) (λ n. option_fits old s.0 (own n) (h n))

pub scope_later : (old new : List Node) (own : Own) (top : plain.Scope) → Starts old new → OwnFits old own → scope_with new own top ≡ scope_with old own top
scope_later old new own top s h =
    let each : (n : Name) → scope_with (old ++ s.0) own top n ≡ scope_with old own top n = λ n. meaning_stays old s.0 (own n) (top n) (h n) in
    ap (λ (ns : List Node). scope_with ns own top) s.1 ∙ (λ i n. each n i)

-- ---- texts

pub remembers_later : (w : World) (old new : List Node) → Starts old new → Remembers old w → Remembers new w
remembers_later w old new s h i r e = gives_later old new r (top_results w i) s (h i r e)

spot_later : (old new : List Spot) (t : Option ℕ) → Starts old new → IsTrail (length old) t → spot_under new t ≡ spot_under old t
spot_later old new t s h = ap (λ (xs : List Spot). spot_under xs t) s.1 ∙ spot_stays old s.0 t h

trail_later : (old new : List Spot) (t : Option ℕ) → Starts old new → IsTrail (length old) t → IsTrail (length new) t
trail_later old new t s h = trail_stays (length old) (length new) t (omega (arith, ap length s.1, length-append old s.0)) h

pub ready_later : (w : World) (t : Text) (old new : Graph) → Grows old new → Ready w t old → Ready w t new
ready_later w t old new g r = record {
  memo = remembers_later w (graph_of old).nodes (graph_of new).nodes g.nodes r.memo;
  own = own_fits_later (graph_of old).nodes (graph_of new).nodes (under_name t.own) g.nodes r.own;
  trail = trail_later (spots_in old) (spots_in new) t.trail g.spots r.trail;
  spot = subst (λ (s : Spot). ∥ IsLawfulSpot t.left s ∥₁) (sym (spot_later (spots_in old) (spots_in new) t.trail g.spots r.trail)) r.spot;
}

pub setting_later : (w : World) (t : Text) (old new : Graph) → Grows old new → Ready w t old → setting w t new ≡ setting w t old
setting_later w t old new g r =
    ap₂ (λ (spot : Spot) (scope : plain.Scope). record { under = under_of w t; spot = spot; scope = scope })
    (spot_later (spots_in old) (spots_in new) t.trail g.spots r.trail)
    (scope_later (graph_of old).nodes (graph_of new).nodes (under_name t.own) (top_scope w t.position) g.nodes r.own)

-- ---- growing

starts_on : {A : Type 0} (xs ys zs : List A) → Starts xs ys → Starts ys zs → Starts xs zs
starts_on xs ys zs s t = (s.0 ++ t.0, t.1 ∙ ap (λ us. us ++ t.0) s.1 ∙ append_assoc xs s.0 t.0)

starts_self : {A : Type 0} (xs : List A) → Starts xs xs
starts_self xs = ([], sym (append-nil xs))

pub grows_on : (a b c : Graph) → Grows a b → Grows b c → Grows a c
grows_on a b c g h = record {
  nodes = starts_on (graph_of a).nodes (graph_of b).nodes (graph_of c).nodes g.nodes h.nodes;
  spots = starts_on (spots_in a) (spots_in b) (spots_in c) g.spots h.spots;
}
