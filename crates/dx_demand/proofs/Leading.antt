-- Where looking at a port stops, by where it stops at its inputs.
use Rattle.std.proofs.Common.{◌≡◌, ℕ, zero, suc, ◌<◌, List, [], ◌∷◌, length, Option, Some, None, refl, sym, ap, ◌∙◌}
use Rattle.std.specs.Prelude.{slice_get}
use Rattle.dx_base.specs.declared.function.Function.{Function}
use Rattle.dx_base.specs.declared.function.Function.TheVariants as function
use Rattle.dx_base.specs.declared.function.Module.{Module}
use Rattle.dx_base.specs.declared.function.Module.TheVariants as computing
use Rattle.dx_base.specs.declared.function.Effect.{Effect}
use Rattle.dx_macros.specs.Tree.{Place, ResultTree, CallTree}
use Rattle.dx_graph.specs.Graph.{Node, node_at, AreNodes}
use Rattle.dx_graph.specs.Unfolding.{calls_of, tree_of, trees_of}
use Rattle.dx_graph.specs.declared.node.Input.{Input}
use Rattle.dx_tags.specs.declared.term.Term.{Term}
use Rattle.dx_tags.specs.declared.term.ValueTag.{ValueTag}
use Rattle.dx_tags.specs.Closed.{ValueTerm, Head, heads_of, value_term}
use Rattle.dx_links.specs.LinkMap.{LinkMap}
use Rattle.dx_meaning.specs.Outcome.{Value}
use Rattle.dx_meaning.specs.Picking.{Shelf, pick, selector_at, module_selector, IsSelecting}
use Rattle.dx_meaning.specs.Scan.{Sight, Stop, Scanned, Forms, Ends, call_scanned, terms_in, scan, scan_each}
use Rattle.dx_meaning.specs.More.{More}
use Rattle.dx_meaning.specs.Met.{Called, met_at, picked_met, effect_met}
use Rattle.dx_meaning.specs.Halted.{halted_beside, all_halted, told_halted, selected_halted, selector_halted, module_halted, rule_halted, halted_met, each_halted}
use Rattle.dx_meaning.proofs.Keeping.{forms_kept, at_keeps, each_keeps, same_terms}
use Rattle.dx_demand.specs.Memo.{input_at, node_scans, selector_scan}
use Rattle.dx_demand.specs.Calling.{node_met}
use Rattle.dx_demand.specs.Halting.{node_halted, input_halted, port_halted, selector_calls}
use Rattle.dx_demand.specs.Picked.{shelf_with, shown_pick}
use Rattle.dx_demand.specs.Stack.{Leads, Begins}
use Rattle.dx_demand.specs.Steps.{Holds, IsPicking, TakesAll, TakesInput, TakesPick}
use Rattle.dx_demand.specs.declared.pick.Pick.{Pick}
use Rattle.dx_demand.specs.declared.settled.Port.{Port}
use Rattle.dx_demand.proofs.Picks.{shelf_same}
use Rattle.dx_demand.proofs.Ports.{call_unfolds, each_at, at_some, begins_stop, begins_keeps, selector_ends, chosen_is, picking_selects}

-- a port stops where its rule says
port_halts : (s : Sight) (nodes : List Node) → AreNodes nodes → (p : Port) → p.node < length nodes →
    port_halted s nodes p ≡ rule_halted s (node_at nodes p.node).what (node_at nodes p.node).place p.result (node_scans s nodes p.node) (node_met s nodes p.node) (node_halted s nodes p.node)
port_halts s nodes a p h = ap (λ c. halted_met s (ResultTree p.result c)) (call_unfolds nodes a p.node h)

halted_slot : (s : Sight) (nodes : List Node) (n k : ℕ) (x : Input) → slice_get (node_at nodes n).inputs k ≡ Some x → met_at (node_halted s nodes n) k ≡ input_halted s nodes x
halted_slot s nodes n k x at = slot (calls_of nodes) (node_at nodes n).inputs k x at
  where
    slot : (cs : List CallTree) (is : List Input) (k : ℕ) (x : Input) → slice_get is k ≡ Some x → met_at (each_halted s (trees_of cs is)) k ≡ halted_met s (tree_of cs x)
    slot cs [] k x at = cc
    slot cs (i ∷ is) zero x at = (let same : i ≡ x = cc in ap (λ y. halted_met s (tree_of cs y)) same)
    slot cs (i ∷ is) (suc k) x at = slot cs is k x at

-- ---- a call of a module

-- it stops at the argument behind those that form terms
first_halted : (s : Sight) (cs : List CallTree) (is : List Input) (hs : List Head) (ts : List ValueTag) (e : Stop) (x : Input) → Begins hs (scan_each s (trees_of cs is)) ts → slice_get is (length ts) ≡ Some x → scan s (tree_of cs x) ≡ Ends e →
    all_halted (scan_each s (trees_of cs is)) (each_halted s (trees_of cs is)) ≡ halted_met s (tree_of cs x)
first_halted s cs [] hs ts e x b at ends = cc
first_halted s cs (i ∷ is) hs [] e x b at ends =
    let same : i ≡ x = cc in
    ap (λ y. halted_beside y (halted_met s (tree_of cs i)) (all_halted (scan_each s (trees_of cs is)) (each_halted s (trees_of cs is)))) (ap (λ j. scan s (tree_of cs j)) same ∙ ends) ∙ ap (λ j. halted_met s (tree_of cs j)) same
first_halted s cs (i ∷ is) hs (t ∷ ts) e x b at ends =
    ap (λ y. halted_beside y (halted_met s (tree_of cs i)) (all_halted (scan_each s (trees_of cs is)) (each_halted s (trees_of cs is)))) b.0 ∙ first_halted s cs is hs ts e x b.1 at ends

-- it waits for that argument
pub module_leads : (s : Sight) (nodes : List Node) (p : Port) (m : Module) (file : Option (List ℕ)) → TakesAll s nodes p m file →
    (hs : List Head) (ts : List ValueTag) → Begins hs (node_scans s nodes p.node) ts → (q : Port) → slice_get (node_at nodes p.node).inputs (length ts) ≡ Some (input_at q) → Leads s nodes p q
module_leads s nodes p m file h hs ts b q at s' more e ends =
    let inputs = (node_at nodes p.node).inputs in
    let takes = h s' more in
    let later = begins_keeps hs (node_scans s nodes p.node) (node_scans s' nodes p.node) ts (each_keeps s s' more (trees_of (calls_of nodes) inputs)) b in (
      takes.0 ∙ ap (call_scanned m file p.result) (begins_stop hs (node_scans s' nodes p.node) ts e later (each_at s' (calls_of nodes) inputs (length ts) (input_at q) at ∙ ap Some ends)),
      takes.1 ∙ first_halted s' (calls_of nodes) inputs hs ts e (input_at q) later at ends,
    )

unnamed_halts : (s : Sight) (m : Module) (xs : List (Scanned ValueTerm)) (mets halts : List (List Called)) → module_selector m ≡ None → module_halted s m xs mets halts ≡ all_halted xs halts
unnamed_halts s computing.Import xs mets halts e = cc
unnamed_halts s computing.Select xs mets halts e = refl
unnamed_halts s computing.Extract xs mets halts e = refl
unnamed_halts s computing.Replace xs mets halts e = refl
unnamed_halts s computing.Mark xs mets halts e = refl
unnamed_halts s computing.Unmark xs mets halts e = refl
unnamed_halts s computing.Slab xs mets halts e = refl
unnamed_halts s computing.Compute xs mets halts e = refl
unnamed_halts s computing.Statistics xs mets halts e = refl
unnamed_halts s computing.Histogram xs mets halts e = refl
unnamed_halts s computing.Collect xs mets halts e = refl
unnamed_halts s computing.CollectNamed xs mets halts e = refl
unnamed_halts s computing.CollectSeries xs mets halts e = refl
unnamed_halts s computing.Inquire xs mets halts e = refl

pub unnamed_halted : (s : Sight) (nodes : List Node) → AreNodes nodes → (p : Port) → p.node < length nodes → (m : Module) → (node_at nodes p.node).what ≡ function.Module m → module_selector m ≡ None →
    port_halted s nodes p ≡ all_halted (node_scans s nodes p.node) (node_halted s nodes p.node)
unnamed_halted s nodes a p h m w e =
    port_halts s nodes a p h ∙ ap (λ (f : Function). rule_halted s f (node_at nodes p.node).place p.result (node_scans s nodes p.node) (node_met s nodes p.node) (node_halted s nodes p.node)) w
    ∙ unnamed_halts s m (node_scans s nodes p.node) (node_met s nodes p.node) (node_halted s nodes p.node) e

-- ---- a call with a selector

-- where its value leads to
abbrev leads_to : Sight → Function → Place → ℕ → List (Scanned ValueTerm) → List (List Called) → Value → List Called
leads_to s (function.Module m) p result xs halts v = all_halted xs halts
leads_to s other p result xs halts v = picked_met halts (pick (terms_in s) other p result v)

selecting_module_halts : (s : Sight) (m : Module) (p : Place) (result : ℕ) (xs : List (Scanned ValueTerm)) (mets halts : List (List Called)) → IsSelecting (function.Module m) →
    module_halted s m xs mets halts ≡ selector_halted s (function.Module m) xs mets halts (leads_to s (function.Module m) p result xs halts)
selecting_module_halts s computing.Import p result xs mets halts i = refl
selecting_module_halts s computing.Select p result xs mets halts i = cc
selecting_module_halts s computing.Extract p result xs mets halts i = cc
selecting_module_halts s computing.Replace p result xs mets halts i = cc
selecting_module_halts s computing.Mark p result xs mets halts i = cc
selecting_module_halts s computing.Unmark p result xs mets halts i = cc
selecting_module_halts s computing.Slab p result xs mets halts i = cc
selecting_module_halts s computing.Compute p result xs mets halts i = cc
selecting_module_halts s computing.Statistics p result xs mets halts i = cc
selecting_module_halts s computing.Histogram p result xs mets halts i = cc
selecting_module_halts s computing.Collect p result xs mets halts i = cc
selecting_module_halts s computing.CollectNamed p result xs mets halts i = cc
selecting_module_halts s computing.CollectSeries p result xs mets halts i = cc
selecting_module_halts s computing.Inquire p result xs mets halts i = cc

selecting_halts : (s : Sight) (f : Function) (p : Place) (result : ℕ) (xs : List (Scanned ValueTerm)) (mets halts : List (List Called)) → IsSelecting f →
    rule_halted s f p result xs mets halts ≡ selector_halted s f xs mets halts (leads_to s f p result xs halts)
selecting_halts s function.Switch p result xs mets halts i = refl
selecting_halts s function.Route p result xs mets halts i = refl
selecting_halts s function.GetLocal p result xs mets halts i = refl
selecting_halts s function.GetGlobal p result xs mets halts i = refl
selecting_halts s (function.Module m) p result xs mets halts i = selecting_module_halts s m p result xs mets halts i
selecting_halts s (function.Effect e) p result xs mets halts i = cc

selector_halts : (s : Sight) (nodes : List Node) → AreNodes nodes → (p : Port) → p.node < length nodes → IsSelecting (node_at nodes p.node).what → (x : Scanned ValueTerm) → selector_scan s nodes p.node ≡ x →
    port_halted s nodes p ≡ selected_halted s x (met_at (node_halted s nodes p.node) (selector_at (node_at nodes p.node).what)) (selector_calls s nodes p.node) (leads_to s (node_at nodes p.node).what (node_at nodes p.node).place p.result (node_scans s nodes p.node) (node_halted s nodes p.node))
selector_halts s nodes a p h i x e =
    let node = node_at nodes p.node in
    let halts = node_halted s nodes p.node in
    port_halts s nodes a p h ∙ selecting_halts s node.what node.place p.result (node_scans s nodes p.node) (node_met s nodes p.node) halts i
    ∙ ap (λ y. selected_halted s y (met_at halts (selector_at node.what)) (selector_calls s nodes p.node) (leads_to s node.what node.place p.result (node_scans s nodes p.node) halts)) e

-- it waits for its selector
pub selector_leads : (s : Sight) (nodes : List Node) → AreNodes nodes → (p : Port) → p.node < length nodes → IsSelecting (node_at nodes p.node).what → (q : Port) →
    slice_get (node_at nodes p.node).inputs (selector_at (node_at nodes p.node).what) ≡ Some (input_at q) → Leads s nodes p q
selector_leads s nodes a p h i q at s' more e ends =
    let node = node_at nodes p.node in
    let is : selector_scan s' nodes p.node ≡ Ends e = at_some (node_scans s' nodes p.node) (selector_at node.what) (Ends e) (each_at s' (calls_of nodes) node.inputs (selector_at node.what) (input_at q) at ∙ ap Some ends) in
    (selector_ends s' nodes a p h i e is, selector_halts s' nodes a p h i (Ends e) is ∙ halted_slot s' nodes p.node (selector_at node.what) (input_at q) at)

-- its value isn't told
pub selector_stops : (s : Sight) (nodes : List Node) → AreNodes nodes → (p : Port) → p.node < length nodes → IsSelecting (node_at nodes p.node).what → (t : ValueTerm) → selector_scan s nodes p.node ≡ Forms t → s.told t ≡ None →
    port_halted s nodes p ≡ selector_calls s nodes p.node
selector_stops s nodes a p h i t e none =
    let node = node_at nodes p.node in
    selector_halts s nodes a p h i (Forms t) e
    ∙ ap (λ o. told_halted o (selector_calls s nodes p.node) (leads_to s node.what node.place p.result (node_scans s nodes p.node) (node_halted s nodes p.node))) none

-- its value is told, also as more is
told_leads : (s : Sight) (nodes : List Node) → AreNodes nodes → (p : Port) → p.node < length nodes → IsSelecting (node_at nodes p.node).what → (t : ValueTerm) → selector_scan s nodes p.node ≡ Forms t → (v : Value) → s.told t ≡ Some v →
    (s' : Sight) → More s s' → port_halted s' nodes p ≡ leads_to s' (node_at nodes p.node).what (node_at nodes p.node).place p.result (node_scans s' nodes p.node) (node_halted s' nodes p.node) v
told_leads s nodes a p h i t e v told s' more =
    let node = node_at nodes p.node in
    let kept = each_keeps s s' more (trees_of (calls_of nodes) node.inputs) in
    let at = at_keeps (node_scans s nodes p.node) (node_scans s' nodes p.node) kept (selector_at node.what) in
    selector_halts s' nodes a p h i (Forms t) (forms_kept (selector_scan s nodes p.node) (selector_scan s' nodes p.node) t at e)
    ∙ ap (λ o. told_halted o (selector_calls s' nodes p.node) (leads_to s' node.what node.place p.result (node_scans s' nodes p.node) (node_halted s' nodes p.node))) (more.told t v told)

picking_leads : (s : Sight) (f : Function) (p : Place) (result : ℕ) (xs : List (Scanned ValueTerm)) (halts : List (List Called)) (v : Value) → IsPicking f → leads_to s f p result xs halts v ≡ picked_met halts (pick (terms_in s) f p result v)
picking_leads s function.Switch p result xs halts v i = refl
picking_leads s function.Route p result xs halts v i = refl
picking_leads s function.GetLocal p result xs halts v i = refl
picking_leads s function.GetGlobal p result xs halts v i = refl
picking_leads s (function.Module m) p result xs halts v i = absurd i
picking_leads s (function.Effect e) p result xs halts v i = absurd i

pub selector_halted_by : (s : Sight) (nodes : List Node) → AreNodes nodes → (p : Port) → p.node < length nodes → IsPicking (node_at nodes p.node).what → (t : ValueTerm) → selector_scan s nodes p.node ≡ Forms t → (v : Value) → s.told t ≡ Some v →
    (s' : Sight) → More s s' → port_halted s' nodes p ≡ picked_met (node_halted s' nodes p.node) (pick (terms_in s') (node_at nodes p.node).what (node_at nodes p.node).place p.result v)
selector_halted_by s nodes a p h i t e v told s' more =
    let node = node_at nodes p.node in
    told_leads s nodes a p h (picking_selects node.what i) t e v told s' more ∙ picking_leads s' node.what node.place p.result (node_scans s' nodes p.node) (node_halted s' nodes p.node) v i

pub named_halted : (s : Sight) (nodes : List Node) → AreNodes nodes → (p : Port) → p.node < length nodes → (m : Module) → (node_at nodes p.node).what ≡ function.Module m → IsSelecting (node_at nodes p.node).what →
    (t : ValueTerm) → selector_scan s nodes p.node ≡ Forms t → (v : Value) → s.told t ≡ Some v → (s' : Sight) → More s s' → port_halted s' nodes p ≡ all_halted (node_scans s' nodes p.node) (node_halted s' nodes p.node)
named_halted s nodes a p h m w i t e v told s' more =
    told_leads s nodes a p h i t e v told s' more ∙ ap (λ (f : Function). leads_to s' f (node_at nodes p.node).place p.result (node_scans s' nodes p.node) (node_halted s' nodes p.node) v) w

-- what the code picks
pub code_halted : (nodes : List Node) (links : LinkMap) (terms : List Term) (s : Sight) → Holds links terms s → (p : Port) (v : Value) (c : Pick) →
    shown_pick (value_term (heads_of terms)) c ≡ pick (shelf_with (value_term (heads_of terms)) links) (node_at nodes p.node).what (node_at nodes p.node).place p.result v → TakesPick s nodes p v →
    (s' : Sight) → More s s' → port_halted s' nodes p ≡ picked_met (node_halted s' nodes p.node) (shown_pick (value_term (heads_of terms)) c)
code_halted nodes links terms s holds p v c e h s' more =
    let node = node_at nodes p.node in
    (h s' more).1
    ∙ ap (λ (shelf : Shelf ValueTerm). picked_met (node_halted s' nodes p.node) (pick shelf node.what node.place p.result v)) (same_terms s s' more ∙ shelf_same links terms s holds)
    ∙ ap (picked_met (node_halted s' nodes p.node)) (sym e)

-- ---- a port that comes to what an input comes to

pub chosen_leads : (s : Sight) (nodes : List Node) (p : Port) (k : ℕ) → TakesInput s nodes p k → (q : Port) → slice_get (node_at nodes p.node).inputs k ≡ Some (input_at q) → Leads s nodes p q
chosen_leads s nodes p k h q at s' more e ends =
    let takes = h s' more in
    (chosen_is s' nodes p k takes.0 (input_at q) at ∙ ends, takes.1 ∙ halted_slot s' nodes p.node k (input_at q) at)

pub effect_halted : (s : Sight) (nodes : List Node) → AreNodes nodes → (p : Port) → p.node < length nodes → (e : Effect) → (node_at nodes p.node).what ≡ function.Effect e → port_halted s nodes p ≡ effect_met e (node_halted s nodes p.node)
effect_halted s nodes a p h e w =
    port_halts s nodes a p h ∙ ap (λ (f : Function). rule_halted s f (node_at nodes p.node).place p.result (node_scans s nodes p.node) (node_met s nodes p.node) (node_halted s nodes p.node)) w
