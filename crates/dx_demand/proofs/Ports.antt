-- What looking at a node's results finds, by its inputs.
use Rattle.std.proofs.Common.{◌≡◌, ℕ, zero, suc, ◌<◌, ◌≤◌, List, [], ◌∷◌, ◌++◌, length, take, drop, Option, Some, None, refl, sym, ap, ap₂, ◌∙◌, subst, arith, All}
use Rattle.std.specs.Prelude.{slice_get, is_some, true, false}
use Rattle.std.proofs.lemmas.List.{take-append-drop, length-take-le}
use Rattle.dx_base.specs.declared.function.Function.{Function}
use Rattle.dx_base.specs.declared.function.Function.TheVariants as function
use Rattle.dx_base.specs.declared.function.Module.{Module}
use Rattle.dx_base.specs.declared.function.Module.TheVariants as computing
use Rattle.dx_base.specs.declared.function.Effect.{Effect}
use Rattle.dx_base.specs.declared.function.Effect.TheVariants as effect
use Rattle.dx_macros.specs.Tree.{Place, ResultTree, CallTree, TreeCall}
use Rattle.dx_graph.specs.Graph.{Node, no_node, node_at, MayTake, AreNodes}
use Rattle.dx_graph.specs.Unfolding.{no_call, call_at, tree_of, trees_of, call_of, calls_of, IsBelow}
use Rattle.dx_graph.specs.declared.node.Input.{Input}
use Rattle.dx_graph.proofs.Earlier.{at}
use Rattle.dx_graph.proofs.Unfolding.{trees_stay, below}
use Rattle.dx_tags.specs.declared.term.ValueTag.{ValueTag}
use Rattle.dx_tags.specs.Closed.{ValueTerm, Head, value_term, value_terms}
use Rattle.dx_meaning.specs.Outcome.{Value}
use Rattle.dx_meaning.specs.Picking.{pick, or_first, selector_place, selector_at, module_selector, IsSelecting}
use Rattle.dx_meaning.specs.Scan.{Sight, Stop, Needs, Scanned, Forms, Ends, scanned_beside, all_scanned, null_term, scanned_at, call_scanned, picked_scanned, written_for, terms_in, told_scanned, selected, valued, selector_scanned, effect_scanned, module_scanned, rule_scanned, scan, scan_each}
use Rattle.dx_meaning.specs.More.{More}
use Rattle.dx_demand.specs.Memo.{node_scans, input_scan, port_scan, selector_scan, site_of}
use Rattle.dx_demand.specs.Stack.{Begins}
use Rattle.dx_demand.specs.declared.settled.Port.{Port}
use Rattle.dx_demand.specs.Steps.{IsPicking}
use Rattle.dx_meaning.proofs.Keeping.{EachKeeps, forms_kept, at_keeps, each_keeps, same_file}

-- ---- nodes

below_all : (nodes : List Node) (n : ℕ) (is : List Input) → All (MayTake nodes n) is → All (IsBelow n) is
below_all nodes n is h k d lt = below nodes n _ (h k d lt)

-- a node stands for the call that its inputs make it
pub call_unfolds : (nodes : List Node) → AreNodes nodes → (n : ℕ) → n < length nodes → call_at (calls_of nodes) n ≡ call_of (calls_of nodes) (node_at nodes n)
call_unfolds nodes a n h =
    let node = node_at nodes n in
    let before = take n nodes in
    let count : length before ≡ n = length-take-le n nodes (omega (arith, h)) in
    let whole : before ++ drop n nodes ≡ nodes = take-append-drop n nodes in
    let under : All (IsBelow (length before)) node.inputs = subst (λ k. All (IsBelow k) node.inputs) (sym count) (below_all nodes n node.inputs (a n h).inputs) in
    at call_of nodes n no_node no_call h
    ∙ ap (TreeCall node.what node.place) (sym (trees_stay before (drop n nodes) node.inputs under) ∙ ap (λ ns. trees_of (calls_of ns) node.inputs) whole)

pub port_rule : (s : Sight) (nodes : List Node) → AreNodes nodes → (p : Port) → p.node < length nodes →
    port_scan s nodes p ≡ rule_scanned s (node_at nodes p.node).what (node_at nodes p.node).place p.result (node_scans s nodes p.node)
port_rule s nodes a p h = ap (λ c. scan s (ResultTree p.result c)) (call_unfolds nodes a p.node h)

pub rule_as : (s : Sight) (f h : Function) (p : Place) (result : ℕ) (ss : List (Scanned ValueTerm)) → f ≡ h → rule_scanned s f p result ss ≡ rule_scanned s h p result ss
rule_as s f h p result ss e = ap (λ x. rule_scanned s x p result ss) e

-- ---- inputs

pub each_at : (s : Sight) (cs : List CallTree) (is : List Input) (i : ℕ) (x : Input) → slice_get is i ≡ Some x → slice_get (scan_each s (trees_of cs is)) i ≡ Some (scan s (tree_of cs x))
each_at s cs [] i x e = cc
each_at s cs (first ∷ is) zero x e = let same : first ≡ x = cc in ap (λ y. Some (scan s (tree_of cs y))) same
each_at s cs (first ∷ is) (suc i) x e = each_at s cs is i x e

pub each_length : (s : Sight) (cs : List CallTree) (is : List Input) → length (scan_each s (trees_of cs is)) ≡ length is
each_length s cs [] = refl
each_length s cs (first ∷ is) = ap suc (each_length s cs is)

pub at_some : (ss : List (Scanned ValueTerm)) (n : ℕ) (x : Scanned ValueTerm) → slice_get ss n ≡ Some x → scanned_at ss n ≡ x
at_some [] n x e = cc
at_some (s ∷ ss) zero x e = cc
at_some (s ∷ ss) (suc n) x e = at_some ss n x e

pub at_past : (ss : List (Scanned ValueTerm)) (n : ℕ) → length ss ≤ n → scanned_at ss n ≡ Forms null_term
at_past [] n h = refl
at_past (s ∷ ss) zero h = absurd (omega (arith, h))
at_past (s ∷ ss) (suc n) h = at_past ss n (omega (arith, h))

-- ---- the first arguments

pub begins_push : (hs : List Head) (ss : List (Scanned ValueTerm)) (ts : List ValueTag) (t : ValueTag) → Begins hs ss ts → slice_get ss (length ts) ≡ Some (Forms (value_term hs t)) → Begins hs ss (ts ++ t ∷ [])
begins_push hs [] [] t b e = cc
begins_push hs (s ∷ ss) [] t b e = (cc, tt)
begins_push hs [] (u ∷ ts) t b e = b
begins_push hs (s ∷ ss) (u ∷ ts) t b e = (b.0, begins_push hs ss ts t b.1 e)

pub begins_all : (hs : List Head) (ss : List (Scanned ValueTerm)) (ts : List ValueTag) → Begins hs ss ts → length ss ≤ length ts → all_scanned ss ≡ Forms (value_terms hs ts)
begins_all hs [] [] b h = refl
begins_all hs (s ∷ ss) [] b h = absurd (omega (arith, h))
begins_all hs [] (u ∷ ts) b h = absurd b
begins_all hs (s ∷ ss) (u ∷ ts) b h = ap₂ scanned_beside b.0 (begins_all hs ss ts b.1 (omega (arith, h)))

pub begins_stop : (hs : List Head) (ss : List (Scanned ValueTerm)) (ts : List ValueTag) (e : Stop) → Begins hs ss ts → slice_get ss (length ts) ≡ Some (Ends e) → all_scanned ss ≡ Ends e
begins_stop hs [] [] x b e = cc
begins_stop hs (s ∷ ss) [] x b e = let same : s ≡ Ends x = cc in ap (λ y. scanned_beside y (all_scanned ss)) same
begins_stop hs [] (u ∷ ts) x b e = absurd b
begins_stop hs (s ∷ ss) (u ∷ ts) x b e = ap₂ scanned_beside b.0 (begins_stop hs ss ts x b.1 e)

pub begins_keeps : (hs : List Head) (ss ss' : List (Scanned ValueTerm)) (ts : List ValueTag) → EachKeeps ss ss' → Begins hs ss ts → Begins hs ss' ts
begins_keeps hs ss ss' [] k b = tt
begins_keeps hs [] ss' (t ∷ ts) k b = absurd b
begins_keeps hs (s ∷ ss) [] (t ∷ ts) k b = absurd k
begins_keeps hs (s ∷ ss) (s' ∷ ss') (t ∷ ts) k b = (forms_kept s s' (value_term hs t) k.0 b.0, begins_keeps hs ss ss' ts k.1 b.1)

-- ---- a call of a module

unnamed_call : (s : Sight) (m : Module) (p : Place) (result : ℕ) (ss : List (Scanned ValueTerm)) → module_selector m ≡ None → module_scanned s m p result ss ≡ call_scanned m None result (all_scanned ss)
unnamed_call s computing.Import p result ss e = cc
unnamed_call s computing.Select p result ss e = refl
unnamed_call s computing.Extract p result ss e = refl
unnamed_call s computing.Replace p result ss e = refl
unnamed_call s computing.Mark p result ss e = refl
unnamed_call s computing.Unmark p result ss e = refl
unnamed_call s computing.Slab p result ss e = refl
unnamed_call s computing.Compute p result ss e = refl
unnamed_call s computing.Statistics p result ss e = refl
unnamed_call s computing.Histogram p result ss e = refl
unnamed_call s computing.Collect p result ss e = refl
unnamed_call s computing.CollectNamed p result ss e = refl
unnamed_call s computing.CollectSeries p result ss e = refl
unnamed_call s computing.Inquire p result ss e = refl

-- a call that has no selector is formed by its arguments alone
pub unnamed_rule : (s : Sight) (nodes : List Node) → AreNodes nodes → (p : Port) → p.node < length nodes → (m : Module) → (node_at nodes p.node).what ≡ function.Module m → module_selector m ≡ None →
    port_scan s nodes p ≡ call_scanned m None p.result (all_scanned (node_scans s nodes p.node))
unnamed_rule s nodes a p h m w e =
    port_rule s nodes a p h ∙ rule_as s _ (function.Module m) (node_at nodes p.node).place p.result (node_scans s nodes p.node) w
    ∙ unnamed_call s m (node_at nodes p.node).place p.result (node_scans s nodes p.node) e

-- ---- a call with a selector

selecting_module : (s : Sight) (m : Module) (p : Place) (result : ℕ) (ss : List (Scanned ValueTerm)) → IsSelecting (function.Module m) → module_scanned s m p result ss ≡ selector_scanned s (function.Module m) p result ss
selecting_module s computing.Import p result ss i = refl
selecting_module s computing.Select p result ss i = cc
selecting_module s computing.Extract p result ss i = cc
selecting_module s computing.Replace p result ss i = cc
selecting_module s computing.Mark p result ss i = cc
selecting_module s computing.Unmark p result ss i = cc
selecting_module s computing.Slab p result ss i = cc
selecting_module s computing.Compute p result ss i = cc
selecting_module s computing.Statistics p result ss i = cc
selecting_module s computing.Histogram p result ss i = cc
selecting_module s computing.Collect p result ss i = cc
selecting_module s computing.CollectNamed p result ss i = cc
selecting_module s computing.CollectSeries p result ss i = cc
selecting_module s computing.Inquire p result ss i = cc

selecting_rule : (s : Sight) (f : Function) (p : Place) (result : ℕ) (ss : List (Scanned ValueTerm)) → IsSelecting f → rule_scanned s f p result ss ≡ selector_scanned s f p result ss
selecting_rule s function.Switch p result ss i = refl
selecting_rule s function.Route p result ss i = refl
selecting_rule s function.GetLocal p result ss i = refl
selecting_rule s function.GetGlobal p result ss i = refl
selecting_rule s (function.Module m) p result ss i = selecting_module s m p result ss i
selecting_rule s (function.Effect e) p result ss i = cc

selector_rule : (s : Sight) (nodes : List Node) → AreNodes nodes → (p : Port) → p.node < length nodes → IsSelecting (node_at nodes p.node).what → (x : Scanned ValueTerm) → selector_scan s nodes p.node ≡ x →
    port_scan s nodes p ≡ selected s (node_at nodes p.node).what (node_at nodes p.node).place p.result (node_scans s nodes p.node) x
selector_rule s nodes a p h i x e =
    let node = node_at nodes p.node in
    port_rule s nodes a p h ∙ selecting_rule s node.what node.place p.result (node_scans s nodes p.node) i
    ∙ ap (selected s node.what node.place p.result (node_scans s nodes p.node)) e

pub selector_ends : (s : Sight) (nodes : List Node) → AreNodes nodes → (p : Port) → p.node < length nodes → IsSelecting (node_at nodes p.node).what → (e : Stop) → selector_scan s nodes p.node ≡ Ends e → port_scan s nodes p ≡ Ends e
selector_ends s nodes a p h i x e = selector_rule s nodes a p h i (Ends x) e

pub selector_needs : (s : Sight) (nodes : List Node) → AreNodes nodes → (p : Port) → p.node < length nodes → IsSelecting (node_at nodes p.node).what → (t : ValueTerm) → selector_scan s nodes p.node ≡ Forms t → s.told t ≡ None →
    port_scan s nodes p ≡ Ends (Needs (site_of nodes p.node) t)
selector_needs s nodes a p h i t e none =
    let node = node_at nodes p.node in
    selector_rule s nodes a p h i (Forms t) e ∙ ap (told_scanned s node.what node.place p.result (node_scans s nodes p.node) t) none

-- what its value comes to, also as more is told
pub selector_values : (s : Sight) (nodes : List Node) → AreNodes nodes → (p : Port) → p.node < length nodes → IsSelecting (node_at nodes p.node).what → (t : ValueTerm) → selector_scan s nodes p.node ≡ Forms t → (v : Value) → s.told t ≡ Some v →
    (s' : Sight) → More s s' → port_scan s' nodes p ≡ valued s' (node_at nodes p.node).what (node_at nodes p.node).place p.result (node_scans s' nodes p.node) v
selector_values s nodes a p h i t e v told s' more =
    let node = node_at nodes p.node in
    let kept = each_keeps s s' more (trees_of (calls_of nodes) node.inputs) in
    let at = at_keeps (node_scans s nodes p.node) (node_scans s' nodes p.node) kept (selector_at node.what) in
    selector_rule s' nodes a p h i (Forms t) (forms_kept (selector_scan s nodes p.node) (selector_scan s' nodes p.node) t at e)
    ∙ ap (told_scanned s' node.what node.place p.result (node_scans s' nodes p.node) t) (more.told t v told)

picking_value : (s : Sight) (f : Function) (p : Place) (result : ℕ) (ss : List (Scanned ValueTerm)) (v : Value) → IsPicking f → valued s f p result ss v ≡ picked_scanned p ss (pick (terms_in s) f p result v)
picking_value s function.Switch p result ss v i = refl
picking_value s function.Route p result ss v i = refl
picking_value s function.GetLocal p result ss v i = refl
picking_value s function.GetGlobal p result ss v i = refl
picking_value s (function.Module m) p result ss v i = absurd i
picking_value s (function.Effect e) p result ss v i = absurd i

pub picking_selects : (f : Function) → IsPicking f → IsSelecting f
picking_selects function.Switch i = refl
picking_selects function.Route i = refl
picking_selects function.GetLocal i = refl
picking_selects function.GetGlobal i = refl
picking_selects (function.Module m) i = absurd i
picking_selects (function.Effect e) i = absurd i

-- what its value picks, also as more is told
pub selector_picks : (s : Sight) (nodes : List Node) → AreNodes nodes → (p : Port) → p.node < length nodes → IsPicking (node_at nodes p.node).what → (t : ValueTerm) → selector_scan s nodes p.node ≡ Forms t → (v : Value) → s.told t ≡ Some v →
    (s' : Sight) → More s s' → port_scan s' nodes p ≡ picked_scanned (node_at nodes p.node).place (node_scans s' nodes p.node) (pick (terms_in s') (node_at nodes p.node).what (node_at nodes p.node).place p.result v)
selector_picks s nodes a p h i t e v told s' more =
    let node = node_at nodes p.node in
    selector_values s nodes a p h (picking_selects node.what i) t e v told s' more
    ∙ picking_value s' node.what node.place p.result (node_scans s' nodes p.node) v i

-- the selector of a module is its first input
pub names_first : (m : Module) → is_some (module_selector m) ≡ true → module_selector m ≡ Some 0
names_first computing.Import e = refl
names_first computing.Select e = cc
names_first computing.Extract e = cc
names_first computing.Replace e = cc
names_first computing.Mark e = cc
names_first computing.Unmark e = cc
names_first computing.Slab e = cc
names_first computing.Compute e = cc
names_first computing.Statistics e = cc
names_first computing.Histogram e = cc
names_first computing.Collect e = cc
names_first computing.CollectNamed e = cc
names_first computing.CollectSeries e = cc
names_first computing.Inquire e = cc

pub names_none : (m : Module) → is_some (module_selector m) ≡ false → module_selector m ≡ None
names_none computing.Import e = cc
names_none computing.Select e = refl
names_none computing.Extract e = refl
names_none computing.Replace e = refl
names_none computing.Mark e = refl
names_none computing.Unmark e = refl
names_none computing.Slab e = refl
names_none computing.Compute e = refl
names_none computing.Statistics e = refl
names_none computing.Histogram e = refl
names_none computing.Collect e = refl
names_none computing.CollectNamed e = refl
names_none computing.CollectSeries e = refl
names_none computing.Inquire e = refl

pub name_is_import : (m : Module) → module_selector m ≡ Some 0 → m ≡ computing.Import
name_is_import computing.Import e = refl
name_is_import computing.Select e = cc
name_is_import computing.Extract e = cc
name_is_import computing.Replace e = cc
name_is_import computing.Mark e = cc
name_is_import computing.Unmark e = cc
name_is_import computing.Slab e = cc
name_is_import computing.Compute e = cc
name_is_import computing.Statistics e = cc
name_is_import computing.Histogram e = cc
name_is_import computing.Collect e = cc
name_is_import computing.CollectNamed e = cc
name_is_import computing.CollectSeries e = cc
name_is_import computing.Inquire e = cc

pub name_selects : (f : Function) (m : Module) → f ≡ function.Module m → module_selector m ≡ Some 0 → IsSelecting f
name_selects f m w e = ap (λ x. is_some (selector_place x)) w ∙ ap is_some e

pub name_place : (f : Function) (m : Module) → f ≡ function.Module m → module_selector m ≡ Some 0 → 0 ≡ selector_at f
name_place f m w e = sym (ap selector_at w ∙ ap or_first e)

-- an Import whose name is told is formed by its arguments and the file
pub named_rule : (s : Sight) (nodes : List Node) → AreNodes nodes → (p : Port) → p.node < length nodes → (m : Module) → (node_at nodes p.node).what ≡ function.Module m → IsSelecting (node_at nodes p.node).what →
    (t : ValueTerm) → selector_scan s nodes p.node ≡ Forms t → (v : Value) → s.told t ≡ Some v → (file : Option (List ℕ)) → file ≡ written_for s v →
    (s' : Sight) → More s s' → port_scan s' nodes p ≡ call_scanned m file p.result (all_scanned (node_scans s' nodes p.node))
named_rule s nodes a p h m w i t e v told file same s' more =
    let node = node_at nodes p.node in
    let ss = node_scans s' nodes p.node in
    selector_values s nodes a p h i t e v told s' more
    ∙ ap (λ (f : Function). valued s' f node.place p.result ss v) w
    ∙ ap (λ (x : Option (List ℕ)). call_scanned m x p.result (all_scanned ss)) (same_file s s' more v ∙ sym same)

-- ---- a port that comes to what an input comes to

pub chosen_is : (s : Sight) (nodes : List Node) (p : Port) (k : ℕ) → port_scan s nodes p ≡ scanned_at (node_scans s nodes p.node) k → (x : Input) → slice_get (node_at nodes p.node).inputs k ≡ Some x → port_scan s nodes p ≡ input_scan s nodes x
chosen_is s nodes p k h x at =
    h ∙ at_some (node_scans s nodes p.node) k (input_scan s nodes x) (each_at s (calls_of nodes) (node_at nodes p.node).inputs k x at)

pub chosen_past : (s : Sight) (nodes : List Node) (p : Port) (k : ℕ) → port_scan s nodes p ≡ scanned_at (node_scans s nodes p.node) k → length (node_at nodes p.node).inputs ≤ k → port_scan s nodes p ≡ Forms null_term
chosen_past s nodes p k h le =
    h ∙ at_past (node_scans s nodes p.node) k (omega (arith, le, each_length s (calls_of nodes) (node_at nodes p.node).inputs))

-- ---- the result of an effect

pub effect_local : (s : Sight) (nodes : List Node) → AreNodes nodes → (p : Port) → p.node < length nodes → (node_at nodes p.node).what ≡ function.Effect effect.SetLocal → port_scan s nodes p ≡ scanned_at (node_scans s nodes p.node) 1
effect_local s nodes a p h w = port_rule s nodes a p h ∙ rule_as s _ (function.Effect effect.SetLocal) (node_at nodes p.node).place p.result (node_scans s nodes p.node) w

pub effect_global : (s : Sight) (nodes : List Node) → AreNodes nodes → (p : Port) → p.node < length nodes → (node_at nodes p.node).what ≡ function.Effect effect.SetGlobal → port_scan s nodes p ≡ scanned_at (node_scans s nodes p.node) 1
effect_global s nodes a p h w = port_rule s nodes a p h ∙ rule_as s _ (function.Effect effect.SetGlobal) (node_at nodes p.node).place p.result (node_scans s nodes p.node) w

pub effect_print : (s : Sight) (nodes : List Node) → AreNodes nodes → (p : Port) → p.node < length nodes → (e : Effect) → (node_at nodes p.node).what ≡ function.Effect e → (x : Scanned ValueTerm) → effect_scanned e (node_scans s nodes p.node) ≡ x → port_scan s nodes p ≡ x
effect_print s nodes a p h e w x same = port_rule s nodes a p h ∙ rule_as s _ (function.Effect e) (node_at nodes p.node).place p.result (node_scans s nodes p.node) w ∙ same
