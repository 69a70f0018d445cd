-- The steps of resolving a port.
use Rattle.dx_demand.proofs.Terms.{no_arguments}
use Rattle.dx_demand.specs.Terms.{AreArguments}
use Rattle.std.proofs.Common.{◌≡◌, ℕ, suc, ◌+◌, ◌*◌, ◌<◌, ◌≤◌, List, [], ◌∷◌, ◌++◌, length, None, refl, sym, ap, ◌∙◌, subst, arith}
use Rattle.std.proofs.Math.Logic.{∥∥₁_elim}
use Rattle.std.proofs.Props.{props}
use Rattle.std.proofs.Math.Nat.{suc-mul}
use Rattle.std.proofs.lemmas.Nat.{mul-le}
use Rattle.dx_base.specs.declared.function.Function.{Function}
use Rattle.dx_base.specs.declared.function.Function.TheVariants as function
use Rattle.dx_base.specs.declared.function.Module.{Module}
use Rattle.dx_base.specs.declared.function.Module.TheVariants as computing
use Rattle.dx_base.specs.declared.function.Effect.{Effect}
use Rattle.dx_base.specs.declared.function.Effect.TheVariants as effect
use Rattle.dx_ast.specs.Table.{module_row, effect_row, row_of}
use Rattle.dx_graph.specs.declared.node.Input.{Input}
use Rattle.dx_graph.specs.declared.node.Input.TheVariants as input
use Rattle.dx_graph.specs.Graph.{Node, Graph, node_at, AreNodes, IsGraph, MayTake}
use Rattle.dx_tags.specs.declared.term.Term.{Term}
use Rattle.dx_tags.specs.declared.term.ValueTag.{ValueTag}
use Rattle.dx_tags.specs.Closed.{heads_of, GoesOn}
use Rattle.dx_meaning.specs.Scan.{Sight, Stop, Ends}
use Rattle.dx_meaning.specs.More.{More}
use Rattle.dx_demand.specs.Memo.{Answers, with_answer, IsPort, node_scans, port_scan}
use Rattle.dx_demand.specs.Halting.{port_halted}
use Rattle.dx_demand.specs.Stack.{fresh, bottom, StackFits, Leads, Begins, FrameRight, StackRight}
use Rattle.dx_demand.specs.declared.settled.Port.{Port}
use Rattle.dx_demand.specs.declared.settled.Answer.{Answer}
use Rattle.dx_demand.specs.declared.seen.Frame.{Frame}
use Rattle.dx_demand.proofs.Growing.{stack_fits_grows, stack_right_grows}
use Rattle.dx_demand.proofs.Stacks.{above_less, above_push, Top, stack_split, stack_join, stack_settle, leads_then, right_split, right_join, bottom_push, open_ports, ports_fewer}

module_few : (m : Module) → (module_row m).results ≤ 64
module_few computing.Import = omega arith
module_few computing.Select = omega arith
module_few computing.Extract = omega arith
module_few computing.Replace = omega arith
module_few computing.Mark = omega arith
module_few computing.Unmark = omega arith
module_few computing.Slab = omega arith
module_few computing.Compute = omega arith
module_few computing.Statistics = omega arith
module_few computing.Histogram = omega arith
module_few computing.Collect = omega arith
module_few computing.CollectNamed = omega arith
module_few computing.CollectSeries = omega arith
module_few computing.Inquire = omega arith

effect_few : (e : Effect) → (effect_row e).results ≤ 64
effect_few effect.Print = omega arith
effect_few effect.Echo = omega arith
effect_few effect.Export = omega arith
effect_few effect.SetLocal = omega arith
effect_few effect.SetGlobal = omega arith

pub results_few : (f : Function) → (row_of f).results ≤ 64
results_few (function.Module m) = module_few m
results_few (function.Effect e) = effect_few e
results_few function.Switch = omega arith
results_few function.Route = omega arith
results_few function.GetLocal = omega arith
results_few function.GetGlobal = omega arith

may_take_prop : (nodes : List Node) (n : ℕ) (i : Input) → IsProp (MayTake nodes n i)
may_take_prop nodes n (input.Constant c) = hlevel props
may_take_prop nodes n (input.Result m result) = hlevel props

-- a graph's nodes are nodes
pub nodes_of : (g : Graph) → ∥ IsGraph g ∥₁ → AreNodes g.nodes
nodes_of g h n lt = record {
  inputs = ∥∥₁_elim h (hlevel (props, may_take_prop)) (λ l. (l.nodes n lt).inputs);
  enough = ∥∥₁_elim h (hlevel props) (λ l. (l.nodes n lt).enough);
  few = ∥∥₁_elim h (hlevel props) (λ l. (l.nodes n lt).few);
  cache = ∥∥₁_elim h (hlevel props) (λ l. (l.nodes n lt).cache);
  site = ∥∥₁_elim h (hlevel props) (λ l. (l.nodes n lt).site);
}

-- where a port is settled, whatever port comes next, less is left
pub less_settled : (x y n a b : ℕ) → y < x → b < n → y * (n + 1) + b < x * (n + 1) + a
less_settled x y n a b lt hb =
    let most : suc y * (n + 1) ≤ x * (n + 1) = mul-le (suc y) (n + 1) x (n + 1) (omega (arith, lt)) (omega arith) in
    let one : suc y * (n + 1) ≡ y * (n + 1) + (n + 1) = suc-mul y (n + 1) in
    omega (arith, most, one, hb)

-- ---- the loop

pub more_itself : (s : Sight) → More s s
more_itself s = record { linked = refl; written = refl; told = λ u v e. e }

abbrev pub with_arguments : Frame → List ValueTag → Frame
with_arguments f ts = record { port = f.port; arguments = ts }

-- after a step the top has its arguments so far, and there are more terms
pub top_after : (nodes : List Node) (old new : List Term) → GoesOn old new → (answers answers' : Answers) → answers' ≡ answers → (fs : List Frame) (top : Frame) (ts : List ValueTag) →
    length ts ≤ length (node_at nodes top.port.node).inputs → AreArguments new ts → StackFits nodes old answers (fs ++ top ∷ []) → Top nodes new answers' fs (with_arguments top ts)
top_after nodes old new g answers answers' same fs top ts few earlier h =
    let t = stack_split nodes old answers fs top h in
    record {
      rest = subst (λ (x : Answers). StackFits nodes new x fs) (sym same) (stack_fits_grows nodes old new g answers fs t.rest);
      fits = record { port = t.fits.port; few = few; earlier = earlier };
      open_ = ap (λ (x : Answers). x top.port) same ∙ t.open_;
      above = t.above;
    }

pub right_after : (s : Sight) (nodes : List Node) (old new : List Term) → GoesOn old new → (answers : Answers) (root : Port) (fs : List Frame) (top : Frame) (ts : List ValueTag) → StackFits nodes old answers (fs ++ top ∷ []) →
    Begins (heads_of new) (node_scans s nodes top.port.node) ts → StackRight s nodes old root (fs ++ top ∷ []) → StackRight s nodes new root fs × FrameRight s nodes new root (with_arguments top ts)
right_after s nodes old new g answers root fs top ts h b r =
    let parts = right_split s nodes old root fs top r in
    (stack_right_grows s nodes old new g answers root fs (stack_split nodes old answers fs top h).rest parts.0, record { leads = parts.1.leads; begins = b })

-- the top's arguments so far are right
pub top_begins : (s : Sight) (nodes : List Node) (terms : List Term) (root : Port) (fs : List Frame) (top : Frame) → StackRight s nodes terms root (fs ++ top ∷ []) → Begins (heads_of terms) (node_scans s nodes top.port.node) top.arguments
top_begins s nodes terms root fs top r = (right_split s nodes terms root fs top r).1.begins

-- the top waits for another port
pub awaits_fits : (nodes : List Node) (terms : List Term) (answers : Answers) (fs : List Frame) (top : Frame) (q : Port) → Top nodes terms answers fs top → IsPort nodes q → q.node < top.port.node → answers q ≡ None →
    StackFits nodes terms answers ((fs ++ top ∷ []) ++ fresh q ∷ [])
awaits_fits nodes terms answers fs top q t port less unanswered = stack_join nodes terms answers (fs ++ top ∷ []) (fresh q) (record {
  rest = stack_join nodes terms answers fs top t;
  fits = record { port = port; few = omega arith; earlier = no_arguments terms };
  open_ = unanswered;
  above = above_push q.node fs top (above_less q.node top.port.node (omega (arith, less)) fs t.above) less;
})

pub awaits_right : (s : Sight) (nodes : List Node) (terms : List Term) (root : Port) (fs : List Frame) (top : Frame) (q : Port) → StackRight s nodes terms root fs × FrameRight s nodes terms root top → Leads s nodes top.port q →
    StackRight s nodes terms root ((fs ++ top ∷ []) ++ fresh q ∷ [])
awaits_right s nodes terms root fs top q r leads = right_join s nodes terms root (fs ++ top ∷ []) (fresh q) (right_join s nodes terms root fs top r.0 r.1)
    (record { leads = leads_then s nodes root top.port q r.1.leads leads; begins = tt })

-- the top needs a value that isn't told
pub needs_right : (s : Sight) (nodes : List Node) (terms : List Term) (root : Port) (top : Frame) (e : Stop) → FrameRight s nodes terms root top → port_scan s nodes top.port ≡ Ends e → port_scan s nodes root ≡ Ends e
needs_right s nodes terms root top e r h = (r.leads s (more_itself s) e h).0

pub needs_halted : (s : Sight) (nodes : List Node) (terms : List Term) (root : Port) (top : Frame) (e : Stop) → FrameRight s nodes terms root top → port_scan s nodes top.port ≡ Ends e → port_halted s nodes root ≡ port_halted s nodes top.port
needs_halted s nodes terms root top e r h = (r.leads s (more_itself s) e h).1

-- the port under a top that is settled comes next
pub below_fits : (nodes : List Node) (terms : List Term) (answers : Answers) (fs rest : List Frame) (top below : Frame) (a : Answer) → fs ≡ rest ++ below ∷ [] → Top nodes terms answers fs top →
    StackFits nodes terms (with_answer answers top.port a) (rest ++ below ∷ [])
below_fits nodes terms answers fs rest top below a e t = subst (StackFits nodes terms (with_answer answers top.port a)) e (stack_settle nodes terms answers top.port a fs t.above t.rest)

pub below_bottom : (fs rest : List Frame) (top below : Frame) (root : Port) → fs ≡ rest ++ below ∷ [] → bottom fs top ≡ root → bottom rest below ≡ root
below_bottom fs rest top below root e b = sym (bottom_push rest below top) ∙ ap (λ xs. bottom xs top) (sym e) ∙ b

pub last_bottom : (fs : List Frame) (top : Frame) (root : Port) → fs ≡ [] → bottom fs top ≡ root → top.port ≡ root
last_bottom fs top root e b = ap (λ xs. bottom xs top) (sym e) ∙ b

pub same_bottom : (fs : List Frame) (top : Frame) (ts : List ValueTag) → bottom fs (with_arguments top ts) ≡ bottom fs top
same_bottom [] top ts = refl
same_bottom (f ∷ fs) top ts = refl

-- less is left
pub settled_less : (nodes : List Node) (answers : Answers) (p : Port) (a : Answer) (after : ℕ) → answers p ≡ None → IsPort nodes p → after < length nodes →
    open_ports (with_answer answers p a) (length nodes) * (length nodes + 1) + after < open_ports answers (length nodes) * (length nodes + 1) + p.node
settled_less nodes answers p a after unanswered port lt =
    let few = results_few (node_at nodes p.node).what in
    less_settled (open_ports answers (length nodes)) (open_ports (with_answer answers p a) (length nodes)) (length nodes) p.node after
    (ports_fewer answers p a unanswered (omega (arith, few, port.1)) (length nodes) port.0) lt
