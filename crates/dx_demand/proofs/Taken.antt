-- What a node's inputs are.
use Rattle.std.proofs.Common.{◌≡◌, ℕ, ◌+◌, ◌<◌, ◌≤◌, List, length, get_or, Some, refl, subst, arith, All}
use Rattle.std.specs.Prelude.{slice_get}
use Rattle.std.proofs.lemmas.Option.{slice_get_read, get_or_from_slice_get, slice_get_within}
use Rattle.dx_graph.specs.Graph.{Node, node_at, MayTake, AreNodes}
use Rattle.dx_graph.specs.declared.node.Input.{Input}
use Rattle.dx_graph.specs.declared.node.Input.TheVariants as input
use Rattle.dx_base.specs.declared.function.Function.{Function}
use Rattle.dx_base.specs.declared.function.Function.TheVariants as function
use Rattle.dx_base.specs.declared.function.Module.{Module}
use Rattle.dx_base.specs.declared.function.Module.TheVariants as computing
use Rattle.dx_base.specs.Modules.{Takes}
use Rattle.dx_ast.specs.Table.{row_of}
use Rattle.dx_meaning.specs.Picking.{selector_at, IsSelecting}
use Rattle.dx_demand.specs.Memo.{IsPort, input_at}
use Rattle.dx_demand.specs.declared.settled.Port.{Port}

-- what was read stands in the list
pub slot : (xs ys : List Input) (i k : ℕ) (x : Input) → xs ≡ ys → i ≡ k → i < length xs → x ≡ get_or xs i x → slice_get ys k ≡ Some x
slot xs ys i k x same at h e = subst (λ zs. slice_get zs k ≡ Some x) same (subst (λ j. slice_get xs j ≡ Some x) at (slice_get_read xs (length xs) i x refl h e))

taken_at : (P : Input → Type 0) (is : List Input) → All P is → (k : ℕ) (x : Input) → slice_get is k ≡ Some x → P x
taken_at P is h k x e = subst P (get_or_from_slice_get is k x x e) (h k x (slice_get_within is k x e))

-- a node's input is a constant or a result of an earlier node
pub takes : (nodes : List Node) → AreNodes nodes → (n : ℕ) → n < length nodes → (k : ℕ) (x : Input) → slice_get (node_at nodes n).inputs k ≡ Some x → MayTake nodes n x
takes nodes a n lt k x e = taken_at (MayTake nodes n) (node_at nodes n).inputs (a n lt).inputs k x e

pub takes_in : (nodes : List Node) (n : ℕ) → n < length nodes → (x : Input) → MayTake nodes n x → MayTake nodes (length nodes) x
takes_in nodes n lt (input.Constant c) h = h
takes_in nodes n lt (input.Result m result) h = (omega (arith, lt, h.0), h.1)

pub awaited : (nodes : List Node) (n : ℕ) → n < length nodes → (x : Input) (q : Port) → x ≡ input_at q → MayTake nodes n x → IsPort nodes q × (q.node < n)
awaited nodes n lt x q e h =
    let t : MayTake nodes n (input_at q) = subst (MayTake nodes n) e h in
    ((omega (arith, lt, t.0), t.1), t.0)

module_enough : (m : Module) → IsSelecting (function.Module m) → selector_at (function.Module m) < length (row_of (function.Module m)).params
module_enough computing.Import i = omega arith
module_enough computing.Select i = cc
module_enough computing.Extract i = cc
module_enough computing.Replace i = cc
module_enough computing.Mark i = cc
module_enough computing.Unmark i = cc
module_enough computing.Slab i = cc
module_enough computing.Compute i = cc
module_enough computing.Statistics i = cc
module_enough computing.Histogram i = cc
module_enough computing.Collect i = cc
module_enough computing.CollectNamed i = cc
module_enough computing.CollectSeries i = cc
module_enough computing.Inquire i = cc

selecting_enough : (f : Function) → IsSelecting f → selector_at f < length (row_of f).params
selecting_enough function.Switch i = omega arith
selecting_enough function.Route i = omega arith
selecting_enough function.GetLocal i = omega arith
selecting_enough function.GetGlobal i = omega arith
selecting_enough (function.Module m) i = module_enough m i
selecting_enough (function.Effect e) i = cc

-- a selector is there
pub selector_within : (nodes : List Node) → AreNodes nodes → (n : ℕ) → n < length nodes → IsSelecting (node_at nodes n).what → selector_at (node_at nodes n).what < length (node_at nodes n).inputs
selector_within nodes a n lt i =
    let some = selecting_enough (node_at nodes n).what i in
    let enough = (a n lt).enough in
    omega (arith, some, enough)

module_takes : (m : Module) (n : ℕ) → length (row_of (function.Module m)).params ≤ n → n ≤ length (row_of (function.Module m)).params + (row_of (function.Module m)).more → Takes m n
module_takes computing.Import n e f = (omega (arith, e), omega (arith, f))
module_takes computing.Select n e f = (omega (arith, e), omega (arith, f))
module_takes computing.Extract n e f = (omega (arith, e), omega (arith, f))
module_takes computing.Replace n e f = (omega (arith, e), omega (arith, f))
module_takes computing.Mark n e f = (omega (arith, e), omega (arith, f))
module_takes computing.Unmark n e f = (omega (arith, e), omega (arith, f))
module_takes computing.Slab n e f = (omega (arith, e), omega (arith, f))
module_takes computing.Compute n e f = (omega (arith, e), omega (arith, f))
module_takes computing.Statistics n e f = (omega (arith, e), omega (arith, f))
module_takes computing.Histogram n e f = (omega (arith, e), omega (arith, f))
module_takes computing.Collect n e f = (omega (arith, e), omega (arith, f))
module_takes computing.CollectNamed n e f = (omega (arith, e), omega (arith, f))
module_takes computing.CollectSeries n e f = (omega (arith, e), omega (arith, f))
module_takes computing.Inquire n e f = (omega (arith, e), omega (arith, f))

-- a node has as many inputs as its module takes
pub node_takes : (f : Function) (m : Module) (n : ℕ) → f ≡ function.Module m → length (row_of f).params ≤ n → n ≤ length (row_of f).params + (row_of f).more → Takes m n
node_takes f m n w e h = module_takes m n (subst (λ (g : Function). length (row_of g).params ≤ n) w e) (subst (λ (g : Function). n ≤ length (row_of g).params + (row_of g).more) w h)
