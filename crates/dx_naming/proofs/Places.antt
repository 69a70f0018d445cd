-- The inputs of a node, and which of them is its selector.
use Rattle.std.proofs.Common.{◌≡◌, ◌<◌, ℕ, length, All, refl}
use Rattle.std.specs.Prelude.{slice_index_or}
use Rattle.dx_base.specs.declared.function.Module.{Module}
use Rattle.dx_base.specs.declared.function.Module.TheVariants as computing
use Rattle.dx_graph.specs.Graph.{node_at, MayTake}
use Rattle.dx_graph.specs.GraphView.{graph_of}
use Rattle.dx_meaning.specs.Picking.{module_selector, or_first}
use Rattle.dx_demand.proofs.PortSteps.{nodes_of}
use Rattle.dx_demand.proofs.Taken.{takes_in}
use Rattle.dx_looking.specs.Setting.{nodes_in}
use Rattle.dx_looking.specs.declared.setup.Setup.{Setup}

pub inputs_taken : (setup : Setup) (n : ℕ) → n < length (nodes_in setup) → All (MayTake (nodes_in setup) (length (nodes_in setup))) (node_at (nodes_in setup) n).inputs
inputs_taken setup n lt k d l =
    takes_in (nodes_in setup) n lt (slice_index_or (node_at (nodes_in setup) n).inputs k d) ((nodes_of (graph_of setup.graph.now) setup.graph.now.lawful n lt).inputs k d l)

-- no module has its selector behind the first input
pub module_place : (m : Module) → or_first (module_selector m) ≡ 0
module_place computing.Import = refl
module_place computing.Select = refl
module_place computing.Extract = refl
module_place computing.Replace = refl
module_place computing.Mark = refl
module_place computing.Unmark = refl
module_place computing.Slab = refl
module_place computing.Compute = refl
module_place computing.Statistics = refl
module_place computing.Histogram = refl
module_place computing.Collect = refl
module_place computing.CollectNamed = refl
module_place computing.CollectSeries = refl
module_place computing.Inquire = refl
