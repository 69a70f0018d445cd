use Rattle.dx_graph.proofs.Unfolding.{unfold_by_inputs}
use Rattle.dx_graph.proofs.law.nodes_unfold_by_inputs.Goals as goal

pub returns : goal.returns
returns c = unfold_by_inputs
