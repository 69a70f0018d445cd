use Rattle.dx_performing.proofs.Computed.{examples}
use Rattle.dx_performing.proofs.laws.examples_compute.Goals as goal

pub returns : goal.returns
returns c = examples
