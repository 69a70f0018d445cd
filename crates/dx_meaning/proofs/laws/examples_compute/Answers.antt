use Rattle.dx_meaning.proofs.Computed.{examples}
use Rattle.dx_meaning.proofs.laws.examples_compute.Goals as goal

pub returns : goal.returns
returns c = examples
