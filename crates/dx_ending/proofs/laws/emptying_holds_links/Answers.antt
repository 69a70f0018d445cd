use Rattle.dx_ending.proofs.EmptyLaws.{empties_alike}
use Rattle.dx_ending.proofs.laws.emptying_holds_links.Goals as goal

pub returns : goal.returns
returns c = empties_alike
