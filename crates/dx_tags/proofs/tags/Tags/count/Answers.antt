use Rattle.std.proofs.Common.{length, ap, arith}
use Rattle.dx_tags.proofs.HeldTerms.{behind_length}
use Rattle.dx_tags.proofs.tags.Tags.count.Goals as goal

pub returns : goal.returns
returns c = omega (arith, behind_length c.self.inside.held c.self.inside.formed, c.count.ensures, ap length c.self.view_is)
