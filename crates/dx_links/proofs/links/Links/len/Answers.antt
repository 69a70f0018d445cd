use Rattle.std.proofs.Common.{length, sym, ap, ◌∙◌}
use Rattle.dx_links.specs.LinkMap.{Linked}
use Rattle.dx_links.proofs.SettledLaws.{seen_length}
use Rattle.dx_links.proofs.links.Links.len.Goals as goal

pub returns : goal.returns
returns c = c.len.ensures ∙ sym (seen_length c.self.inside.settled c.self.inside.slots.links) ∙ ap (λ (l : Linked). length l.links) c.self.view_is
