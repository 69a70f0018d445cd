use Rattle.std.proofs.Common.{ap, ◌∙◌}
use Rattle.dx_links.specs.Emptied.{all_held, values_held}
use Rattle.dx_links.specs.LinkMap.{after, Linked}
use Rattle.dx_links.proofs.SettledLaws.{emptied_links, emptied_values}
use Rattle.dx_links.proofs.links.Links.empty.Goals as goal

pub returns-clause-links : goal.returns-clause-links
returns-clause-links c =
    emptied_links c.self.inside.settled c.self.inside.slots.links c.commit.new.self.links c.args.changes c.commit.ensures
    ∙ ap (λ (l : Linked). all_held (after l.links c.args.changes)) c.self.view_is

pub returns-clause-held : goal.returns-clause-held
returns-clause-held c =
    emptied_values c.self.inside.settled c.self.inside.slots.links c.commit.new.self.links c.args.changes c.commit.ensures
    ∙ ap (λ (l : Linked). values_held (after l.links c.args.changes)) c.self.view_is
