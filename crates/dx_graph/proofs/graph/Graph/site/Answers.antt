use Rattle.std.proofs.Common.{rules, arith, ◌≡◌, List, subst}
use Rattle.std.proofs.lemmas.Grind.{common_steps}
use Rattle.dx_macros.specs.Site.{Step}
use Rattle.dx_macros.specs.Steps.{plain_steps}
use Rattle.dx_macros.specs.SiteBound.{IsShortSite}
use Rattle.dx_graph.specs.Graph.{node_at}
use Rattle.dx_graph.specs.GraphView.{graph_of}
use Rattle.dx_graph.proofs.Growing.{if_ok}
use Rattle.dx_graph.proofs.Sites.{text_short}
use Rattle.dx_graph.proofs.graph.Graph.site.Goals as goal

pub returns-clause-bound : goal.returns-clause-bound
returns-clause-bound c =
    let g = graph_of c.args.self.now in
    let same : plain_steps c.as_slice.result.now ≡ (node_at g.nodes c.args.n).place.site = first_of (search rules, grind (arith, common_steps)) in
    if_ok c.site_text.result (λ text short. text_short g c.args.n text c.args.self.now.lawful c.requires (subst (λ (site : List Step). IsShortSite site text) same short)) c.site_text.ensures.bound
