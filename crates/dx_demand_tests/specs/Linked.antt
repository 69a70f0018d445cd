-- What resolving asks of terms and links.
use Rattle.std.specs.Prelude.{List}
use Rattle.dx_tags.specs.declared.term.Term.{Term}
use Rattle.dx_links.specs.LinkMap.{LinkMap}
use Rattle.dx_demand.specs.Picked.{LinksFit}
use Rattle.dx_demand.specs.Terms.{AreExact}

-- the terms are exact, and each link's is there
pub record AreLinked (terms : List Term) (links : LinkMap) : Type 0 where
  pub exact : AreExact terms
  pub fit : LinksFit terms links
