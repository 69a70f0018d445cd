-- The node of the call that an error names.
use Rattle.std.specs.Prelude.{◌≡◌, ℕ, List}
use Rattle.dx_macros.specs.Site.{Step}
use Rattle.dx_graph.specs.Graph.{Node}
use Rattle.dx_tags.specs.Closed.{CallTerm}
use Rattle.dx_meaning.specs.Met.{Called}
use Rattle.dx_demand.specs.Memo.{site_of}
use Rattle.dx_demanded.specs.Found.{StandsAt}

-- the node stands where the first of these calls with a term does
abbrev pub StandsWhere : List Node → List Called → CallTerm → ℕ → Type 0
StandsWhere nodes calls c m = (site : List Step) → StandsAt calls c site → site_of nodes m ≡ site
