-- The links that an emptying leaves.
use Rattle.std.specs.Prelude.{◌≡◌, List, [], ◌∷◌, Some, Ok}
use Rattle.dx_tags.specs.Closed.{Head, value_term}
use Rattle.dx_links.specs.Denotes.{Around, denotes}
use Rattle.dx_links.specs.LinkMap.{LinkMap}

-- each link's value is what its term denotes
abbrev pub LinksAreRight : Around → List Head → LinkMap → Type 0
LinksAreRight a hs [] = Unit {0}
LinksAreRight a hs (l ∷ ls) = (denotes a (value_term hs l.1.tag) ≡ Ok (Some l.1.value)) × LinksAreRight a hs ls
