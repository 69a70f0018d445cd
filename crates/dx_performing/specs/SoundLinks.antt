-- Behind each execution a link's object is what its term denotes, and so is each object that was set.
use Rattle.std.specs.Prelude.{◌≡◌, List, [], ◌∷◌, Option, Some, None, Ok}
use Rattle.dx_macros.specs.Tree.{CallTree}
use Rattle.dx_links.specs.Denotes.{Around, denotes}
use Rattle.dx_performing.specs.Kept.{Kept, Link, SetTerm}
use Rattle.dx_performing.specs.Course.{Fixed, around_of, begins, course, executed}
use Rattle.dx_performing.specs.Meant.{LinksRight}

abbrev pub LinkRight : Around → Option Link → Type 0
LinkRight a None = Unit {0}
LinkRight a (Some l) = denotes a l.term ≡ Ok (Some l.object)

abbrev pub SetsRight : Around → List SetTerm → Type 0
SetsRight a [] = Unit {0}
SetsRight a (s ∷ ss) = LinkRight a s.link × SetsRight a ss

-- what the course of an execution sets
abbrev pub SetsAreRight : Type 0
SetsAreRight = (x : Fixed) (k : Kept) (effects : List CallTree) → LinksRight (around_of x k) k.links → SetsRight (around_of x k) (course x k effects (begins k)).sets

abbrev pub LinksStayRight : Type 0
LinksStayRight = (x : Fixed) (k : Kept) (effects : List CallTree) → LinksRight (around_of x k) k.links → let after = (executed x effects k).kept in LinksRight (around_of x after) after.links
