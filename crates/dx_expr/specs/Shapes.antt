-- The shapes that the code speaks of.
use Rattle.std.specs.Prelude.{ℕ, List, [], ◌∷◌, Option, Some, None}
use Rattle.dx_expr.specs.declared.shape.Shape.{Shape}
use Rattle.dx_expr.specs.declared.shape.Shape.TheVariants as shape

abbrev pub extents_of : Shape → List ℕ
extents_of shape.Single = []
extents_of (shape.Vector n) = n ∷ []
extents_of (shape.Extents a) = a.now

abbrev pub found : Option Shape → Option (List ℕ)
found None = None
found (Some a) = Some (extents_of a)
