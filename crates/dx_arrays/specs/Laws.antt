-- Points and corners of grids by their indices, which the laws of numbers speak of.
use Rattle.std.specs.Prelude.{◌≡◌, ◌⊎◌, ℕ, ◌+◌, ◌<◌, List, [], ◌∷◌}

-- a point of a grid has an index below the count in each dimension
abbrev pub IsPoint : List ℕ → List ℕ → Type 0
IsPoint [] [] = Unit {0}
IsPoint [] (i ∷ is) = ⊥
IsPoint (c ∷ cs) [] = ⊥
IsPoint (c ∷ cs) (i ∷ is) = (i < c) × IsPoint cs is

-- a corner of a cell has in each dimension the index of the cell or the next one
abbrev pub IsCorner : List ℕ → List ℕ → Type 0
IsCorner [] [] = Unit {0}
IsCorner [] (i ∷ is) = ⊥
IsCorner (j ∷ js) [] = ⊥
IsCorner (j ∷ js) (i ∷ is) = ((i ≡ j) ⊎ (i ≡ j + 1)) × IsCorner js is
