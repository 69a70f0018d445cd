-- How far out a line of items and the points of a grid lie in one place, and whether that is in their type.
use Rattle.std.specs.Prelude.{ℕ, ◌-◌, ℤ, pos, negsuc, ◌+ℤ◌, ◌*ℤ◌, ◌≤ℤ◌, List, [], ◌∷◌, drop, length, Bool, ◌&&◌}
use Rattle.std.specs.List.{list_all, range_with_len}
use Rattle.dx_base.specs.Elem.{in_range}
use Rattle.dx_base.specs.Array.{number}
use Rattle.dx_base.specs.declared.elem.ElemType.{ElemType}
use Rattle.dx_base.specs.declared.elem.ElemType.TheVariants.{Int}

-- a number at most m away from 0
pub record IsWithin (m : ℕ) (z : ℤ) : Type 0 where
  pub low : pos 0 ≤ℤ (z +ℤ pos m)
  pub high : z ≤ℤ pos m

abbrev pub below_zero : ℤ → ℤ
below_zero (pos n) = pos 0
below_zero (negsuc n) = negsuc n

abbrev pub above_zero : ℤ → ℤ
above_zero (pos n) = pos n
above_zero (negsuc n) = pos 0

-- the least and the greatest that the dimensions add to the origin
abbrev pub lowest_offset : ℕ → List ℕ → List ℤ → ℕ → ℤ
lowest_offset n [] ds place = pos 0
lowest_offset n (c ∷ cs) ds place = below_zero (pos (c - 1) *ℤ number ds place) +ℤ lowest_offset n cs (drop n ds) place

abbrev pub highest_offset : ℕ → List ℕ → List ℤ → ℕ → ℤ
highest_offset n [] ds place = pos 0
highest_offset n (c ∷ cs) ds place = above_zero (pos (c - 1) *ℤ number ds place) +ℤ highest_offset n cs (drop n ds) place

-- the ends of the line from an origin to its last item are of the type
abbrev pub line_fits : ElemType → ℕ → ℤ → ℤ → Bool
line_fits t last o d = in_range t o && in_range t (o +ℤ pos last *ℤ d)

abbrev pub lines_fit : ElemType → ℕ → List ℤ → List ℤ → Bool
lines_fit t last os ds = list_all (λ p. line_fits t last (number os p) (number ds p)) (range_with_len 0 (length os))

-- the farthest points of a grid are of the type in a place
abbrev pub point_fits : List ℕ → List ℤ → List ℤ → ℕ → Bool
point_fits cs o ds p = in_range Int (number o p +ℤ lowest_offset (length cs) cs ds p) && in_range Int (number o p +ℤ highest_offset (length cs) cs ds p)

abbrev pub points_fit : List ℕ → List ℤ → List ℤ → Bool
points_fit cs o ds = list_all (point_fits cs o ds) (range_with_len 0 (length cs))
