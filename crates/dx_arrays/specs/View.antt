-- What contracts see of an array's fields, and what holds of them.
use Rattle.std.specs.Prelude.{◌≡◌, ℕ, List}
use Rattle.dx_base.specs.Array as spec
use Rattle.dx_base.specs.Array.{ArrayData, Class}
use Rattle.dx_base.specs.ArrayLimits.{IsLawfulArray}
use Rattle.dx_base.specs.declared.elem.ElemType.{ElemType}
use Rattle.dx_arrays.specs.declared.array.Stored.{Stored}
use Rattle.dx_arrays.specs.declared.array.Stored.TheVariants.{Plain, Ints, Constant, Regular, Positions, Connections}

abbrev pub class_of : ℕ → Stored → Class
class_of n (Plain vs) = spec.plain vs.items
class_of n (Ints vs) = spec.plain vs.items
class_of n (Constant v) = spec.constant n v.items
class_of n (Regular o d) = spec.regular n o.items d.items
class_of n (Positions cs o ds) = spec.grid_positions cs.items o.items ds.items
class_of n (Connections cs) = spec.grid_connections cs.items

abbrev pub data_of : ElemType → List ℕ → ℕ → Stored → ArrayData
data_of t es n s = record { elem = t; extents = es; class = class_of n s }

-- the number of items that an array keeps is right, and it is an array that can be made
pub record IsKept (a : ArrayData) (kept_items : ℕ) : Type 0 where
  pub items_is : kept_items ≡ spec.items a
  pub lawful : IsLawfulArray a
