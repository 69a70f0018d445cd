-- What is asked of a class: which one it is, and the values of a plain array.
use Rattle.std.specs.Prelude.{ℤ, List, Option, Some, None}
use Rattle.dx_base.specs.Array.{Class, plain, constant, regular, grid_positions, grid_connections}
use Rattle.dx_arrays.specs.declared.array.ArrayClass.{ArrayClass}
use Rattle.dx_arrays.specs.declared.array.ArrayClass.TheVariants.{Plain, Constant, Regular, GridPositions, GridConnections}

abbrev pub kind_of : Class → ArrayClass
kind_of (plain vs) = Plain
kind_of (constant n v) = Constant
kind_of (regular n o d) = Regular
kind_of (grid_positions cs o ds) = GridPositions
kind_of (grid_connections cs) = GridConnections

-- all values of a plain array
abbrev pub plain_of : Class → Option (List ℤ)
plain_of (plain vs) = Some vs
plain_of (constant n v) = None
plain_of (regular n o d) = None
plain_of (grid_positions cs o ds) = None
plain_of (grid_connections cs) = None
