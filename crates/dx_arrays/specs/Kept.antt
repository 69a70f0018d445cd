-- What contracts see of the values of a plain array as they are kept.
use Rattle.std.specs.Prelude.{ℤ, List}
use Rattle.dx_arrays.specs.declared.array.Values.{Values}
use Rattle.dx_arrays.specs.declared.array.Values.TheVariants.{Ints, Wide}

-- the values, item by item
abbrev pub values_in : Values → List ℤ
values_in (Ints vs) = vs.now
values_in (Wide vs) = vs.now
