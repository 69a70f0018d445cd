-- What is read of a number that may be no i64.
use Rattle.std.specs.Prelude.{ℤ, Option, option_map}
use Rattle.dx_base.specs.declared.number.Beyond.{Beyond}
use Rattle.dx_base.specs.declared.number.Beyond.TheVariants.{Nothing, NearestEnd}
use Rattle.dx_base.specs.Number.{as_i64, nearest_i64}

abbrev pub held : Beyond → Option ℤ → Option ℤ
held Nothing n = as_i64 n
held NearestEnd n = option_map nearest_i64 n
