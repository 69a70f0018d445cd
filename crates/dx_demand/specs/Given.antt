-- What is told of terms.
use Rattle.std.specs.Prelude.{Option, Some, None}
use Rattle.std.specs.Borrow.{Bor}
use Rattle.dx_base.specs.Object.{Tree}
use Rattle.dx_meaning.specs.Outcome.{Value}

-- what a reference to an object, or none, stands for
abbrev pub value_behind : Option (Bor Tree) → Value
value_behind (Some o) = Some o.now
value_behind None = None
