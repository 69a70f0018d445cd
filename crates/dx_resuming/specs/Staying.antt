-- The first call that formed a term stays, whatever is formed behind it.
use Rattle.std.specs.Prelude.{List}
use Rattle.dx_meaning.specs.Forming.{Formed, Formings, after}
use Rattle.dx_performing.specs.Course.{formed_calls}
use Rattle.dx_performing.specs.Alike.{SameCalls}

-- what was formed first keeps its site and its attribute
abbrev pub FormedStays : Type 0
FormedStays = (fs : List Formed) (was : Formings) → SameCalls (formed_calls was) (formed_calls (after fs was))
