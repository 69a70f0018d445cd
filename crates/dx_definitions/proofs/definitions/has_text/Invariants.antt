use Rattle.std.proofs.Common.{◌≡◌, drop}
use Rattle.dx_base.specs.NameLists.{has}
use Rattle.dx_definitions.proofs.definitions.has_text.Given as goal

abbrev pub invariant-loop-n : goal.invariant-loop-n
invariant-loop-n l = has (drop l.n-index l.names) l.name ≡ has l.names l.name
