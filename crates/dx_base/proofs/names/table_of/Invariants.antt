use Rattle.std.proofs.Common.{take}
use Rattle.dx_base.specs.NameLists.{IsCounted, texts}
use Rattle.dx_base.proofs.names.table_of.Given as goal

abbrev pub invariant-loop-name : goal.invariant-loop-name
invariant-loop-name l = IsCounted l.table (texts (take l.name-index l.names))
