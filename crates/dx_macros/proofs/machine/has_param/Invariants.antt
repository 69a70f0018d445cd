use Rattle.std.proofs.Common.{◌≡◌, drop}
use Rattle.dx_signatures.specs.Callees.{param_names}
use Rattle.dx_base.specs.NameLists.{has}
use Rattle.dx_macros.proofs.machine.has_param.Given as goal

abbrev pub invariant-loop-p : goal.invariant-loop-p
invariant-loop-p l = has (param_names (drop l.p-index l.params)) l.name ≡ has (param_names l.params) l.name
