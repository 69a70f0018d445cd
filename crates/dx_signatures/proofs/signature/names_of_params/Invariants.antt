use Rattle.std.proofs.Common.{◌≡◌, ◌++◌, map, drop}
use Rattle.dx_signatures.specs.Callees.{param_names}
use Rattle.dx_signatures.proofs.signature.names_of_params.Given as goal

abbrev pub invariant-loop-p : goal.invariant-loop-p
invariant-loop-p l = map (λ n. n.now) l.names.items ++ param_names (drop l.p-index l.params) ≡ param_names l.params
