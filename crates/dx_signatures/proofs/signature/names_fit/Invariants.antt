use Rattle.std.proofs.Common.{◌≡◌, map, drop}
use Rattle.dx_signatures.specs.Faults.{names_fit, arg_names}
use Rattle.dx_ast.specs.Plain.{plain_args}
use Rattle.dx_signatures.proofs.signature.names_fit.Given as goal

abbrev pub invariant-loop-a : goal.invariant-loop-a
invariant-loop-a l = names_fit (map (λ n. n.now) l.free.items) (arg_names (plain_args (drop l.a-index l.args))) ≡ names_fit (map (λ n. n.now) l.initial.free.items) (arg_names (plain_args l.args))
