use Rattle.std.proofs.Common.{◌≡◌, drop}
use Rattle.std.specs.Prelude.{is_some}
use Rattle.std.specs.List.{list_any}
use Rattle.dx_ast.specs.Plain.{plain_args}
use Rattle.dx_signatures.specs.Faults.{arg_names}
use Rattle.dx_signatures.proofs.signature.has_named.Given as goal

abbrev pub invariant-loop-a : goal.invariant-loop-a
invariant-loop-a l = list_any is_some (arg_names (plain_args (drop l.a-index l.args))) ≡ list_any is_some (arg_names (plain_args l.args))
