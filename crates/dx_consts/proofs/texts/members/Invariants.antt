use Rattle.std.proofs.Common.{◌≡◌, ◌≤◌, drop}
use Rattle.dx_base.specs.Object.{append, total_size}
use Rattle.dx_base.specs.ObjectLimits.{max_size}
use Rattle.dx_ast.specs.Value.{members}
use Rattle.dx_objects.specs.Shown.{parts_of}
use Rattle.dx_consts.proofs.texts.members.Given as goal

abbrev pub invariant-loop-t : goal.invariant-loop-t
invariant-loop-t l = record {
  parts : append (parts_of l.members.items) (members (drop l.t-index l.texts)) ≡ members l.texts;
  small : total_size (members (drop l.t-index l.texts)) ≤ max_size;
}
