use Rattle.std.proofs.Common.{◌≡◌, ◌≤◌, ◌*◌, ◌++◌, drop}
use Rattle.dx_base.specs.Object.{deepest}
use Rattle.dx_objects.specs.Shown.{parts_of}
use Rattle.dx_objects.specs.Nodes.{nodes, all_nodes}
use Rattle.dx_print.specs.Printed.{parts_text}
use Rattle.dx_print.proofs.parts.+nested.Given as goal

abbrev pub decreases-push_object : goal.decreases-push_object
decreases-push_object l = 2 * nodes l.object.now

abbrev pub decreases-push_parts : goal.decreases-push_parts
decreases-push_parts l = 2 * all_nodes (parts_of l.parts.now)

abbrev pub invariant-push_parts-loop-part : goal.invariant-push_parts-loop-part
invariant-push_parts-loop-part l = record {
  deep : deepest (parts_of (drop l.part-index l.parts)) ≤ deepest (parts_of l.parts);
  nodes : all_nodes (parts_of (drop l.part-index l.parts)) ≤ all_nodes (parts_of l.parts);
  text : l.out.items ++ parts_text l.listing l.detail l.indent (parts_of (drop l.part-index l.parts)) ≡ l.initial.out.items ++ parts_text l.listing l.detail l.indent (parts_of l.parts);
}
