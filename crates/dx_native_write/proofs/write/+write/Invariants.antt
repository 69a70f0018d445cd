use Rattle.std.proofs.Common.{◌≡◌, ◌≤◌, ◌<◌, ◌+◌, ◌*◌, ◌++◌, drop}
use Rattle.dx_objects.specs.Shown.{parts_of}
use Rattle.dx_objects.specs.Nodes.{nodes, all_nodes}
use Rattle.dx_native_text.specs.Text.{parts_many, values_many}
use Rattle.dx_native_write.specs.Numbered.{part_numbers, value_numbers, parts_text, values_text}
use Rattle.dx_native_write.proofs.write.+write.Given as goal

abbrev pub decreases-push_object : goal.decreases-push_object
decreases-push_object l = 2 * nodes l.object.now

abbrev pub decreases-push_unless_inline : goal.decreases-push_unless_inline
decreases-push_unless_inline l = 2 * nodes l.object.now + 1

abbrev pub decreases-push_parts : goal.decreases-push_parts
decreases-push_parts l = 2 * all_nodes (parts_of l.parts.now)

abbrev pub decreases-push_values : goal.decreases-push_values
decreases-push_values l = 2 * all_nodes (parts_of l.attributes.now)

abbrev pub invariant-push_parts-loop-part : goal.invariant-push_parts-loop-part
invariant-push_parts-loop-part l = record {
  some : 0 < l.next;
  next : l.next + parts_many (parts_of (drop l.part-index l.parts)) ≡ l.first + parts_many (parts_of l.parts);
  nodes : all_nodes (parts_of (drop l.part-index l.parts)) ≤ all_nodes (parts_of l.parts);
  text : l.out.items ++ parts_text (parts_of (drop l.part-index l.parts)) l.next ≡ l.initial.out.items ++ parts_text (parts_of l.parts) l.first;
  numbers : l.numbers.items ++ part_numbers (parts_of (drop l.part-index l.parts)) l.next ≡ l.initial.numbers.items ++ part_numbers (parts_of l.parts) l.first;
}

abbrev pub invariant-push_values-loop-attribute : goal.invariant-push_values-loop-attribute
invariant-push_values-loop-attribute l = record {
  some : 0 < l.next;
  next : l.next + values_many (parts_of (drop l.attribute-index l.attributes)) ≡ l.first + values_many (parts_of l.attributes);
  nodes : all_nodes (parts_of (drop l.attribute-index l.attributes)) ≤ all_nodes (parts_of l.attributes);
  text : l.out.items ++ values_text (parts_of (drop l.attribute-index l.attributes)) l.next ≡ l.initial.out.items ++ values_text (parts_of l.attributes) l.first;
  numbers : l.numbers.items ++ value_numbers (parts_of (drop l.attribute-index l.attributes)) l.next ≡ l.initial.numbers.items ++ value_numbers (parts_of l.attributes) l.first;
}
