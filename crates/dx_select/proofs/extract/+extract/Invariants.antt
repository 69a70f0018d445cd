use Rattle.std.proofs.Common.{◌≡◌, ◌≤◌, drop}
use Rattle.dx_objects.specs.Members.{trees}
use Rattle.dx_objects.specs.Nodes.{nodes, all_nodes}
use Rattle.dx_objects.specs.Shown.{parts_of}
use Rattle.dx_select.specs.Extract.{all_extracted}
use Rattle.dx_select.proofs.ExtractLaws.{behind}
use Rattle.dx_select.proofs.extract.+extract.Given as goal

abbrev pub decreases-extracted : goal.decreases-extracted
decreases-extracted l = nodes l.object.now

abbrev pub decreases-all_extracted : goal.decreases-all_extracted
decreases-all_extracted l = all_nodes (parts_of l.parts.now)

-- what is found so far, with what the other members give, is all
abbrev pub invariant-all_extracted-loop-part : goal.invariant-all_extracted-loop-part
invariant-all_extracted-loop-part l = record {
  nodes : all_nodes (parts_of (drop l.part-index l.parts)) ≤ all_nodes (parts_of l.parts);
  all : behind (trees l.found) (all_extracted l.name (parts_of (drop l.part-index l.parts))) ≡ all_extracted l.name (parts_of l.parts);
}
