-- Each part has fewer nodes than the list that it is in.
use Rattle.std.specs.Prelude.{◌≤◌, max, List, [], ◌∷◌}
use Rattle.std.proofs.Common.{arith}
use Rattle.dx_objects.specs.declared.object.Part.{Part}
use Rattle.dx_objects.specs.declared.object.NamedParts.TheDeep.{deep-Part}
use Rattle.dx_objects.specs.Shown.{parts_of}
use Rattle.dx_objects.specs.Nodes.{all_nodes}
use denote.Param.Weighed.{most}

pub most-le-all_nodes : (ps : List Part) → max (most deep-Part ps) 0 ≤ all_nodes (parts_of ps)
most-le-all_nodes [] = omega arith
most-le-all_nodes (p ∷ ps) = omega (arith, most-le-all_nodes ps)
