-- Each part of an object has fewer nodes than the object.
use Rattle.std.specs.Prelude.{◌+◌, ◌≤◌, max}
use Rattle.std.proofs.Common.{arith}
use Rattle.dx_base.specs.Object.{PartList}
use Rattle.dx_objects.specs.declared.object.Body.{Body}
use Rattle.dx_objects.specs.declared.object.Body.TheVariants.{Array, Text, Field, Group, Composite, Series}
use Rattle.dx_objects.specs.declared.object.NamedParts.TheDeep.{deep-Body}
use Rattle.dx_objects.specs.View.{tree_of}
use Rattle.dx_objects.specs.Nodes.{nodes, all_nodes}

pub deep-le-nodes : (b : Body) (xs : PartList) → max (deep-Body b) (max (all_nodes xs + 1) 0) ≤ nodes (tree_of b xs)
deep-le-nodes (Array a) xs = omega arith
deep-le-nodes (Text b) xs = omega arith
deep-le-nodes (Field ps) xs = omega arith
deep-le-nodes (Group ps) xs = omega arith
deep-le-nodes (Composite ps) xs = omega arith
deep-le-nodes (Series ps) xs = omega arith
