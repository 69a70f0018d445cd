-- Parts that a field can have, its limits aside.
use Rattle.std.specs.Prelude.{◌≡◌, true}
use Rattle.dx_base.specs.Object.{PartList}
use Rattle.dx_base.specs.ObjectLimits.{all_named, differ, all_arrays, unplaced}

pub record AreComponents (ps : PartList) : Type 0 where
  pub named : all_named ps ≡ true
  pub differ : differ ps ≡ true
  pub arrays : all_arrays ps ≡ true
  pub unplaced : unplaced ps ≡ ps
