-- Arrays are no fields.
use Rattle.std.proofs.Common.{◌≡◌, true, Some, refl}
use Rattle.dx_base.specs.Array.{ArrayData}
use Rattle.dx_base.specs.Object.{Tree, array, text, field, group, composite, series}
use Rattle.dx_objects.specs.Kinds.{array_of}
use Rattle.dx_native_fields.specs.Good.{good_fields}

pub array_good : (t : Tree) (a : ArrayData) → array_of t ≡ Some a → true ≡ good_fields t
array_good (array b xs) a e = refl
array_good (text b xs) a e = absurd cc
array_good (field ps xs) a e = absurd cc
array_good (group ps xs) a e = absurd cc
array_good (composite ps xs) a e = absurd cc
array_good (series ps xs) a e = absurd cc
