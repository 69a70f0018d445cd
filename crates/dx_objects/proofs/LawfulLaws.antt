-- What follows for whole objects from what holds of the object itself and of what it holds.
use Rattle.std.proofs.Common.{◌≡◌, pos, ap, refl}
use Rattle.dx_base.specs.Object.{Tree, PartList, array, text, field, group, composite, series, no_parts, part}
use Rattle.dx_base.specs.ObjectLimits.{IsAllowed, IsLawful, unplaced}
use Rattle.dx_objects.specs.View.{IsLawfulBelow}

pub lawful_of : (t : Tree) → IsAllowed t → IsLawfulBelow t → IsLawful t
lawful_of (array a xs) h k = (k.0, h, k.1)
lawful_of (text b xs) h k = (k.0, h, k.1)
lawful_of (field ps xs) h k = (h, k.0, k.1)
lawful_of (group ps xs) h k = (h, k.0, k.1)
lawful_of (composite ps xs) h k = (h, k.0, k.1)
lawful_of (series ps xs) h k = (h, k.0, k.1)

pub allowed_of : (t : Tree) → IsLawful t → IsAllowed t
allowed_of (array a xs) h = h.1
allowed_of (text b xs) h = h.1
allowed_of (field ps xs) h = h.0
allowed_of (group ps xs) h = h.0
allowed_of (composite ps xs) h = h.0
allowed_of (series ps xs) h = h.0

pub unplaced_twice : (ps : PartList) → unplaced (unplaced ps) ≡ unplaced ps
unplaced_twice no_parts = refl
unplaced_twice (part n p t ps) = ap (part n (pos 0) t) (unplaced_twice ps)
