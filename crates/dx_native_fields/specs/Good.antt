-- Objects in which no field has a fault: neither the object itself nor one that its parts reach. Attributes aren't looked at.
use Rattle.std.specs.Prelude.{Bool, true, ◌&&◌, is_none}
use Rattle.dx_base.specs.Object.{Tree, PartList, array, text, field, group, composite, series, no_parts, part}
use Rattle.dx_fields.specs.Faults.{field_fault}

abbrev mutual
  pub good_fields : Tree → Bool
  good_fields (array a xs) = true
  good_fields (text b xs) = true
  good_fields (field ps xs) = is_none (field_fault (field ps xs)) && all_good ps
  good_fields (group ps xs) = all_good ps
  good_fields (composite ps xs) = all_good ps
  good_fields (series ps xs) = all_good ps

  pub all_good : PartList → Bool
  all_good no_parts = true
  all_good (part n p t ps) = good_fields t && all_good ps
