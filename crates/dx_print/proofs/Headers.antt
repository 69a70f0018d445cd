-- The header of an object of a kind.
use Rattle.std.proofs.Common.{◌≡◌, ◌++◌, codes, refl}
use Rattle.std.specs.Fmt.{decimal}
use Rattle.dx_base.specs.Object.{Tree, field, group, series, composite, parts, part_count}
use Rattle.dx_objects.specs.Kinds.{kind_of}
use Rattle.dx_objects.specs.declared.kinds.Kind.TheVariants as kind
use Rattle.dx_print.specs.Header.{object_header}

pub field_header : (t : Tree) → kind_of t ≡ kind.Field → object_header t ≡ codes "field " ++ decimal (part_count (parts t)) ++ codes " components"
field_header (field ps xs) e = refl
field_header _ e = cc

pub group_header : (t : Tree) → kind_of t ≡ kind.Group → object_header t ≡ codes "group " ++ decimal (part_count (parts t)) ++ codes " members"
group_header (group ps xs) e = refl
group_header (composite ps xs) e = refl
group_header _ e = cc

pub series_header : (t : Tree) → kind_of t ≡ kind.Series → object_header t ≡ codes "series " ++ decimal (part_count (parts t)) ++ codes " members"
series_header (series ps xs) e = refl
series_header _ e = cc

pub ruleset headers = (field_header, group_header, series_header)
