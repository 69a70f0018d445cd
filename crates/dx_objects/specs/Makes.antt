-- What a maker of objects answers.
use Rattle.std.specs.Prelude.{◌≡◌, not, if◌then◌else◌, Option, Some, None, Result, Ok, Err}
use Rattle.dx_base.specs.Object.{Tree}
use Rattle.dx_base.specs.ObjectLimits.{has_good_names, has_array_components, has_field_members, fits}
use Rattle.dx_objects.specs.declared.makers.ObjectError.{ObjectError}
use Rattle.dx_objects.specs.declared.makers.ObjectError.TheVariants.{TooLarge, BadNames, NotAnArray, MemberNotAField}

-- why a tree is no object, if it is none: the first of these
abbrev pub refusal : Tree → Option ObjectError
refusal t =
    if not (has_good_names t) then Some BadNames
    else if not (has_array_components t) then Some NotAnArray
    else if not (has_field_members t) then Some MemberNotAField
    else if fits t then None
    else Some TooLarge

-- the tree itself, or the reason why it is refused
abbrev pub Makes : Tree → Result Tree ObjectError → Type 0
Makes t (Ok made) = (made ≡ t) × (refusal t ≡ None)
Makes t (Err e) = refusal t ≡ Some e
