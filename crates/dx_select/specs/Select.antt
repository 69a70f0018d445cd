-- What Select answers: a member of a group or series.
use Rattle.std.specs.Prelude.{ℕ, zero, suc, ℤ, pos, negsuc, List, Bool, true, false, ◌&&◌, ◌||◌, Option, Some, None, is_some, Err, if◌then◌else◌}
use Rattle.dx_base.specs.declared.code.Code.TheVariants.{BadArgument, Unsupported, NoMember}
use Rattle.dx_base.specs.Object.{Tree, PartList, array, text, field, group, composite, series, no_parts, part, parts}
use Rattle.dx_base.specs.ObjectNames.{member}
use Rattle.dx_base.specs.ObjectNumbers.{as_number}
use Rattle.dx_objects.specs.Kinds.{text_of}
use Rattle.dx_objects.specs.Runs.{Values, Answer}
use Rattle.dx_objects.specs.Values.{value_at}
use Rattle.dx_select.specs.Answered.{Answered, or_refused, one_result}

abbrev pub has_members : Tree → Bool
has_members (array a xs) = false
has_members (text b xs) = false
has_members (field ps xs) = false
has_members (group ps xs) = true
has_members (composite ps xs) = true
has_members (series ps xs) = true

-- the member at a place, counted from 0
abbrev pub at_place : PartList → ℕ → Option Tree
at_place no_parts i = None
at_place (part n p t ps) zero = Some t
at_place (part n p t ps) (suc i) = at_place ps i

abbrev pub at_number : ℤ → PartList → Option Tree
at_number (pos i) ps = at_place ps i
at_number (negsuc i) ps = None

-- NULL chooses the first member, a number the member at that place, and a text the member of that name
abbrev pub chosen_by : Option ℤ → Option (List ℕ) → Tree → Option Tree
chosen_by (Some n) name t = at_number n (parts t)
chosen_by None (Some name) t = member name t
chosen_by None None t = None

abbrev pub chosen : Option Tree → Tree → Option Tree
chosen None t = at_place (parts t) 0
chosen (Some which) t = chosen_by (as_number which) (text_of which) t

abbrev pub can_choose : Option Tree → Bool
can_choose None = true
can_choose (Some which) = is_some (as_number which) || is_some (text_of which)

-- the third input has no use
abbrev pub unless_used : Option Tree → Answered Tree → Answered Tree
unless_used None there = there
unless_used (Some e) there = Err Unsupported

abbrev pub selected : Option Tree → Option Tree → Option Tree → Answered Tree
selected None which except = Err BadArgument
selected (Some t) which except =
    if has_members t && can_choose which then unless_used except (or_refused NoMember (chosen which t)) else Err BadArgument

abbrev pub select_answer : Values → Answer
select_answer inputs = one_result (selected (value_at inputs 0) (value_at inputs 1) (value_at inputs 2))
