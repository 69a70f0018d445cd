-- What Compute answers for its inputs: the expression, which is a text, and behind it the inputs `$0`, `$1` and so on.
use Rattle.std.specs.Prelude.{ℕ, zero, suc, ◌==◌, Bool, List, [], ◌∷◌, drop, map, Option, Some, None, Ok, Err, if◌then◌else◌}
use Rattle.std.specs.List.{range_with_len}
use Rattle.dx_base.specs.declared.code.Code.TheVariants.{BadArgument, ItemMismatch, NoComponent, TooLarge}
use Rattle.dx_base.specs.Array.{ArrayData, items}
use Rattle.dx_base.specs.Object.{Tree, array, no_parts, attributes}
use Rattle.dx_base.specs.ObjectLimits.{fits, is_field, max_levels}
use Rattle.dx_base.specs.ObjectMembers.{with_members}
use Rattle.dx_base.specs.ObjectNames.{with_component}
use Rattle.dx_objects.specs.Kinds.{array_of}
use Rattle.dx_objects.specs.Runs.{Values, Answer}
use Rattle.dx_objects.specs.Values.{value_at}
use Rattle.dx_expr_grammar.specs.declared.tree.Expression.{Expression}
use Rattle.dx_compute_meaning.specs.Answered.{Answered, ◌>>=◌, or_refused, collected}
use Rattle.dx_compute_meaning.specs.Expressions.{expression_in}
use Rattle.dx_compute_meaning.specs.Operands.{Operands, occurring, used, all_given, groups, member_count, are_all, all_at_place}
use Rattle.dx_compute_meaning.specs.Arrays.{data_name, stands_for, arrays_for, item_count, computed}

-- an object beyond the limits is too large
abbrev pub in_limits : Tree → Answered Tree
in_limits t = if fits t then Ok t else Err TooLarge

abbrev pub limited : Answered Tree → Answered Tree
limited there = there >>= in_limits

-- ---- over arrays and fields

-- the input itself, if it is a field
abbrev pub as_field : Option Tree → Option Tree
as_field None = None
as_field (Some t) = if is_field t then Some t else None

abbrev pub or_next : Option Tree → Option Tree → Option Tree
or_next None next = next
or_next (Some t) next = Some t

-- the first of them that is a field
abbrev pub first_field : Operands → Option Tree
first_field [] = None
first_field (v ∷ vs) = or_next (as_field v) (first_field vs)

abbrev pub has_items : ℕ → Option ArrayData → Bool
has_items n None = Bool.false
has_items n (Some a) = items a == n

abbrev pub with_data : ArrayData → Tree → Tree → Answered Tree
with_data a data_before whole = or_refused NoComponent (with_component data_name (array a (attributes data_before)) whole)

-- The array in the place of a field's data, the attributes of which stay. There need to be as many items as before.
abbrev pub in_place_of : ℕ → ArrayData → Tree → Option Tree → Answered Tree
in_place_of n a whole None = Err NoComponent
in_place_of n a whole (Some data_before) =
    if has_items n (array_of data_before) then with_data a data_before whole else Err ItemMismatch

-- an array of n items: by itself, or in a field
abbrev pub placed : ℕ → ArrayData → Option Tree → Answered Tree
placed n a None = Ok (array a no_parts)
placed n a (Some whole) = in_place_of n a whole (stands_for whole)

-- an array of n items as the answer: by itself or in the field, where that is within the limits
abbrev pub finished : ℕ → Option Tree → Answered ArrayData → Answered Tree
finished n whole there = there >>= λ a. limited (placed n a whole)

-- the answer where no input that occurs is a group or series
abbrev pub over_arrays : Expression → Operands → Answered Tree
over_arrays e vs = arrays_for vs >>= λ arrays. finished (item_count arrays) (first_field vs) (computed e arrays)

-- ---- over groups and series

-- the group or series with these members
abbrev pub or_itself : Tree → Option Tree → Tree
or_itself t None = t
or_itself t (Some made) = made

abbrev pub remade : Tree → List Tree → Tree
remade g ts = or_itself g (with_members ts g)

-- The first of these groups with each member replaced by the answer at its place; all have as many members.
abbrev pub over_groups : (ℕ → Answered Tree) → List Tree → Answered Tree → Answered Tree
over_groups answer_at [] else_this = else_this
over_groups answer_at (g ∷ gs) else_this =
    if are_all (member_count g) (map member_count (g ∷ gs))
    then (collected (map answer_at (range_with_len 0 (member_count g))) >>= λ ts. in_limits (remade g ts))
    else Err ItemMismatch

-- The answer for inputs of which groups and series are at most so many levels deep.
abbrev pub answer_within : ℕ → Expression → Operands → Answered Tree
answer_within zero e vs = if all_given (used e) vs then over_arrays e vs else Err BadArgument
answer_within (suc n) e vs =
    if all_given (used e) vs
    then over_groups (λ i. answer_within n e (all_at_place i vs)) (groups vs) (over_arrays e vs)
    else Err BadArgument

-- What Compute answers. No object has more levels than `max_levels`.
abbrev pub answer : Values → Answer
answer inputs = expression_in (value_at inputs 0) >>= λ e. answer_within max_levels e (occurring e 0 (drop 1 inputs)) >>= λ t. Ok (Some t ∷ [])
