-- What Collect, CollectNamed and CollectSeries answer: a group or a series of their inputs.
use Rattle.std.specs.Prelude.{◌≡◌, ℕ, ℤ, pos, List, [], ◌∷◌, Option, Some, None, Result, Ok, Err, if◌then◌else◌}
use Rattle.dx_base.specs.declared.code.Code.{Code}
use Rattle.dx_base.specs.declared.code.Code.TheVariants.{BadArgument, TooLarge}
use Rattle.dx_base.specs.declared.elem.ElemType.TheVariants.{Int}
use Rattle.dx_base.specs.Elem.{in_range}
use Rattle.dx_base.specs.Object.{Tree, PartList, group, series, no_parts, part, append}
use Rattle.dx_base.specs.ObjectLimits.{differ}
use Rattle.dx_base.specs.ObjectNumbers.{as_number}
use Rattle.dx_objects.specs.Kinds.{text_of}
use Rattle.dx_objects.specs.declared.makers.ObjectError.{ObjectError}
use Rattle.dx_objects.specs.declared.makers.ObjectError.TheVariants as refused
use Rattle.dx_objects.specs.declared.object.Part.{Part}
use Rattle.dx_objects.specs.declared.run_fail.RunFail.{RunFail}
use Rattle.dx_objects.specs.declared.run_fail.RunFail.TheVariants as fail
use Rattle.dx_objects.specs.Runs.{Values, Answer}
use Rattle.dx_select.specs.Answered.{Answered, ◌>>=◌, in_limits, one_result}
use Rattle.dx_select.specs.declared.collect.Beside.{Beside}
use Rattle.dx_select.specs.declared.collect.Beside.TheVariants.{Name, Position}

-- a value that isn't NULL, as a member without a name
abbrev pub member : Option Tree → PartList
member None = no_parts
member (Some t) = part None (pos 0) t no_parts

abbrev pub members : Values → PartList
members [] = no_parts
members (v ∷ vs) = append (member v) (members vs)

abbrev pub collect_answer : Values → Answer
collect_answer inputs = one_result (in_limits (group (members inputs) no_parts))

-- ---- pairs of an object and what stands beside it: its name or its position

-- the name and the position of a member
abbrev pub Place : Type 0
Place = Option (List ℕ) × ℤ

-- a name is a text, or NULL for none
abbrev pub name_place : Option (List ℕ) → Answered Place
name_place None = Err BadArgument
name_place (Some n) = Ok (Some n, pos 0)

-- a position is a number that is an int
abbrev pub int_in : Option ℤ → Option ℤ
int_in None = None
int_in (Some p) = if in_range Int p then Some p else None

abbrev pub position : Option Tree → Option ℤ
position None = None
position (Some v) = int_in (as_number v)

abbrev pub at_position : Option ℤ → Answered Place
at_position None = Err BadArgument
at_position (Some p) = Ok (None, p)

abbrev pub place : Beside → Option Tree → Answered Place
place Name None = Ok (None, pos 0)
place Name (Some v) = name_place (text_of v)
place Position v = at_position (position v)

-- the member that a pair is, where its object isn't NULL
abbrev pub pair : Beside → Option Tree → Option Tree → Answered PartList
pair b None v = Ok no_parts
pair b (Some t) v = place b v >>= λ at. Ok (part at.0 at.1 t no_parts)

-- the members that the pairs are; behind the last object may stand nothing, which is NULL
abbrev pub paired : Beside → Values → Answered PartList
paired b [] = Ok no_parts
paired b (o ∷ []) = pair b o None
paired b (o ∷ v ∷ vs) = pair b o v >>= λ ps. paired b vs >>= λ qs. Ok (append ps qs)

-- names need to differ
abbrev pub named_group : PartList → Answered Tree
named_group ps = if differ ps then in_limits (group ps no_parts) else Err BadArgument

abbrev pub collect_named_answer : Values → Answer
collect_named_answer inputs = one_result (paired Name inputs >>= λ ps. named_group ps)

abbrev pub collect_series_answer : Values → Answer
collect_series_answer inputs = one_result (paired Position inputs >>= λ ps. in_limits (series ps no_parts))

-- ---- what the code gives

-- this part, or this code, or memory ran out
abbrev pub GivesPart : Answered Place → Tree → Result Part RunFail → Type 0
GivesPart there t (Ok p) = (there ≡ Ok (p.name, p.position)) × (p.object.value ≡ t)
GivesPart there t (Err (fail.Code code)) = there ≡ Err code
GivesPart there t (Err fail.Memory) = Unit {0}

-- the parts grew by these, or this code, or memory ran out
abbrev pub Grows : Answered PartList → PartList → PartList → Result Unit RunFail → Type 0
Grows there old new (Ok done) = (there >>= λ ps. Ok (append old ps)) ≡ Ok new
Grows there old new (Err (fail.Code code)) = there ≡ Err code
Grows there old new (Err fail.Memory) = Unit {0}

-- why there is no group of these members
abbrev pub code_of : ObjectError → Code
code_of refused.TooLarge = TooLarge
code_of refused.BadNames = BadArgument
code_of refused.NotAnArray = BadArgument
code_of refused.MemberNotAField = BadArgument
