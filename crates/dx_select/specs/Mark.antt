-- What Mark and Unmark answer: a field with a component as its data, and with its own data again.
use Rattle.std.specs.Prelude.{ℕ, List, Option, Some, None, Ok, Err, if◌then◌else◌, bytes_eq}
use Rattle.dx_base.specs.declared.code.Code.TheVariants.{BadArgument, NoComponent}
use Rattle.dx_base.specs.Object.{Tree, PartList, field, parts, attributes}
use Rattle.dx_base.specs.ObjectNames.{find, component, put, without}
use Rattle.dx_objects.specs.Runs.{Values, Answer}
use Rattle.dx_objects.specs.Values.{value_at}
use Rattle.dx_select.specs.Answered.{Answered, ◌>>=◌, or_refused, needed, in_limits, one_result}
use Rattle.dx_select.specs.Inputs.{data_name, saved_name, text_in, field_in}

-- where there is data, it is kept as `saved data`, which stands last
abbrev pub with_saved : Option Tree → PartList → PartList
with_saved None ps = ps
with_saved (Some t) ps = put saved_name t ps

-- the components of the field, with the one of the name n as the data
abbrev pub marked : List ℕ → Tree → Answered PartList
marked n whole = or_refused NoComponent (component n whole) >>= λ c. Ok (put data_name c (with_saved (component data_name whole) (parts whole)))

-- a field is marked once: it needs to have no `saved data`
abbrev pub unless_saved : Option Tree → Answered PartList → Answered PartList
unless_saved None there = there
unless_saved (Some t) there = Err BadArgument

-- where something is saved it becomes the data again, and else there is no data any more, unless the name is `data`
abbrev pub with_data : List ℕ → Option Tree → PartList → PartList
with_data n (Some t) ps = without saved_name (put data_name t ps)
with_data n None ps = if bytes_eq n data_name then ps else without data_name ps

-- step by step: what is saved is looked for behind the first step
abbrev pub restored : List ℕ → PartList → PartList
restored n ps = with_data n (find saved_name ps) ps

-- the components of the field, with the data under the name n, and with the data that was saved
abbrev pub unmarked : List ℕ → Tree → Answered PartList
unmarked n whole = or_refused NoComponent (component data_name whole) >>= λ c. Ok (restored n (put n c (parts whole)))

-- the field with these components in the place of its own
abbrev pub remade : Tree → PartList → Answered Tree
remade whole ps = in_limits (field ps (attributes whole))

abbrev pub mark_answer : Values → Answer
mark_answer inputs =
    one_result (needed (field_in (value_at inputs 0)) >>= λ whole.
    needed (text_in (value_at inputs 1)) >>= λ n.
    unless_saved (component saved_name whole) (marked n whole) >>= λ ps.
    remade whole ps)

abbrev pub unmark_answer : Values → Answer
unmark_answer inputs =
    one_result (needed (field_in (value_at inputs 0)) >>= λ whole.
    needed (text_in (value_at inputs 1)) >>= λ n.
    unmarked n whole >>= λ ps.
    remade whole ps)
