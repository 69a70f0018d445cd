-- What Replace answers: a field with another component, or without one.
use Rattle.std.specs.Prelude.{ℕ, List, Option, Some, None, Ok, Err}
use Rattle.dx_base.specs.declared.code.Code.TheVariants.{BadArgument, NoComponent}
use Rattle.dx_base.specs.Object.{Tree, array, text, field, group, composite, series}
use Rattle.dx_base.specs.ObjectNames.{find, component, with_component, without_component}
use Rattle.dx_objects.specs.Runs.{Values, Answer}
use Rattle.dx_objects.specs.Values.{value_at}
use Rattle.dx_select.specs.Answered.{Answered, ◌>>=◌, or_refused, needed, in_limits, one_result}
use Rattle.dx_select.specs.Inputs.{name_or_data, field_in}

-- the component that is taken from an input: an array is taken itself, and of a field the component of this name
abbrev pub taken_from : Tree → List ℕ → Answered Tree
taken_from (array a xs) n = Ok (array a xs)
taken_from (text b xs) n = Err BadArgument
taken_from (field ps xs) n = or_refused NoComponent (find n ps)
taken_from (group ps xs) n = Err BadArgument
taken_from (composite ps xs) n = Err BadArgument
taken_from (series ps xs) n = Err BadArgument

-- the field with a component under a name, in the place of the one that has it, or last
abbrev pub with_part : List ℕ → Tree → Tree → Answered Tree
with_part n c whole = needed (with_component n c whole) >>= in_limits

abbrev pub without_part : List ℕ → Tree → Answered Tree
without_part n whole = or_refused NoComponent (component n whole) >>= λ c. needed (without_component n whole)

-- where NULL is given as the source, the component is taken away
abbrev pub replaced : Option Tree → List ℕ → List ℕ → Tree → Answered Tree
replaced None source_name name whole = without_part name whole
replaced (Some source) source_name name whole = taken_from source source_name >>= λ c. with_part name c whole

-- A source that is neither an array nor a field has the same code as these, so the order of them is free.
abbrev pub replace_answer : Values → Answer
replace_answer inputs =
    one_result (needed (field_in (value_at inputs 1)) >>= λ whole.
    needed (name_or_data (value_at inputs 2)) >>= λ source_name.
    needed (name_or_data (value_at inputs 3)) >>= λ name.
    replaced (value_at inputs 0) source_name name whole)
