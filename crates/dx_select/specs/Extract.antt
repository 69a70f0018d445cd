-- What Extract answers: a component of a field, or of each field in a group or series.
use Rattle.std.specs.Prelude.{ℕ, List, [], ◌∷◌, Ok, Err}
use Rattle.dx_base.specs.declared.code.Code.TheVariants.{BadArgument, NoComponent}
use Rattle.dx_base.specs.Object.{Tree, PartList, array, text, field, group, composite, series, no_parts, part}
use Rattle.dx_base.specs.ObjectMembers.{placed, composite_or_group}
use Rattle.dx_base.specs.ObjectNames.{find}
use Rattle.dx_objects.specs.Runs.{Values, Answer}
use Rattle.dx_objects.specs.Values.{value_at}
use Rattle.dx_select.specs.Answered.{Answered, ◌>>=◌, or_refused, needed, one_result}
use Rattle.dx_select.specs.Inputs.{name_or_data}

-- A field gives its component of this name. In a group or series, what a member gives takes that member's place; a composite
-- group stays one where the new members are all fields. The first member that doesn't fit decides.
abbrev mutual
  pub extracted : List ℕ → Tree → Answered Tree
  extracted n (array a xs) = Err BadArgument
  extracted n (text b xs) = Err BadArgument
  extracted n (field ps xs) = or_refused NoComponent (find n ps)
  extracted n (group ps xs) = all_extracted n ps >>= λ ts. Ok (group (placed ps ts) xs)
  extracted n (composite ps xs) = all_extracted n ps >>= λ ts. Ok (composite_or_group (placed ps ts) xs)
  extracted n (series ps xs) = all_extracted n ps >>= λ ts. Ok (series (placed ps ts) xs)

  pub all_extracted : List ℕ → PartList → Answered (List Tree)
  all_extracted n no_parts = Ok []
  all_extracted n (part m p t ps) = extracted n t >>= λ u. all_extracted n ps >>= λ us. Ok (u ∷ us)

-- Where the input is an array or a text, and where the name is no text, it is the same code, so the order of these is free.
abbrev pub extract_answer : Values → Answer
extract_answer inputs = one_result (needed (value_at inputs 0) >>= λ t. needed (name_or_data (value_at inputs 1)) >>= λ n. extracted n t)
