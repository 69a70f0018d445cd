-- What Inquire answers.
use Rattle.std.specs.Prelude.{ℕ, pos, List, [], ◌∷◌, map, length, Bool, true, false, Option, Some, None, is_none, Ok, Err, if◌then◌else◌, codes}
use Rattle.std.specs.Str.{bytes_eq}
use Rattle.dx_base.specs.declared.code.Code.{Code}
use Rattle.dx_base.specs.declared.code.Code.TheVariants.{BadArgument, Unsupported, Overflow, TooLarge}
use Rattle.dx_base.specs.declared.elem.ElemType.TheVariants.{Int}
use Rattle.dx_base.specs.Array.{ArrayData, plain, items, counts_of}
use Rattle.dx_base.specs.Object.{Tree, array, text, no_parts, parts, part_count}
use Rattle.dx_base.specs.ObjectLimits.{fits}
use Rattle.dx_base.specs.ObjectNames.{component}
use Rattle.dx_base.specs.ObjectNumbers.{number_value}
use Rattle.dx_base.specs.Words.{type_word}
use Rattle.dx_arrays.specs.declared.array.ArrayError.{ArrayError}
use Rattle.dx_arrays.specs.declared.array.ArrayError.TheVariants.{BadShape, TooManyItems, ItemCount, RangeOfType}
use Rattle.dx_arrays.specs.Makes.{refusal}
use Rattle.dx_objects.specs.declared.kinds.Kind.{Kind}
use Rattle.dx_objects.specs.declared.kinds.Kind.TheVariants as kind
use Rattle.dx_objects.specs.contracts.kinds.KindPartialEq.TheImpl as kinds
use Rattle.dx_objects.specs.Kinds.{kind_of, text_of, array_of}
use Rattle.dx_objects.specs.Runs.{Values, Answer}
use Rattle.dx_objects.specs.Values.{value_at}
use Rattle.dx_fields.specs.Grids.{grid_counts}
use Rattle.dx_inquire.specs.declared.question.Question.{Question}
use Rattle.dx_inquire.specs.declared.question.Question.TheVariants.{IsNull, Is, Of, MemberCount, GridCounts, Other}
use Rattle.dx_inquire.specs.declared.question.ArrayQuestion.{ArrayQuestion}
use Rattle.dx_inquire.specs.declared.question.ArrayQuestion.TheVariants.{Items, Rank, Elem, Shape}

-- ---- questions

abbrev asks : List ℕ → List ℕ → Question → Question → Question
asks t words question other = if bytes_eq t words then question else other

-- the question that a text is
abbrev pub question_of : List ℕ → Question
question_of t =
    asks t (codes "is null") IsNull
    (asks t (codes "is array") (Is kind.Array)
    (asks t (codes "is string") (Is kind.Text)
    (asks t (codes "is field") (Is kind.Field)
    (asks t (codes "is group") (Is kind.Group)
    (asks t (codes "is series") (Is kind.Series)
    (asks t (codes "items") (Of Items)
    (asks t (codes "rank") (Of Rank)
    (asks t (codes "type") (Of Elem)
    (asks t (codes "shape") (Of Shape)
    (asks t (codes "member count") MemberCount
    (asks t (codes "grid counts") GridCounts Other)))))))))))

abbrev question_in : Option (List ℕ) → Option Question
question_in None = None
question_in (Some t) = Some (question_of t)

-- the question that is asked: NULL stands for `is null`, and what is no text for none
abbrev pub asked : Option Tree → Option Question
asked None = Some IsNull
asked (Some t) = question_in (text_of t)

-- ---- answers

-- a number as the answer, or NULL in its place where it is no int
abbrev pub number_answer : ℕ → Answer
number_answer n = Ok (number_value (pos n) ∷ [])

abbrev pub truth : Bool → Answer
truth true = number_answer 1
truth false = number_answer 0

abbrev pub is_null : Option Tree → Bool
is_null v = is_none v

abbrev pub has_kind : Kind → Option Tree → Bool
has_kind k None = false
has_kind k (Some t) = kinds.ghosts.eq (kind_of t) k

-- one object as the answer, where it is within the limits of objects
abbrev pub one_object : Tree → Answer
one_object t = if fits t then Ok (Some t ∷ []) else Err TooLarge

-- a plain int array of rank 0
abbrev pub ints : List ℕ → ArrayData
ints ns = record { elem = Int; extents = []; class = plain (map (λ n. pos n) ns) }

-- why there is no such array: a number that is no int, or too many of them
abbrev pub code_of : ArrayError → Code
code_of RangeOfType = Overflow
code_of BadShape = TooLarge
code_of TooManyItems = TooLarge
code_of ItemCount = TooLarge

abbrev pub of_array : Option ArrayError → ArrayData → Answer
of_array None a = one_object (array a no_parts)
of_array (Some e) a = Err (code_of e)

-- these numbers as a list of ints
abbrev pub ints_answer : List ℕ → Answer
ints_answer ns = of_array (refusal (ints ns)) (ints ns)

-- the array that is asked about: an array, or the component `data` of a field
abbrev pub data_name : List ℕ
data_name = 100 ∷ 97 ∷ 116 ∷ 97 ∷ []

abbrev pub array_part : Option Tree → Option ArrayData
array_part None = None
array_part (Some t) = array_of t

abbrev pub or_data : Option ArrayData → Option ArrayData → Option ArrayData
or_data (Some a) data_array = Some a
or_data None data_array = data_array

abbrev pub array_or_data : Tree → Option ArrayData
array_or_data t = or_data (array_of t) (array_part (component data_name t))

abbrev pub array_in : Option Tree → Option ArrayData
array_in None = None
array_in (Some t) = array_or_data t

abbrev pub about_array : (ArrayData → Answer) → Option ArrayData → Answer
about_array answer None = Err BadArgument
about_array answer (Some a) = answer a

abbrev pub type_answer : ArrayData → Answer
type_answer a = one_object (text (type_word a.elem) no_parts)

-- how many components or members there are
abbrev pub has_parts : Kind → Bool
has_parts kind.Array = false
has_parts kind.Text = false
has_parts kind.Field = true
has_parts kind.Group = true
has_parts kind.Series = true

abbrev pub members_answer : Bool → Tree → Answer
members_answer true t = number_answer (part_count (parts t))
members_answer false t = Err BadArgument

abbrev pub members_in : Option Tree → Answer
members_in None = Err BadArgument
members_in (Some t) = members_answer (has_parts (kind_of t)) t

-- the counts of a grid: of an array that is one, or of a field that is one
abbrev pub grid_of_array : List ℕ → Option (List ℕ)
grid_of_array [] = None
grid_of_array (c ∷ cs) = Some (c ∷ cs)

abbrev pub grid_by : Option ArrayData → Option (List ℕ) → Option (List ℕ)
grid_by (Some a) of_field = grid_of_array (counts_of a.class)
grid_by None of_field = of_field

abbrev pub grid_in : Option Tree → Option (List ℕ)
grid_in None = None
grid_in (Some t) = grid_by (array_of t) (grid_counts t)

abbrev pub about_grid : Option (List ℕ) → Answer
about_grid None = Err BadArgument
about_grid (Some cs) = ints_answer cs

abbrev pub array_answer : ArrayQuestion → ArrayData → Answer
array_answer Items a = number_answer (items a)
array_answer Rank a = number_answer (length a.extents)
array_answer Elem a = type_answer a
array_answer Shape a = ints_answer a.extents

-- what is answered to a question about an input
abbrev pub answer : Question → Option Tree → Answer
answer IsNull v = truth (is_null v)
answer (Is k) v = truth (has_kind k v)
answer (Of q) v = about_array (array_answer q) (array_in v)
answer MemberCount v = members_in v
answer GridCounts v = about_grid (grid_in v)
answer Other v = Err Unsupported

-- the third input has no use
abbrev pub unless_used : Option Tree → Answer → Answer
unless_used None a = a
unless_used (Some t) a = Err Unsupported

abbrev pub answer_asked : Option Question → Option Tree → Option Tree → Answer
answer_asked None v unused = Err BadArgument
answer_asked (Some q) v unused = unless_used unused (answer q v)

abbrev pub inquire_answer : Values → Answer
inquire_answer inputs = answer_asked (asked (value_at inputs 1)) (value_at inputs 0) (value_at inputs 2)
