-- What Histogram answers: a field with the counts of its bins, and the median.
use Rattle.std.specs.Prelude.{ℕ, ◌+◌, ℤ, pos, unsigned_abs, int_le, List, [], ◌∷◌, ◌&&◌, Option, Some, None, Result, Ok, Err, if◌then◌else◌, codes}
use Rattle.dx_base.specs.declared.code.Code.{Code}
use Rattle.dx_base.specs.declared.code.Code.TheVariants.{BadArgument, Unsupported, Overflow, TooLarge}
use Rattle.dx_base.specs.declared.elem.ElemType.TheVariants.{Int}
use Rattle.dx_base.specs.Array.{ArrayData, plain, grid_connections}
use Rattle.dx_base.specs.Object.{Tree, PartList, array, text, field, no_parts, part}
use Rattle.dx_base.specs.ObjectLimits.{fits}
use Rattle.dx_base.specs.ObjectNumbers.{as_number, number_value}
use Rattle.dx_arrays.specs.declared.array.ArrayError.{ArrayError}
use Rattle.dx_arrays.specs.declared.array.ArrayError.TheVariants.{BadShape, TooManyItems, ItemCount, RangeOfType}
use Rattle.dx_arrays.specs.Makes.{refusal}
use Rattle.dx_objects.specs.Runs.{Values, Answer}
use Rattle.dx_objects.specs.Values.{value_at}
use Rattle.dx_stats.specs.declared.bins.Bins.{Bins}
use Rattle.dx_stats.specs.Bins.{borders, bin_counts, median}
use Rattle.dx_stats.specs.Numbers.{numbers, numbers_in}
use Rattle.dx_stats.specs.Statistics.{least, greatest}

-- ---- the bins that are asked for

-- a number of bins is from 1 to 65,536
abbrev pub as_count : Option ℤ → Option ℕ
as_count None = None
as_count (Some n) = if int_le (pos 1) n && int_le n (pos 65536) then Some (unsigned_abs n) else None

-- NULL stands for 100 bins
abbrev pub count_asked : Option Tree → Option ℕ
count_asked None = Some 100
count_asked (Some t) = as_count (as_number t)

-- NULL stands for the end of the numbers themselves
abbrev pub end_asked : ℤ → Option Tree → Option ℤ
end_asked own None = Some own
end_asked own (Some t) = as_number t

abbrev pub if_ordered : Bins → Result Bins Code
if_ordered b = if int_le b.low b.high then Ok b else Err BadArgument

-- the last input has no use
abbrev pub unless_used : Option Tree → Result Bins Code → Result Bins Code
unless_used None bins = bins
unless_used (Some t) bins = Err Unsupported

abbrev pub bins_by : Option ℕ → Option ℤ → Option ℤ → Option Tree → Result Bins Code
bins_by None low high unused = Err BadArgument
bins_by (Some n) None high unused = Err BadArgument
bins_by (Some n) (Some l) None unused = Err BadArgument
bins_by (Some n) (Some l) (Some h) unused = unless_used unused (if_ordered (record { count = n; low = l; high = h }))

-- the bins that the inputs ask for, over these numbers
abbrev pub bins_asked : List ℤ → Values → Result Bins Code
bins_asked vs inputs =
    bins_by (count_asked (value_at inputs 1)) (end_asked (least vs) (value_at inputs 2)) (end_asked (greatest vs) (value_at inputs 3)) (value_at inputs 4)

-- ---- the field

abbrev pub text_part : List ℕ → List ℕ → PartList → PartList
text_part name words others = part (Some name) (pos 0) (text words no_parts) others

-- how the positions lie on a line: a border is an item
abbrev pub positions : Bins → ArrayData
positions b = record { elem = Int; extents = 1 ∷ []; class = plain (borders b) }

abbrev pub connections : Bins → ArrayData
connections b = record { elem = Int; extents = 2 ∷ []; class = grid_connections ((b.count + 1) ∷ []) }

abbrev pub counts : Bins → List ℤ → ArrayData
counts b vs = record { elem = Int; extents = []; class = plain (bin_counts b vs) }

-- why there is no such array: a number that is no int, or too many of them
abbrev pub code_of : ArrayError → Code
code_of RangeOfType = Overflow
code_of BadShape = TooLarge
code_of TooManyItems = TooLarge
code_of ItemCount = TooLarge

abbrev pub if_fits : Tree → Result Tree Code
if_fits t = if fits t then Ok t else Err TooLarge

abbrev pub if_made : Option ArrayError → Tree → Result Tree Code
if_made None t = if_fits t
if_made (Some e) t = Err (code_of e)

-- an array with attributes, if there is such an object
abbrev pub made : ArrayData → PartList → Result Tree Code
made a xs = if_made (refusal a) (array a xs)

abbrev pub made_positions : Bins → Result Tree Code
made_positions b = made (positions b) no_parts

abbrev pub made_connections : Bins → Result Tree Code
made_connections b =
    made (connections b) (text_part (codes "element type") (codes "lines") (text_part (codes "ref") (codes "positions") no_parts))

abbrev pub made_counts : Bins → List ℤ → Result Tree Code
made_counts b vs = made (counts b vs) (text_part (codes "dep") (codes "connections") no_parts)

abbrev pub field_of : Tree → Tree → Tree → Tree
field_of ps cs ds =
    field (part (Some (codes "positions")) (pos 0) ps (part (Some (codes "connections")) (pos 0) cs (part (Some (codes "data")) (pos 0) ds no_parts))) no_parts

abbrev pub made_field : Result Tree Code → Result Tree Code → Result Tree Code → Result Tree Code
made_field (Err code) cs ds = Err code
made_field (Ok ps) (Err code) ds = Err code
made_field (Ok ps) (Ok cs) (Err code) = Err code
made_field (Ok ps) (Ok cs) (Ok ds) = if_fits (field_of ps cs ds)

abbrev pub histogram : Bins → List ℤ → Result Tree Code
histogram b vs = made_field (made_positions b) (made_connections b) (made_counts b vs)

-- ---- the answer

abbrev pub median_value : Option ℤ → Option Tree
median_value None = None
median_value (Some n) = number_value n

abbrev pub both : Result Tree Code → Option ℤ → Answer
both (Err code) m = Err code
both (Ok t) m = Ok (Some t ∷ median_value m ∷ [])

abbrev pub by_bins : List ℤ → Result Bins Code → Answer
by_bins vs (Err code) = Err code
by_bins vs (Ok b) = both (histogram b vs) (median b vs)

abbrev pub histogram_over : Result ArrayData Code → Values → Answer
histogram_over (Err code) inputs = Err code
histogram_over (Ok a) inputs = by_bins (numbers a) (bins_asked (numbers a) inputs)

abbrev pub histogram_answer : Values → Answer
histogram_answer inputs = histogram_over (numbers_in (value_at inputs 0)) inputs
