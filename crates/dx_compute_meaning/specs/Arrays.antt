-- An expression over arrays, and over fields, which stand for their data.
use Rattle.std.specs.Prelude.{ℕ, zero, suc, ◌==◌, ℤ, pos, Bool, List, [], ◌∷◌, Option, Some, None, Ok, Err, codes, if◌then◌else◌}
use Rattle.dx_base.specs.declared.code.Code.{Code}
use Rattle.dx_base.specs.declared.code.Code.TheVariants as code
use Rattle.dx_base.specs.declared.elem.ElemType.TheVariants.{Int}
use Rattle.dx_base.specs.Array.{ArrayData, plain, items, value}
use Rattle.dx_base.specs.Object.{Tree, array, text, field, group, composite, series}
use Rattle.dx_base.specs.ObjectNames.{find}
use Rattle.dx_objects.specs.Kinds as kinds
use Rattle.dx_expr_grammar.specs.declared.tree.Expression.{Expression}
use Rattle.dx_expr.specs.declared.fault.ItemFault.{ItemFault}
use Rattle.dx_expr.specs.declared.fault.ItemFault.TheVariants as fault
use Rattle.dx_expr.specs.Shape.{Shape, shape_of}
use Rattle.dx_expr.specs.Value.{Inputs, Outcome, Values}
use Rattle.dx_expr_eval.specs.Items.{all_values}
use Rattle.dx_compute_meaning.specs.Answered.{Answered, ◌>>=◌, or_refused}
use Rattle.dx_compute_meaning.specs.Operands.{Operands, are_all}

-- ---- arrays for inputs

abbrev pub data_name : List ℕ
data_name = codes "data"

-- the object that an input stands for: a field for its component `data`, and an array for itself
abbrev pub stands_for : Tree → Option Tree
stands_for (array a xs) = Some (array a xs)
stands_for (text b xs) = None
stands_for (field ps xs) = find data_name ps
stands_for (group ps xs) = None
stands_for (composite ps xs) = None
stands_for (series ps xs) = None

abbrev pub array_in : Option Tree → Option ArrayData
array_in None = None
array_in (Some t) = kinds.array_of t

-- arrays, and none in the place of an input that doesn't occur
abbrev pub Arrays : Type 0
Arrays = List (Option ArrayData)

abbrev pub array_for : Option Tree → Answered (Option ArrayData)
array_for None = Ok None
array_for (Some t) = or_refused code.NoComponent (array_in (stands_for t)) >>= λ a. Ok (Some a)

-- the arrays that the inputs stand for
abbrev pub arrays_for : Operands → Answered Arrays
arrays_for [] = Ok []
arrays_for (v ∷ vs) = array_for v >>= λ a. arrays_for vs >>= λ arrays. Ok (a ∷ arrays)

-- ---- how many items there are

-- how many items an array has, if that is other than one
abbrev pub other_count : Option ArrayData → Option ℕ
other_count None = None
other_count (Some a) = if items a == 1 then None else Some (items a)

abbrev pub before_counts : Option ℕ → List ℕ → List ℕ
before_counts None ns = ns
before_counts (Some n) ns = n ∷ ns

-- the numbers of items that are other than one
abbrev pub item_counts : Arrays → List ℕ
item_counts [] = []
item_counts (a ∷ arrays) = before_counts (other_count a) (item_counts arrays)

abbrev pub fits_in : ℕ → Option ℕ → Bool
fits_in n None = Bool.true
fits_in n (Some m) = m == n

abbrev pub first_or_one : List ℕ → ℕ
first_or_one [] = 1
first_or_one (n ∷ ns) = n

-- how many items the result has
abbrev pub item_count : Arrays → ℕ
item_count arrays = first_or_one (item_counts arrays)

-- ---- the values

-- array number k
abbrev pub array_at : Arrays → ℕ → Option ArrayData
array_at [] k = None
array_at (a ∷ arrays) zero = a
array_at (a ∷ arrays) (suc k) = array_at arrays k

abbrev pub shape_in : Option ArrayData → Shape
shape_in None = []
shape_in (Some a) = a.extents

-- an array of one item stands for every item
abbrev pub item_of : ArrayData → ℕ → ℕ
item_of a item = if items a == 1 then 0 else item

abbrev pub value_in : Option ArrayData → ℕ → ℕ → ℤ
value_in None item place = pos 0
value_in (Some a) item place = value a (item_of a item) place

-- what the arrays are for the expression
abbrev pub given : Arrays → Inputs
given arrays = record { shape = λ k. shape_in (array_at arrays k); value = λ k item place. value_in (array_at arrays k) item place }

abbrev pub fault_code : ItemFault → Code
fault_code fault.Overflow = code.Overflow
fault_code fault.DivisionByZero = code.DivisionByZero

abbrev pub or_code : {A : Type 0} → Outcome A → Answered A
or_code (Ok a) = Ok a
or_code (Err f) = Err (fault_code f)

-- a plain int array
abbrev pub int_array : Shape → Values → ArrayData
int_array s vs = record { elem = Int; extents = s; class = plain vs }

-- the array of n items of this shape
abbrev pub array_of : Expression → Arrays → ℕ → Shape → Answered ArrayData
array_of e arrays n s = or_code (all_values (given arrays) e n) >>= λ vs. Ok (int_array s vs)

-- The expression's array: first the numbers of items have to fit, then the shapes, and then the items are computed.
abbrev pub computed : Expression → Arrays → Answered ArrayData
computed e arrays =
    if are_all (item_count arrays) (item_counts arrays)
    then (or_refused code.ItemMismatch (shape_of (given arrays).shape e) >>= λ s. array_of e arrays (item_count arrays) s)
    else Err code.ItemMismatch
