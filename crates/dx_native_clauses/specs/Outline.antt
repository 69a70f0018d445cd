-- Clauses without the values of their arrays.
use Rattle.std.specs.Prelude.{◌≡◌, ℕ, List, [], map, Option, Some, None, slice_get}
use Rattle.dx_base.specs.Array.{ArrayData, plain}
use Rattle.dx_base.specs.declared.elem.ElemType.TheVariants.{Byte}
use Rattle.dx_native_grammar.specs.declared.clause.Body.{Body}
use Rattle.dx_native_grammar.specs.declared.clause.Body.TheVariants as body
use Rattle.dx_native_grammar.specs.declared.clause.Clause.{Clause}
use Rattle.dx_native_grammar.specs.declared.clause.Content.{Content}

-- an array of no items
abbrev pub no_items : ArrayData
no_items = record { elem = Byte; extents = []; class = plain [] }

-- a clause whose array, if it says one, has no items
abbrev pub outline_body : Body → Body
outline_body (body.Array a) = body.Array no_items
outline_body (body.Text b) = body.Text b
outline_body (body.Parts k ps) = body.Parts k ps

abbrev pub outline_content : Content → Content
outline_content c = record { body = outline_body c.body; attributes = c.attributes }

abbrev pub outline : Clause → Clause
outline c = record { name = c.name; content = outline_content c.content }

abbrev pub outlines : List Clause → List Clause
outlines cs = map outline cs

-- the array that a clause says
abbrev pub array_in : Body → Option ArrayData
array_in (body.Array a) = Some a
array_in (body.Text b) = None
array_in (body.Parts k ps) = None

abbrev pub clause_array : Clause → Option ArrayData
clause_array c = array_in c.content.body

abbrev pub clause_arrays : List Clause → List (Option ArrayData)
clause_arrays cs = map clause_array cs

-- the array of a clause, if there is one
abbrev pub array_at : Option Clause → Option ArrayData
array_at None = None
array_at (Some c) = clause_array c

-- this is the outline of clause number i
abbrev pub IsOutlineAt : List Clause → ℕ → Clause → Type 0
IsOutlineAt cs i c = (whole : Clause) × (slice_get cs i ≡ Some whole) × (c ≡ outline whole)
