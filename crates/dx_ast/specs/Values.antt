-- What the grammar's rules make and test: lists of elements, ranges, caches, names that differ.
use Rattle.std.specs.Prelude.{ℕ, zero, suc, ℤ, pos, negsuc, Bool, true, false, not, ◌||◌, ◌&&◌, List, [], ◌∷◌, ◌++◌, length, Option, Some, None, is_some, if◌then◌else◌, ◌==◌, nat_lt, int_lt, unsigned_abs, ◌-ℤ◌, ◌+ℤ◌, ◌/◌, ◌+◌, codes}
use Rattle.std.specs.Str.{bytes_eq}
use Rattle.dx_base.specs.declared.token.Place.{Place}
use Rattle.dx_base.specs.declared.token.SyntaxError.{SyntaxError}
use Rattle.dx_base.specs.declared.token.SyntaxKind.TheVariants as kind
use Rattle.dx_ast.specs.Limits.{max_elements, max_names}
use Rattle.dx_ast.specs.declared.constants.Const.{Const}
use Rattle.dx_ast.specs.declared.constants.Const.TheVariants as const
use Rattle.dx_ast.specs.declared.expressions.Call.{Call}
use Rattle.dx_ast.specs.declared.expressions.Arg.{Arg, out-Arg}
use Rattle.dx_ast.specs.declared.statements.Param.{Param}
use Rattle.dx_ast.specs.declared.statements.Stmt.{Stmt}
use Rattle.dx_ast.specs.declared.statements.Stmt.TheVariants as stmt
use Rattle.dx_ast.specs.Classes.{Text, fault, fault_if}

-- ---- lists. An element is an integer, a text or a vector.

-- the list of one element
abbrev pub list_of : Const → Const
list_of (const.Int n) = const.Ints (n ∷ [])
list_of (const.Text t) = const.Texts (t ∷ [])
list_of (const.Vector ns) = const.Vectors (length ns) ns
list_of other = other

-- the list with one element more
abbrev pub joined : Const → Const → Const
joined (const.Ints ns) (const.Int n) = const.Ints (ns ++ n ∷ [])
joined (const.Texts ts) (const.Text t) = const.Texts (ts ++ t ∷ [])
joined (const.Vectors width ns) (const.Vector new) = const.Vectors width (ns ++ new)
joined list other = list

-- an element like those of the list: all are integers, or texts, or vectors of one length
abbrev pub agrees : Const → Const → Bool
agrees (const.Ints ns) (const.Int n) = true
agrees (const.Texts ts) (const.Text t) = true
agrees (const.Vectors width ns) (const.Vector new) = length new == width
agrees list other = false

-- how many elements are found, and the list that they make
abbrev pub Found : Type 0
Found = ℕ × Const

abbrev pub with_element : Found → Const → Found
with_element found e = (found.0 + 1, joined found.1 e)

-- one that differs is that first, and then one too many
abbrev pub element_fault : Found → Place → Const → Option SyntaxError
element_fault found p e = if not (agrees found.1 e) then Some (fault kind.MixedList p) else fault_if (found.0 == max_elements) kind.ListTooLong p

-- ---- ranges

abbrev pub is_zero : ℤ → Bool
is_zero (pos n) = n == 0
is_zero (negsuc n) = false

-- b is passed from the first on, in the direction of d
abbrev pub is_passed : ℤ → ℤ → ℤ → Bool
is_passed a b d = if int_lt d (pos 0) then int_lt a b else int_lt b a

-- how many of a, a + d and so on aren't past b
unfoldable pub range_count : ℤ → ℤ → ℤ → ℕ
range_count a b d = if is_passed a b d then 0 else (if unsigned_abs d == 0 then 0 else unsigned_abs (a -ℤ b) / unsigned_abs d + 1)

-- this many of a, a + d and so on
abbrev pub stepping : ℕ → ℤ → ℤ → List ℤ
stepping zero a d = []
stepping (suc n) a d = a ∷ stepping n (a +ℤ d) d

-- those of a, a + d and so on that aren't past b in the direction of d, in this order
unfoldable pub range : ℤ → ℤ → ℤ → List ℤ
range a b d = stepping (range_count a b d) a d

abbrev pub range_fault : ℤ → ℤ → Place → ℤ → Option SyntaxError
range_fault a b p d = fault_if (nat_lt max_elements (range_count a b d)) kind.ListTooLong p

-- ---- attributes

-- 0, 1 or 2
abbrev pub cache_value : Const → Option ℕ
cache_value (const.Int (pos n)) = if nat_lt n 3 then Some n else None
cache_value other = None

-- what an attribute says of the cache, if it is one of that name
abbrev pub attribute_cache : Text → Const → Option ℕ
attribute_cache n v = if bytes_eq n (codes "cache") then cache_value v else None

abbrev pub attribute_fault : Text → Place → Const → Option SyntaxError
attribute_fault n p v = fault_if (bytes_eq n (codes "cache") && not (is_some (cache_value v))) kind.NumberRange p

-- the last cache counts
abbrev pub with_cache : ℕ → Option ℕ → ℕ
with_cache cache None = cache
with_cache cache (Some new) = new

-- ---- arguments

-- the last of these has a name
unfoldable pub ends_named : List Arg → Bool
ends_named [] = false
ends_named (a ∷ []) = is_some (out-Arg a).name
ends_named (a ∷ b ∷ rest) = ends_named (b ∷ rest)

-- ---- names that differ

unfoldable pub has_name : Text → List Text → Bool
has_name n [] = false
has_name n (first ∷ rest) = bytes_eq n first || has_name n rest

-- the 65th, or one that is there already
abbrev pub name_fault : ℕ → List Text → Place → Text → Option SyntaxError
name_fault count found p n = fault_if ((count == max_names) || has_name n found) kind.Syntax p

abbrev pub param_name : Param → Text
param_name p = p.name

-- ---- statements

-- a call of `Executive` is read, and left out
abbrev pub call_statement : Text → Call → Option Stmt
call_statement n c = if bytes_eq n (codes "Executive") then None else Some (stmt.Call c)

abbrev pub with_statement : List Stmt → Option Stmt → List Stmt
with_statement found None = found
with_statement found (Some s) = found ++ s ∷ []
