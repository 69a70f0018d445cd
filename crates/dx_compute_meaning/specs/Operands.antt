-- The inputs that an expression speaks of. `$k` is the input k behind the expression, counted from 0. NULL is None here.
use Rattle.std.specs.Prelude.{ℕ, zero, suc, ◌+◌, ◌==◌, Bool, true, false, List, [], ◌∷◌, map, Option, Some, None, is_none, if◌then◌else◌}
use Rattle.std.specs.List.{list_all, filter, range_with_len}
use Rattle.dx_base.specs.Object.{Tree, PartList, array, text, field, group, composite, series, no_parts, part, parts, part_count}
use Rattle.dx_objects.specs.Kinds.{text_of}
use Rattle.dx_objects.specs.Values.{value_at}
use Rattle.dx_expr_grammar.specs.declared.tree.Expression.{Expression}
use Rattle.dx_expr.specs.Uses.{uses}

abbrev pub Operands : Type 0
Operands = List (Option Tree)

-- an input that occurs, and NULL in the place of another
abbrev pub if_used : Expression → ℕ → Option Tree → Option Tree
if_used e k v = if uses k e then v else None

-- these are the inputs from number k on
abbrev pub occurring : Expression → ℕ → Operands → Operands
occurring e k [] = []
occurring e k (v ∷ vs) = if_used e k v ∷ occurring e (k + 1) vs

-- the numbers of the inputs that occur, of `$0` to `$20`
unfoldable pub used : Expression → List ℕ
used e = filter (λ k. uses k e) (range_with_len 0 21)

-- it isn't NULL or a text
abbrev pub is_given : Option Tree → Bool
is_given None = false
is_given (Some t) = is_none (text_of t)

-- each of these numbers has an input that is given
abbrev pub all_given : List ℕ → Operands → Bool
all_given ks vs = list_all (λ k. is_given (value_at vs k)) ks

-- ---- groups and series

abbrev pub has_members : Tree → Bool
has_members (array a xs) = false
has_members (text b xs) = false
has_members (field ps xs) = false
has_members (group ps xs) = true
has_members (composite ps xs) = true
has_members (series ps xs) = true

-- the input itself, if it is a group or series
abbrev pub as_group : Option Tree → Option Tree
as_group None = None
as_group (Some t) = if has_members t then Some t else None

abbrev pub before_groups : Option Tree → List Tree → List Tree
before_groups None gs = gs
before_groups (Some t) gs = t ∷ gs

-- the groups and series among them
abbrev pub groups : Operands → List Tree
groups [] = []
groups (v ∷ vs) = before_groups (as_group v) (groups vs)

abbrev pub member_count : Tree → ℕ
member_count t = part_count (parts t)

-- each of these numbers is n
abbrev pub are_all : ℕ → List ℕ → Bool
are_all n ns = list_all (λ m. m == n) ns

abbrev pub fits_in : ℕ → Option Tree → Bool
fits_in n None = true
fits_in n (Some t) = member_count t == n

-- ---- the members at one place

-- object number i of some parts
abbrev pub object_at : PartList → ℕ → Option Tree
object_at no_parts i = None
object_at (part n p t ps) zero = Some t
object_at (part n p t ps) (suc i) = object_at ps i

-- a group or series gives its member, and another input stands in each place
abbrev pub at_place : ℕ → Option Tree → Option Tree
at_place i None = None
at_place i (Some t) = if has_members t then object_at (parts t) i else Some t

abbrev pub all_at_place : ℕ → Operands → Operands
all_at_place i vs = map (at_place i) vs
