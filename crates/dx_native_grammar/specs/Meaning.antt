-- What the clauses of a file mean: the objects that they name, each reference replaced by the object that it names.
use Rattle.std.specs.Prelude.{ℕ, zero, suc, List, [], ◌∷◌, Option, Some, None, ℤ, pos, bytes_eq, position, slice_get, Bool, true, false, nat_le, if◌then◌else◌, length, Result, Ok, Err}
use Rattle.dx_base.specs.declared.code.NativeKind.TheVariants as fault
use Rattle.dx_base.specs.Object.{Tree, PartList, array, text, field, group, composite, series, no_parts, part}
use Rattle.dx_base.specs.ObjectLimits.{fits, max_levels, unplaced}
use Rattle.dx_base.specs.ObjectNumbers.{int_number}
use Rattle.dx_native_lex.specs.Token.{error}
use Rattle.dx_native_lex.specs.declared.fault.NativeError.{NativeError}
use Rattle.dx_native_lex.specs.declared.token.Named.{Named}
use Rattle.dx_native_grammar.specs.declared.clause.Attribute.{Attribute}
use Rattle.dx_native_grammar.specs.declared.clause.Body.{Body}
use Rattle.dx_native_grammar.specs.declared.clause.Body.TheVariants as body
use Rattle.dx_native_grammar.specs.declared.clause.Clause.{Clause}
use Rattle.dx_native_grammar.specs.declared.clause.Content.{Content}
use Rattle.dx_native_grammar.specs.declared.clause.Given.{Given}
use Rattle.dx_native_grammar.specs.declared.clause.Given.TheVariants as value
use Rattle.dx_native_grammar.specs.declared.clause.ListClass.{ListClass}
use Rattle.dx_native_grammar.specs.declared.clause.ListClass.TheVariants as listing
use Rattle.dx_native_grammar.specs.declared.clause.Part.{Part}
use Rattle.dx_native_grammar.specs.Grammar.{File}
use Rattle.dx_native_grammar.specs.Names.{clause_names}

-- the place of the clause of this name
abbrev pub place_of : List Clause → List ℕ → Option ℕ
place_of cs name = position (bytes_eq name) (clause_names cs)

-- ---- references that name nothing, or what can't stand there

-- the one that stands first
abbrev pub earlier : Option NativeError → Option NativeError → Option NativeError
earlier None g = g
earlier (Some e) None = Some e
earlier (Some e) (Some g) = if nat_le e.at g.at then Some e else Some g

abbrev pub is_array_body : Body → Bool
is_array_body (body.Array a) = true
is_array_body (body.Text b) = false
is_array_body (body.Parts k ps) = false

abbrev pub is_field_class : ListClass → Bool
is_field_class listing.Field = true
is_field_class listing.Group = false
is_field_class listing.Composite = false
is_field_class listing.Series = false

abbrev pub is_field_body : Body → Bool
is_field_body (body.Array a) = false
is_field_body (body.Text b) = false
is_field_body (body.Parts k ps) = is_field_class k

-- a clause has a body of some kind
abbrev pub has_body : (Body → Bool) → Option Clause → Bool
has_body kind None = false
has_body kind (Some c) = kind c.content.body

abbrev pub unknown : Option ℕ → ℕ → Option NativeError
unknown None at = Some (error fault.NoObject at)
unknown (Some i) at = None

abbrev pub unfit : (Body → Bool) → List Clause → Option ℕ → ℕ → Option NativeError
unfit kind cs None at = Some (error fault.NoObject at)
unfit kind cs (Some i) at = if has_body kind (slice_get cs i) then None else Some (error fault.BadPart at)

-- a reference to any object, one to an array, and one to a field
abbrev pub reference_fault : List Clause → Named → Option NativeError
reference_fault cs r = unknown (place_of cs r.text) r.at

abbrev pub component_fault : List Clause → Named → Option NativeError
component_fault cs r = unfit is_array_body cs (place_of cs r.text) r.at

abbrev pub field_fault : List Clause → Named → Option NativeError
field_fault cs r = unfit is_field_body cs (place_of cs r.text) r.at

abbrev pub part_fault : List Clause → ListClass → Named → Option NativeError
part_fault cs listing.Field r = component_fault cs r
part_fault cs listing.Group r = reference_fault cs r
part_fault cs listing.Composite r = field_fault cs r
part_fault cs listing.Series r = reference_fault cs r

abbrev pub parts_fault : List Clause → ListClass → List Part → Option NativeError
parts_fault cs k [] = None
parts_fault cs k (p ∷ ps) = earlier (part_fault cs k p.target) (parts_fault cs k ps)

abbrev pub given_fault : List Clause → Given → Option NativeError
given_fault cs (value.Text b) = None
given_fault cs (value.Number z) = None
given_fault cs (value.Object r) = reference_fault cs r

abbrev pub attributes_fault : List Clause → List Attribute → Option NativeError
attributes_fault cs [] = None
attributes_fault cs (a ∷ xs) = earlier (given_fault cs a.value) (attributes_fault cs xs)

abbrev pub body_fault : List Clause → Body → Option NativeError
body_fault cs (body.Array a) = None
body_fault cs (body.Text b) = None
body_fault cs (body.Parts k ps) = parts_fault cs k ps

abbrev pub content_fault : List Clause → Content → Option NativeError
content_fault cs c = earlier (body_fault cs c.body) (attributes_fault cs c.attributes)

abbrev pub clauses_fault : List Clause → List Clause → Option NativeError
clauses_fault cs [] = None
clauses_fault cs (c ∷ rest) = earlier (content_fault cs c.content) (clauses_fault cs rest)

abbrev pub default_fault : List Clause → Option Named → Option NativeError
default_fault cs None = None
default_fault cs (Some d) = reference_fault cs d

-- the first reference of a file that is refused, the default included
abbrev pub references_fault : File → Option NativeError
references_fault f = earlier (clauses_fault f.clauses f.clauses) (default_fault f.clauses f.default)

-- ---- the object that a clause means

abbrev pub with_part : Option (List ℕ) → ℤ → Option Tree → Option PartList → Option PartList
with_part n p None ps = None
with_part n p (Some t) None = None
with_part n p (Some t) (Some ps) = Some (part n p t ps)

-- the parts, where a name means what `meant` tells
abbrev pub parts_at : (List ℕ → Option Tree) → List Part → Option PartList
parts_at meant [] = Some no_parts
parts_at meant (p ∷ ps) = with_part p.name p.position (meant p.target.text) (parts_at meant ps)

-- the value of an attribute, of at most so many levels
abbrev pub given_at : ℕ → (List ℕ → Option Tree) → Given → Option Tree
given_at zero meant g = None
given_at (suc levels) meant (value.Text b) = Some (text b no_parts)
given_at (suc levels) meant (value.Number z) = Some (int_number z)
given_at (suc levels) meant (value.Object r) = meant r.text

abbrev pub attributes_at : ℕ → (List ℕ → Option Tree) → List Attribute → Option PartList
attributes_at levels meant [] = Some no_parts
attributes_at levels meant (a ∷ xs) = with_part (Some a.name) (pos 0) (given_at levels meant a.value) (attributes_at levels meant xs)

-- members of a series alone have positions
abbrev pub listed_tree : ListClass → PartList → PartList → Tree
listed_tree listing.Field ps xs = field (unplaced ps) xs
listed_tree listing.Group ps xs = group (unplaced ps) xs
listed_tree listing.Composite ps xs = composite (unplaced ps) xs
listed_tree listing.Series ps xs = series ps xs

abbrev pub listed_at : ListClass → Option PartList → PartList → Option Tree
listed_at k None xs = None
listed_at k (Some ps) xs = Some (listed_tree k ps xs)

abbrev pub body_at : (List ℕ → Option Tree) → Body → Option PartList → Option Tree
body_at meant b None = None
body_at meant (body.Array a) (Some xs) = Some (array a xs)
body_at meant (body.Text b) (Some xs) = Some (text b xs)
body_at meant (body.Parts k ps) (Some xs) = listed_at k (parts_at meant ps) xs

abbrev pub clause_at : ℕ → (List ℕ → Option Tree) → Option Clause → Option Tree
clause_at levels meant None = None
clause_at levels meant (Some c) = body_at meant c.content.body (attributes_at levels meant c.content.attributes)

abbrev pub at_place : (ℕ → Option Tree) → Option ℕ → Option Tree
at_place meant None = None
at_place meant (Some i) = meant i

-- what a name means
abbrev pub named_at : List Clause → (ℕ → Option Tree) → List ℕ → Option Tree
named_at cs meant name = at_place meant (place_of cs name)

-- The tree that clause number i means, of at most so many levels. None where it has more, as each cycle has.
unfoldable pub tree_at : List Clause → ℕ → ℕ → Option Tree
tree_at cs zero i = None
tree_at cs (suc levels) i = clause_at levels (named_at cs (tree_at cs levels)) (slice_get cs i)

-- ---- the object that is asked for

abbrev pub last_place : List Clause → Option ℕ
last_place [] = None
last_place (c ∷ cs) = Some (length cs)

abbrev pub default_place : List Clause → Option Named → Option ℕ
default_place cs (Some d) = place_of cs d.text
default_place cs None = last_place cs

-- the clause that is asked for, else that of the default, else the last
abbrev pub wanted : File → Option (List ℕ) → Option ℕ
wanted f (Some name) = place_of f.clauses name
wanted f None = default_place f.clauses f.default

abbrev pub name_place : Option Clause → ℕ
name_place None = 0
name_place (Some c) = c.name.at

-- the object, or why it is none
abbrev pub object_or : Option Tree → ℕ → Result Tree NativeError
object_or None at = Err (error fault.TooDeep at)
object_or (Some t) at = if fits t then Ok t else Err (error fault.TooLarge at)

abbrev pub object_at : List Clause → ℕ → Option ℕ → Result Tree NativeError
object_at cs len None = Err (error fault.NoVariable len)
object_at cs len (Some i) = object_or (tree_at cs max_levels i) (name_place (slice_get cs i))

abbrev pub unless_fault : Option NativeError → Result Tree NativeError → Result Tree NativeError
unless_fault None r = r
unless_fault (Some e) r = Err e

-- what the clauses of a text of this length mean
unfoldable pub meant : File → Option (List ℕ) → ℕ → Result Tree NativeError
meant f which len = unless_fault (references_fault f) (object_at f.clauses len (wanted f which))
