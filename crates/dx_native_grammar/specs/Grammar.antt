-- The grammar of native files, class by class, with the fault of each text that is refused.
use Rattle.std.specs.Prelude.{ℕ, zero, suc, ◌*◌, ◌≤◌, Bool, true, false, ◌||◌, if◌then◌else◌, List, [], ◌∷◌, ◌++◌, length, Option, Some, None, ℤ, pos, codes}
use Rattle.std.proofs.Common.{arith}
use Rattle.dx_base.specs.declared.code.NativeKind.TheVariants as fault
use Rattle.dx_base.specs.declared.elem.ElemType.{ElemType}
use Rattle.dx_base.specs.Array.{ArrayData, product, plain, constant, regular}
use Rattle.dx_base.specs.Elem.{byte_count, lowest, highest}
use Rattle.dx_places.specs.Grammar.{At, ◌>>=◌, ◌>>◌, nothing, here, unless, refused, given, loop}
use Rattle.dx_native_lex.specs.Scan.{lexed, meaning_of}
use Rattle.dx_native_lex.specs.Token.{NativeGrammar, error, one, misfit, number_misfit, key, key_in, named, quoted, number, sees, none_of}
use Rattle.dx_native_lex.specs.Raw.{raw}
use Rattle.dx_native_lex.specs.declared.fault.NativeError.{NativeError}
use Rattle.dx_native_lex.specs.declared.token.Named.{Named}
use Rattle.dx_native_grammar.specs.declared.clause.Attribute.{Attribute}
use Rattle.dx_native_grammar.specs.declared.clause.Body.TheVariants as body
use Rattle.dx_native_grammar.specs.declared.clause.Clause.{Clause}
use Rattle.dx_native_grammar.specs.declared.clause.Content.{Content}
use Rattle.dx_native_grammar.specs.declared.clause.Given.{Given}
use Rattle.dx_native_grammar.specs.declared.clause.Given.TheVariants as value
use Rattle.dx_native_grammar.specs.declared.clause.Head.{Head}
use Rattle.dx_native_grammar.specs.declared.clause.Label.{Label}
use Rattle.dx_native_grammar.specs.declared.clause.ListClass.{ListClass}
use Rattle.dx_native_grammar.specs.declared.clause.ListClass.TheVariants as listing
use Rattle.dx_native_grammar.specs.declared.clause.Part.{Part}
use Rattle.dx_native_grammar.specs.declared.clause.TypeWord.{TypeWord}
use Rattle.dx_native_grammar.specs.declared.clause.TypeWord.TheVariants as word
use Rattle.dx_native_grammar.specs.Names.{has_part, has_attribute, has_clause, has_label}
use Rattle.dx_native_grammar.specs.Words.{magnitude, bounds_fault, int_low, int_high, items_fault, type_of_word, signed_type, unsigned_type, no_type, type_misfit, class_fault, repeated, at_end, sees_number, data_elsewhere, index_in, part_word, decoded, array_of, points_of, cells_of, array_fault, room_fault}

-- the parts and the attributes of an object
pub record Listed : Type 0 where
  pub parts : List Part
  pub attributes : List Attribute

-- a file up to a place: its clauses, and its last `default`
pub record File : Type 0 where
  pub clauses : List Clause
  pub default : Option Named

-- the offset of the next token
unfoldable pub place : NativeGrammar ℕ
place = do
  s ← here
  nothing (lexed s).at

-- ---- references

abbrev pub other_file : At → Option NativeError
other_file s = if sees (codes "file") s then Some (error fault.OtherFile (lexed s).at) else None

-- REF behind the key word `value`
unfoldable pub value_reference : NativeGrammar Named
value_reference = do
  key (codes "value")
  s ← here
  unless (other_file s)
  named

-- [ 'value' ] REF
unfoldable pub reference : NativeGrammar Named
reference = given (sees (codes "value")) value_reference named

-- ---- numbers

-- a number from the one to the other
unfoldable pub bounded : ℤ → ℤ → NativeGrammar ℤ
bounded low high = do
  n ← number
  unless (bounds_fault low high n)
  nothing n.value

abbrev pub int : NativeGrammar ℤ
int = bounded int_low int_high

unfoldable pub natural : ℕ → ℕ → NativeGrammar ℕ
natural low high = do
  z ← bounded (pos low) (pos high)
  nothing (magnitude z)

-- so many more, behind those found
unfoldable pub counted : {A : Type 0} → NativeGrammar A → ℕ → List A → NativeGrammar (List A)
counted X zero found = nothing found
counted X (suc n) found = do
  v ← X
  counted X n (found ++ v ∷ [])

-- ---- attributes

unfoldable pub text_value : NativeGrammar Given
text_value = do
  key (codes "string")
  t ← quoted
  nothing (value.Text t.text)

unfoldable pub number_value : NativeGrammar Given
number_value = do
  key (codes "number")
  n ← int
  nothing (value.Number n)

unfoldable pub object_value : NativeGrammar Given
object_value = do
  r ← reference
  nothing (value.Object r)

-- 'string' quoted | 'number' number | [ 'value' ] REF
unfoldable pub attribute_value : NativeGrammar Given
attribute_value = given (sees (codes "string")) text_value (given (sees (codes "number")) number_value object_value)

-- 'attribute' quoted ..; the names of one object differ
unfoldable pub attribute : List Attribute → NativeGrammar Attribute
attribute found = do
  key (codes "attribute")
  n ← quoted
  unless (repeated (has_attribute n.text found) n.at)
  v ← attribute_value
  nothing (record { name = n.text; value = v })

unfoldable pub next_attribute : List Attribute → NativeGrammar (List Attribute)
next_attribute found = do
  a ← attribute found
  nothing (found ++ a ∷ [])

abbrev pub sees_attribute : {A : Type 0} → A → At → Bool
sees_attribute found s = sees (codes "attribute") s

pub attribute_some : (found : List Attribute) → 1 ≤ (next_attribute found).least
unfolding next_attribute attribute key
attribute_some found = omega arith

-- { attribute }, behind those found
abbrev pub attributes_from : List Attribute → NativeGrammar (List Attribute)
attributes_from found = loop sees_attribute next_attribute attribute_some found

unfoldable pub attributes : NativeGrammar (List Attribute)
attributes = attributes_from []

-- ---- fields, groups and series

-- 'component' quoted [ 'value' ] REF
unfoldable pub component : List Part → NativeGrammar Part
component found = do
  key (codes "component")
  n ← quoted
  unless (repeated (has_part n.text found) n.at)
  r ← reference
  nothing (record { name = Some n.text; position = pos 0; target = r })

abbrev pub name_in : ℕ → List ℕ → Option Label
name_in at c = Some (record { name = Some (meaning_of false c); at = at })

-- quoted | index
unfoldable pub label : ℕ → NativeGrammar Label
label count = one number_misfit (index_in count) name_in

-- 'member' ( quoted | index ) [ 'value' ] REF
unfoldable pub member : List Part → NativeGrammar Part
member found = do
  key (codes "member")
  l ← label (length found)
  unless (repeated (has_label l.name found) l.at)
  r ← reference
  nothing (record { name = l.name; position = pos 0; target = r })

unfoldable pub index : ℕ → NativeGrammar Label
index count = one number_misfit (index_in count) none_of

-- 'member' index 'position' number [ 'value' ] REF
unfoldable pub placed : List Part → NativeGrammar Part
placed found = do
  key (codes "member")
  index (length found)
  key (codes "position")
  p ← int
  r ← reference
  nothing (record { name = None; position = p; target = r })

abbrev pub part_of : ListClass → List Part → NativeGrammar Part
part_of listing.Field found = component found
part_of listing.Group found = member found
part_of listing.Composite found = member found
part_of listing.Series found = placed found

unfoldable pub listed_part : ListClass → Listed → NativeGrammar Listed
listed_part k l = do
  p ← part_of k l.parts
  nothing (record { parts = l.parts ++ p ∷ []; attributes = l.attributes })

unfoldable pub listed_attribute : Listed → NativeGrammar Listed
listed_attribute l = do
  a ← attribute l.attributes
  nothing (record { parts = l.parts; attributes = l.attributes ++ a ∷ [] })

unfoldable pub listed_next : ListClass → Listed → NativeGrammar Listed
listed_next k l = given (sees (part_word k)) (listed_part k l) (listed_attribute l)

abbrev pub sees_listed : ListClass → Listed → At → Bool
sees_listed k l s = sees (part_word k) s || sees_attribute l s

pub listed_some : (k : ListClass) (l : Listed) → 1 ≤ (listed_next k l).least
unfolding listed_next listed_part listed_attribute component member placed attribute key
listed_some listing.Field l = omega arith
listed_some listing.Group l = omega arith
listed_some listing.Composite l = omega arith
listed_some listing.Series l = omega arith

-- the parts of this class and the attributes, behind those found
abbrev pub listed_from : ListClass → Listed → NativeGrammar Listed
listed_from k l = loop (sees_listed k) (listed_next k) (listed_some k) l

unfoldable pub listed : ListClass → NativeGrammar Listed
listed k = listed_from k (record { parts = []; attributes = [] })

abbrev pub class_word : ListClass → List ℕ
class_word listing.Field = codes "field"
class_word listing.Group = codes "group"
class_word listing.Composite = codes "compositefield"
class_word listing.Series = codes "series"

unfoldable pub listing_content : ListClass → NativeGrammar Content
listing_content k = do
  key (class_word k)
  l ← listed k
  nothing (record { body = body.Parts k l.parts; attributes = l.attributes })

-- ---- texts

unfoldable pub text : NativeGrammar Content
text = do
  key (codes "string")
  t ← quoted
  xs ← attributes
  nothing (record { body = body.Text t.text; attributes = xs })

-- ---- the head of an array

abbrev pub type_at : ℕ → List ℕ → Option TypeWord
type_at at c = type_of_word c

abbrev pub signed_at : ℕ → List ℕ → Option ElemType
signed_at at c = signed_type c

abbrev pub unsigned_at : ℕ → List ℕ → Option ElemType
unsigned_at at c = unsigned_type c

unfoldable pub type_word : NativeGrammar TypeWord
type_word = one type_misfit type_at none_of

unfoldable pub type_rest : TypeWord → NativeGrammar ElemType
type_rest (word.Whole t) = nothing t
type_rest word.Signed = one misfit signed_at none_of
type_rest word.Unsigned = one misfit unsigned_at none_of

unfoldable pub type_key : NativeGrammar (Unit {0})
type_key = one no_type (key_in (codes "type")) none_of

-- 'type' type
unfoldable pub elem_type : NativeGrammar ElemType
elem_type = do
  type_key
  w ← type_word
  type_rest w

-- [ 'category' 'real' ]
unfoldable pub category : NativeGrammar (Unit {0})
category = given (sees (codes "category")) (key (codes "category") >> key (codes "real")) (nothing tt)

-- the extents of a rank: 'shape' stands where there are some
unfoldable pub shape_of : ℕ → NativeGrammar (List ℕ)
shape_of zero = nothing []
shape_of (suc r) = key (codes "shape") >> counted (natural 1 256) (suc r) []

unfoldable pub ranked : NativeGrammar (List ℕ)
ranked = do
  key (codes "rank")
  r ← natural 0 2
  shape_of r

-- [ 'rank' r [ 'shape' r extents ] ]
unfoldable pub shape : NativeGrammar (List ℕ)
shape = given (sees (codes "rank")) ranked (nothing [])

-- 'items' number, of so many values each
unfoldable pub items : ℕ → NativeGrammar ℕ
items w = do
  key (codes "items")
  n ← number
  unless (items_fault w n)
  nothing (magnitude n.value)

unfoldable pub head : NativeGrammar Head
head = do
  t ← elem_type
  category
  es ← shape
  n ← items (product es)
  nothing (record { elem = t; extents = es; items = n })

-- ---- data

-- [ 'msb' | 'lsb' ]: whether the first byte is the highest
unfoldable pub order : NativeGrammar Bool
order =
    given (sees (codes "msb")) (key (codes "msb") >> nothing true)
    (given (sees (codes "lsb")) (key (codes "lsb") >> nothing false)
    (nothing true))

-- [ 'text' | 'ascii' | 'binary' | 'ieee' ]: whether it is binary
unfoldable pub form : NativeGrammar Bool
form =
    given (sees (codes "text")) (key (codes "text") >> nothing false)
    (given (sees (codes "ascii")) (key (codes "ascii") >> nothing false)
    (given (sees (codes "binary")) (key (codes "binary") >> nothing true)
    (given (sees (codes "ieee")) (key (codes "ieee") >> nothing true)
    (nothing false))))

-- 'data' 'follows'
unfoldable pub data_follows : NativeGrammar (Unit {0})
data_follows = do
  key (codes "data")
  s ← here
  unless (data_elsewhere s)
  key (codes "follows")

unfoldable pub raw_values : ElemType → Bool → ℕ → NativeGrammar (List ℤ)
raw_values t msb n = do
  bytes ← raw (n * byte_count t)
  nothing (decoded t msb n bytes)

abbrev pub data_values : Bool → ElemType → Bool → ℕ → NativeGrammar (List ℤ)
data_values true t msb n = raw_values t msb n
data_values false t msb n = counted (bounded (lowest t) (highest t)) n []

-- mode and so many values of this type
unfoldable pub values : ElemType → ℕ → NativeGrammar (List ℤ)
values t n = do
  msb ← order
  binary ← form
  data_follows
  data_values binary t msb n

-- ---- arrays; the number is the offset of the class word

-- this array, if there is one
unfoldable pub made : ℕ → ArrayData → NativeGrammar ArrayData
made at a = do
  unless (array_fault at a)
  nothing a

-- 'array' head mode data
unfoldable pub plain_array : ℕ → NativeGrammar ArrayData
plain_array at = do
  key (codes "array")
  h ← head
  vs ← values h.elem (h.items * product h.extents)
  made at (array_of h (plain vs))

-- 'constantarray' head mode one-item
unfoldable pub constant_array : ℕ → NativeGrammar ArrayData
constant_array at = do
  key (codes "constantarray")
  h ← head
  v ← values h.elem (product h.extents)
  made at (array_of h (constant h.items v))

-- 'regulararray' head 'origin' item 'delta' item
unfoldable pub regular_array : ℕ → NativeGrammar ArrayData
regular_array at = do
  key (codes "regulararray")
  h ← head
  key (codes "origin")
  o ← counted int (product h.extents) []
  key (codes "delta")
  d ← counted int (product h.extents) []
  made at (array_of h (regular h.items o d))

-- so many more counts at most
unfoldable pub more_counts : ℕ → List ℕ → NativeGrammar (List ℕ)
more_counts zero found = nothing found
more_counts (suc k) found =
    given sees_number
    (natural 1 4294967295 >>= (λ c. more_counts k (found ++ c ∷ [])))
    (nothing found)

-- 'counts' one to three numbers
unfoldable pub counts : NativeGrammar (List ℕ)
counts = do
  key (codes "counts")
  c ← natural 1 4294967295
  more_counts 2 (c ∷ [])

-- 'delta' and n numbers, behind those found
unfoldable pub delta : ℕ → List ℤ → NativeGrammar (List ℤ)
delta n found = do
  key (codes "delta")
  counted int n found

-- so many lines with n numbers each
unfoldable pub deltas : ℕ → ℕ → List ℤ → NativeGrammar (List ℤ)
deltas n zero found = nothing found
deltas n (suc k) found = do
  ds ← delta n found
  deltas n k ds

-- 'gridpositions' 'counts' number.. 'origin' number.. { 'delta' number.. }
unfoldable pub grid_points : ℕ → NativeGrammar ArrayData
grid_points at = do
  key (codes "gridpositions")
  cs ← counts
  unless (room_fault at (points_of cs [] []))
  key (codes "origin")
  o ← counted int (length cs) []
  ds ← deltas (length cs) (length cs) []
  made at (points_of cs o ds)

-- 'gridconnections' 'counts' number..
unfoldable pub grid_cells : ℕ → NativeGrammar ArrayData
grid_cells at = do
  key (codes "gridconnections")
  cs ← counts
  made at (cells_of cs)

unfoldable pub array_content : NativeGrammar ArrayData → NativeGrammar Content
array_content X = do
  a ← X
  xs ← attributes
  nothing (record { body = body.Array a; attributes = xs })

-- ---- the file

abbrev pub next_class_fault : At → NativeError
next_class_fault s = class_fault (lexed s)

abbrev pub next_misfit : At → NativeError
next_misfit s = misfit (lexed s)

-- the class word at this offset and what follows it
unfoldable pub content_at : ℕ → NativeGrammar Content
content_at at =
    given (sees (codes "array")) (array_content (plain_array at))
    (given (sees (codes "constantarray")) (array_content (constant_array at))
    (given (sees (codes "regulararray")) (array_content (regular_array at))
    (given (sees (codes "gridpositions")) (array_content (grid_points at))
    (given (sees (codes "gridconnections")) (array_content (grid_cells at))
    (given (sees (codes "string")) text
    (given (sees (codes "field")) (listing_content listing.Field)
    (given (sees (codes "group")) (listing_content listing.Group)
    (given (sees (codes "compositefield")) (listing_content listing.Composite)
    (given (sees (codes "series")) (listing_content listing.Series)
    (refused next_class_fault))))))))))

unfoldable pub content : NativeGrammar Content
content = place >>= content_at

-- 'object' NAME 'class' ..; names differ
unfoldable pub clause : List Clause → NativeGrammar Clause
clause found = do
  key (codes "object")
  n ← named
  unless (repeated (has_clause n.text found) n.at)
  key (codes "class")
  c ← content
  nothing (record { name = n; content = c })

unfoldable pub file_clause : File → NativeGrammar File
file_clause f = do
  c ← clause f.clauses
  nothing (record { clauses = f.clauses ++ c ∷ []; default = f.default })

-- 'default' NAME
unfoldable pub file_default : File → NativeGrammar File
file_default f = do
  key (codes "default")
  n ← named
  nothing (record { clauses = f.clauses; default = Some n })

abbrev pub sees_object : At → Bool
sees_object s = sees (codes "object") s

unfoldable pub file_next : File → NativeGrammar File
file_next f = given sees_object (file_clause f) (file_default f)

abbrev pub sees_default : At → Bool
sees_default s = sees (codes "default") s

abbrev pub sees_next : File → At → Bool
sees_next f s = sees_object s || sees_default s

pub file_some : (f : File) → 1 ≤ (file_next f).least
unfolding file_next file_clause file_default clause key
file_some f = omega arith

-- { object | 'default' NAME }, behind those found
abbrev pub file_from : File → NativeGrammar File
file_from f = loop sees_next file_next file_some f

unfoldable pub file_clauses : NativeGrammar File
file_clauses = file_from (record { clauses = []; default = None })

-- 'end' anything | end of input
unfoldable pub ending : NativeGrammar (Unit {0})
ending = given at_end (nothing tt) (given (sees (codes "end")) (nothing tt) (refused next_misfit))

unfoldable pub file : NativeGrammar File
file = do
  f ← file_clauses
  ending
  nothing f
