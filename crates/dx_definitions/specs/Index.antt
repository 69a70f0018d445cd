-- How the code finds the definitions of a name: the positions under each name.
use Rattle.std.specs.Prelude.{◌≡◌, ◌≤◌, ℕ, true, List, [], ◌∷◌, ◌++◌, length, take, Option, Some, None, Vec, All, if◌then◌else◌}
use Rattle.std.specs.List.{Contains}
use Rattle.std.specs.List.Sorted.{IsNonDecreasing}
use Rattle.std.specs.Str.{bytes_eq}
use Rattle.std.specs.declared.alloc.Global.{Global}
use Rattle.std.specs.HashMap.{HashMap}
use Rattle.dx_base.specs.NameTable.{under_name}
use Rattle.dx_base.specs.NameLists.{has}
use Rattle.dx_ast.specs.declared.statements.Assign.{Assign}
use Rattle.dx_ast.specs.Classes.{Text}
use Rattle.dx_ast.specs.Plain.{plain_expr}
use Rattle.dx_definitions.specs.TopTexts.{TopText, definition, last_named}

-- the positions under each name
abbrev pub Index : Type 0
Index = Text → List ℕ

abbrev pub listed : Option (Vec ℕ Global) → List ℕ
listed (Some positions) = positions.items
listed None = []

abbrev pub index_of : {S : Type 0} → HashMap (Vec ℕ Global) (Vec ℕ Global) S → Index
index_of table name = listed (under_name table name)

-- one more position under a name
abbrev pub with_position : Index → Text → ℕ → Index
with_position index name position other = if bytes_eq name other then index name ++ position ∷ [] else index other

-- one more position under each of the names
abbrev pub noted : Index → List Text → ℕ → Index
noted index [] position = index
noted index (n ∷ rest) position = noted (with_position index n position) rest position

-- positions in ascending order up to the end, among which are those of all definitions of the name
pub record ArePositions (positions : List ℕ) (defs : List TopText) (name : Text) : Type 0 where
  pub ascending : IsNonDecreasing positions
  pub within : All (λ p. p ≤ length defs) positions
  pub all : (p : ℕ) → has (definition defs p).targets name ≡ true → Contains positions p

abbrev pub Indexes : Index → List TopText → Type 0
Indexes index defs = (name : Text) → ArePositions (index name) defs name

-- the first so many definitions are in the index
pub record IsIndexed (noted : ℕ) (index : Index) (defs : List TopText) : Type 0 where
  pub within : noted ≤ length defs
  pub indexes : Indexes index (take noted defs)

-- the last of a name before a position; where none is found, there is none from the first position on
abbrev pub IsLastFrom : List TopText → ℕ → ℕ → Text → Option ℕ → Type 0
IsLastFrom defs from position name (Some i) = Some i ≡ last_named defs position name
IsLastFrom defs from position name None = last_named defs from name ≡ last_named defs position name

abbrev pub text_of : Assign → TopText
text_of a = record { targets = a.targets; value = plain_expr a.value }
