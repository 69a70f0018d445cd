-- What the walk answers and keeps.
use Rattle.std.specs.Prelude.{◌≡◌, ℕ, List, [], Bool, true, false, Option, Some, None, length, slice_index_or}
use Rattle.dx_base.specs.Object.{Tree, PartList}
use Rattle.dx_native_grammar.specs.declared.clause.Body.{Body}
use Rattle.dx_native_grammar.specs.declared.clause.Body.TheVariants as body
use Rattle.dx_native_grammar.specs.declared.clause.Clause.{Clause}
use Rattle.dx_native_grammar.specs.declared.clause.Part.{Part}
use Rattle.dx_native_grammar.specs.Meaning.{tree_at}
use Rattle.dx_native_fields.specs.Good.{good_fields, all_good}

-- the lines of a clause that name its parts
abbrev pub lines_of_body : Body → List Part
lines_of_body (body.Array a) = []
lines_of_body (body.Text b) = []
lines_of_body (body.Parts k ls) = ls

abbrev pub lines_of : Option Clause → List Part
lines_of None = []
lines_of (Some c) = lines_of_body c.content.body

-- whether what is meant, if anything is, has good fields
abbrev pub Tells : Option Tree → Bool → Type 0
Tells meant good = (t : Tree) → meant ≡ Some t → good ≡ good_fields t

abbrev pub TellsAll : Option PartList → Bool → Type 0
TellsAll meant good = (ps : PartList) → meant ≡ Some ps → good ≡ all_good ps

-- a clause that is marked means an object with good fields, of however many levels
abbrev pub GoodAt : List Clause → ℕ → Bool → Type 0
GoodAt cs i true = (k : ℕ) (t : Tree) → tree_at cs k i ≡ Some t → good_fields t ≡ true
GoodAt cs i false = Unit {0}

pub record AreMarked (cs : List Clause) (marks : List Bool) : Type 0 where
  pub many : length marks ≡ length cs
  pub each : (i : ℕ) → GoodAt cs i (slice_index_or marks i false)
