-- The levels that are known, and the parts in a clause's body.
use Rattle.std.specs.Prelude.{◌≡◌, ℕ, zero, suc, List, Option, Some, slice_index_or, length}
use Rattle.dx_base.specs.Object.{Tree, PartList, no_parts, levels}
use Rattle.dx_native_grammar.specs.Meaning.{tree_at, parts_at}
use Rattle.dx_native_grammar.specs.declared.clause.Body.{Body}
use Rattle.dx_native_grammar.specs.declared.clause.Body.TheVariants as body
use Rattle.dx_native_grammar.specs.declared.clause.Clause.{Clause}

-- a number that isn't 0 is that of the object's levels
abbrev pub CountedAt : List Clause → ℕ → ℕ → Type 0
CountedAt cs i zero = Unit {0}
CountedAt cs i (suc n) = (k : ℕ) × (t : Tree) × (tree_at cs k i ≡ Some t) × (levels t ≡ suc n)

pub record IsCounted (cs : List Clause) (known : List ℕ) : Type 0 where
  pub many : length known ≡ length cs
  pub each : (i : ℕ) → CountedAt cs i (slice_index_or known i 0)

abbrev pub parts_in : (List ℕ → Option Tree) → Body → Option PartList
parts_in meant (body.Array a) = Some no_parts
parts_in meant (body.Text b) = Some no_parts
parts_in meant (body.Parts k ps) = parts_at meant ps
