-- Items of an expression, by components of vectors.
use Rattle.std.specs.Prelude.{◌≡◌, ℕ, ◌<◌, ◌≤◌, ◌+◌, ◌-◌, ◌*◌, List, [], ◌∷◌, length, map, slice_index_or, IsSome, Some, Ok, Err, ℤ, pos}
use Rattle.std.specs.List.{range_with_len}
use Rattle.dx_expr_grammar.specs.declared.tree.Expression.{Expression}
use Rattle.dx_expr.specs.declared.fault.ItemFault.{ItemFault}
use Rattle.dx_expr.specs.Shape.{shape_of}
use Rattle.dx_expr.specs.Value.{Inputs, Values, value_of, joined}
use Rattle.dx_expr_columns.specs.Columns.{part_at}

-- an item has so many values of an expression, and these
pub record HasEach (inputs : Inputs) (e : Expression) (item count : ℕ) (v : ℕ → ℤ) : Type 0 where
  pub found : Values
  pub are : value_of inputs item e ≡ Ok found
  pub many : length found ≡ count
  pub each : (j : ℕ) → j < count → slice_index_or found j (pos 0) ≡ v j

-- each of these expressions is a single value, and an item for which each has one has these values of an expression
pub record AreColumns (inputs : Inputs) (e : Expression) (columns : List Expression) : Type 0 where
  pub fits : IsSome (shape_of inputs.shape e)
  pub few : length columns ≤ 16
  pub singles : (j : ℕ) → j < length columns → shape_of inputs.shape (part_at columns j) ≡ Some []
  pub values : (item : ℕ) (v : ℕ → ℤ) → ((j : ℕ) → j < length columns → value_of inputs item (part_at columns j) ≡ Ok (v j ∷ [])) → HasEach inputs e item (length columns) v

-- the first of these expressions, so many, have these values at the items from one on, so many: item by item in rows of a width
abbrev pub HaveValues : Inputs → List Expression → ℕ → ℕ → ℕ → ℕ → Values → Type 0
HaveValues inputs columns first from count width values =
    (i j : ℕ) → i < count → j < first → value_of inputs (from + i) (part_at columns j) ≡ Ok (slice_index_or values (i * width + j) (pos 0) ∷ [])

-- the values of the items from one on, so many, one after the other
abbrev pub HasItems : Inputs → Expression → ℕ → ℕ → ℕ → Values → Type 0
HasItems inputs e from to count values =
    (0 < count) × (count ≤ to - from) × (joined (map (λ item. value_of inputs item e) (range_with_len from count)) ≡ Ok values)

-- the items from one on have this fault first, which is that of one before another
abbrev pub Fails : Inputs → Expression → ℕ → ℕ → ItemFault → Type 0
Fails inputs e from to fault = (n : ℕ) → to ≤ n → joined (map (λ item. value_of inputs item e) (range_with_len from (n - from))) ≡ Err fault
