-- The values of many items of an expression.
use Rattle.std.specs.Prelude.{ℕ, ◌-◌, map, Ok}
use Rattle.std.specs.List.{range_with_len}
use Rattle.dx_expr_grammar.specs.declared.tree.Expression.{Expression}
use Rattle.dx_expr.specs.Value.{Inputs, Outcome, Values, value_of, joined, ◌>>=◌}

-- The values of the items from 0 on, so many, one after the other, or the first fault of the first item that has one.
abbrev pub all_values : Inputs → Expression → ℕ → Outcome Values
all_values inputs e n = joined (map (λ item. value_of inputs item e) (range_with_len 0 n))

-- the same of the items from one to before another
abbrev pub values_from : Inputs → Expression → ℕ → ℕ → Outcome Values
values_from inputs e from to = joined (map (λ item. value_of inputs item e) (range_with_len from (to - from)))

-- whether each of them has its values
abbrev pub faultless : Outcome Values → Outcome (Unit {0})
faultless values = values >>= λ vs. Ok tt
