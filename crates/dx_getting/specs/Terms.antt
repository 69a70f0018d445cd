-- The values of links by their terms.
use Rattle.std.specs.Prelude.{ℕ, List, [], ◌∷◌, map, Option, Some, None, refl}
use Rattle.std.specs.Coded.{Coded, code_by, coded×, coded_ℕ, coded_list}
use Rattle.std.specs.Map.{lookup}
use Rattle.dx_base.specs.Object.{Tree}
use Rattle.dx_base.specs.ObjectCode.{coded_tree}
use Rattle.dx_tags.specs.declared.term.ValueTag.{ValueTag}
use Rattle.dx_tags.specs.contracts.term.ValueTagPartialEq.TheImpl as tags
use Rattle.dx_getting.specs.declared.bound.Binding.{Binding}

abbrev pub BoundValues : Type 0
BoundValues = List (ValueTag × Tree)

-- how many links hold each
abbrev pub Counts : Type 0
Counts = List (ValueTag × ℕ)

-- from which tag on values are kept, the values of links by their terms, how many links hold each, and the room for more terms
pub record Table : Type 0 where
  pub from : ℕ
  pub pairs : BoundValues
  pub counts : Counts
  pub room : ℕ

abbrev pub or_none : Option ℕ → ℕ
or_none None = 0
or_none (Some n) = n

-- how many links hold the value of this term
abbrev pub count_in : ValueTag → Counts → ℕ
count_in t counts = or_none (lookup (tags.ghosts.eq t) counts)

-- ---- as the code keeps them

abbrev pub bound_values : List (ValueTag × Binding) → BoundValues
bound_values xs = map (λ (x : ValueTag × Binding). (x.0, x.1.value.value)) xs

abbrev pub bound_counts : List (ValueTag × Binding) → Counts
bound_counts xs = map (λ (x : ValueTag × Binding). (x.0, x.1.links)) xs

abbrev pub coded_tag : Coded ValueTag
coded_tag =
    code_by (ℕ × ℕ) (coded× coded_ℕ coded_ℕ)
    (λ t. (t.tag, t.result))
    (λ p. record { tag = p.0; result = p.1 })
    (λ _. refl)

abbrev pub coded_bound : Coded BoundValues
coded_bound = coded_list (coded× coded_tag coded_tree)

abbrev pub coded_counts : Coded Counts
coded_counts = coded_list (coded× coded_tag coded_ℕ)

abbrev pub coded_table : Coded Table
coded_table =
    code_by (ℕ × (BoundValues × (Counts × ℕ))) (coded× coded_ℕ (coded× coded_bound (coded× coded_counts coded_ℕ)))
    (λ t. (t.from, (t.pairs, (t.counts, t.room))))
    (λ p. record { from = p.0; pairs = p.1.0; counts = p.1.1.0; room = p.1.1.1 })
    (λ _. refl)
