-- What a link holds.
use Rattle.std.specs.Prelude.{ℕ, refl}
use Rattle.std.specs.Coded.{Coded, code_by, coded×, coded_ℕ}
use Rattle.dx_base.specs.Object.{Tree}
use Rattle.dx_base.specs.ObjectCode.{coded_tree}
use Rattle.dx_tags.specs.declared.term.ValueTag.{ValueTag}
use Rattle.dx_links.specs.declared.held.HeldRef.{HeldRef}

-- an object, with the tag of a term that denotes it
pub record Holding : Type 0 where
  pub value : Tree
  pub tag : ValueTag

abbrev pub coded_holding : Coded Holding
coded_holding =
    code_by (Tree × (ℕ × ℕ)) (coded× coded_tree (coded× coded_ℕ coded_ℕ))
    (λ h. (h.value, (h.tag.tag, h.tag.result)))
    (λ p. record { value = p.0; tag = record { tag = p.1.0; result = p.1.1 } })
    (λ _. refl)

-- what a link holds, as a borrow of it tells
abbrev pub holding_of : HeldRef → Holding
holding_of h = record { value = h.value.now.value; tag = h.tag }
