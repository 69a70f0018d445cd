-- Definitions as contracts see them: which there are, and how many more there is room for.
use Rattle.std.specs.Prelude.{ℕ, List, refl}
use Rattle.std.specs.Coded.{Coded, code_by, coded×, coded_ℕ, coded_list}
use Rattle.dx_ast.specs.declared.statements.Assign.{Assign}
use Rattle.dx_ast.specs.contracts.statements.Assign as assign

pub record Held : Type 0 where
  pub items : List Assign
  pub room : ℕ

abbrev pub coded_held : Coded Held
coded_held = code_by (List Assign × ℕ) (coded× (coded_list assign.the_row.coded) coded_ℕ) (λ h. (h.items, h.room)) (λ p. record { items = p.0; room = p.1 }) (λ _. refl)
