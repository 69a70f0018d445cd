-- Calls by the tags of their terms.
use Rattle.std.specs.Prelude.{ℕ, List, refl}
use Rattle.std.specs.Coded.{Coded, code_by, coded×, coded_ℕ, coded_list, coded_option}
use Rattle.dx_base.specs.Object.{Tree}
use Rattle.dx_base.specs.ObjectCode.{coded_tree}
use Rattle.dx_objects.specs.Runs.{Values}

-- the calls that are known with their results, and the room for more
pub record KnownCalls : Type 0 where
  pub calls : List (ℕ × Values)
  pub room : ℕ

abbrev pub coded_known : Coded KnownCalls
coded_known =
    code_by (List (ℕ × Values) × ℕ) (coded× (coded_list (coded× coded_ℕ (coded_list (coded_option coded_tree)))) coded_ℕ)
    (λ k. (k.calls, k.room))
    (λ p. record { calls = p.0; room = p.1 })
    (λ _. refl)
