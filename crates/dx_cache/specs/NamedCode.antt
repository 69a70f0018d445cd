-- The code of the value.
use Rattle.std.specs.Prelude.{ℕ, List, Option, refl}
use Rattle.std.specs.Coded.{Coded, code_by, coded×, coded_ℕ, coded_list, coded_option}
use Rattle.dx_cache.specs.declared.chains.Ends.{Ends}
use Rattle.dx_cache.specs.Named.{Named}

abbrev pub coded_ends : Coded Ends
coded_ends =
    code_by (Option ℕ × Option ℕ) (coded× (coded_option coded_ℕ) (coded_option coded_ℕ))
    (λ e. (e.first, e.last))
    (λ p. record { first = p.0; last = p.1 })
    (λ _. refl)

abbrev pub coded_named : Coded Named
coded_named =
    code_by (List (Option (List ℕ)) × (List (List ℕ × Ends) × ℕ)) (coded× (coded_list (coded_option (coded_list coded_ℕ))) (coded× (coded_list (coded× (coded_list coded_ℕ) coded_ends)) coded_ℕ))
    (λ c. (c.names, (c.ends, c.room)))
    (λ p. record { names = p.0; ends = p.1.0; room = p.1.1 })
    (λ _. refl)
