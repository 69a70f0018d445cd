-- The code of a cache's value.
use Rattle.std.specs.Prelude.{ℕ, List, Option, refl}
use Rattle.std.specs.Coded.{Coded, code_by, coded×, coded_ℕ, coded_list, coded_option}
use Rattle.dx_base.specs.Object.{Tree}
use Rattle.dx_base.specs.ObjectCode.{coded_tree}
use Rattle.dx_cache.specs.declared.entry.Entry.{Entry}
use Rattle.dx_cache.specs.Cached.{Cached}

abbrev pub coded_entry : Coded Entry
coded_entry =
    code_by (ℕ × (List ℕ × (ℕ × (ℕ × List (Option Tree))))) (coded× coded_ℕ (coded× (coded_list coded_ℕ) (coded× coded_ℕ (coded× coded_ℕ (coded_list (coded_option coded_tree))))))
    (λ e. (e.tag, (e.site, (e.attribute, (e.size, e.outs)))))
    (λ p. record { tag = p.0; site = p.1.0; attribute = p.1.1.0; size = p.1.1.1.0; outs = p.1.1.1.1 })
    (λ _. refl)

abbrev pub coded_cached : Coded Cached
coded_cached =
    code_by (ℕ × (List Entry × ℕ)) (coded× coded_ℕ (coded× (coded_list coded_entry) coded_ℕ))
    (λ c. (c.budget, (c.entries, c.room)))
    (λ p. record { budget = p.0; entries = p.1.0; room = p.1.1 })
    (λ _. refl)
