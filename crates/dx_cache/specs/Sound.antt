-- What is true of a cache's entries at all times.
use Rattle.std.specs.Prelude.{◌≡◌, ◌⊎◌, ◌≤◌, List, [], ◌∷◌, None}
use Rattle.dx_base.specs.Object.{results_size}
use Rattle.dx_cache.specs.declared.entry.Entry.{Entry}
use Rattle.dx_cache.specs.Cached.{Cached, total, find}

-- an entry has the stated size of its results, the attribute 1 or 2, and a site
pub record IsKept (e : Entry) : Type 0 where
  pub size : e.size ≡ results_size e.outs
  pub attribute : (e.attribute ≡ 1) ⊎ (e.attribute ≡ 2)
  pub site : ¬ (e.site ≡ [])

-- each entry is so, and no tag stands twice
abbrev pub AreKept : List Entry → Type 0
AreKept [] = Unit {0}
AreKept (e ∷ es) = IsKept e × (find e.tag es ≡ None) × AreKept es

-- the sum of the stated sizes is at most the budget, and each entry is so
pub record IsBounded (c : Cached) : Type 0 where
  pub bounded : total c.entries ≤ c.budget
  pub kept : AreKept c.entries
