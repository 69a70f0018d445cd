-- A table without entries.
use Rattle.std.proofs.Common.{◌≡◌, ℕ, List, [], ◌∷◌, length, Bool, None, Vec, refl, arith}
use Rattle.std.specs.declared.alloc.Global.{Global}
use Rattle.std.specs.HashMap.{HashMap, hash_map_len}
use Rattle.std.specs.Map.{lookup}
use Rattle.dx_base.specs.NameTable.{under_name}

none_among : {K X : Type 0} (test : K → Bool) (entries : List (K × X)) → length entries ≡ 0 → lookup test entries ≡ None
none_among test [] e = refl
none_among test (x ∷ xs) e = absurd (omega (arith, e))

pub nothing_under : {X S : Type 0} (table : HashMap (Vec ℕ Global) X S) (name : List ℕ) → hash_map_len table ≡ 0 → under_name table name ≡ None
nothing_under table name e = none_among _ table.entries e
