-- Tables keyed by the bytes of a name, as functions from names to what stands under them.
use Rattle.std.specs.Prelude.{ℕ, List, Option, Vec, if◌then◌else◌}
use Rattle.std.specs.Str.{bytes_eq}
use Rattle.std.specs.declared.alloc.Global.{Global}
use Rattle.std.specs.HashMap.{HashMap, get_by}

-- what a table has under a name
abbrev pub under_name : {X S : Type 0} → HashMap (Vec ℕ Global) X S → List ℕ → Option X
under_name table name = get_by (λ (key : Vec ℕ Global). bytes_eq name key.items) table

-- the same but under one name
abbrev pub changed_at : {X : Type 0} → (List ℕ → Option X) → List ℕ → Option X → List ℕ → Option X
changed_at table name value other = if bytes_eq name other then value else table other
