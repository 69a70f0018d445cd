-- What contracts see of values: trees, or none for NULL.
use Rattle.std.specs.Prelude.{ℕ, zero, suc, List, [], ◌∷◌, map, Option, None, option_map}
use Rattle.std.specs.declared.rc.Rc.{Rc}
use Rattle.std.specs.declared.alloc.Global.{Global}
use Rattle.dx_base.specs.Object.{Tree}

abbrev pub value_of : Option (Rc Tree Global) → Option Tree
value_of v = option_map (λ (o : Rc Tree Global). o.value) v

abbrev pub values_of : List (Option (Rc Tree Global)) → List (Option Tree)
values_of vs = map value_of vs

-- value number i, and NULL behind the end
abbrev pub value_at : List (Option Tree) → ℕ → Option Tree
value_at [] i = None
value_at (v ∷ vs) zero = v
value_at (v ∷ vs) (suc i) = value_at vs i
