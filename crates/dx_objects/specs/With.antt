-- What the calls answer that put a component into a field and take one out.
use Rattle.std.specs.Prelude.{◌≡◌, ℕ, true, false, List, Option, Some, None, Result, Ok, Err}
use Rattle.dx_base.specs.Object.{Tree}
use Rattle.dx_base.specs.ObjectNames.{component, with_component, without_component}
use Rattle.dx_base.specs.ObjectLimits.{is_array, fits}
use Rattle.dx_objects.specs.declared.with.WithError.{WithError}
use Rattle.dx_objects.specs.declared.with.WithError.TheVariants.{NotAField, NotAnArray, TooLarge, NoComponent, Memory}

-- the field, if there is one, or why it isn't made; that memory runs out is possible for a field and an array
abbrev GivesPut : Tree → Option Tree → Result Tree WithError → Type 0
GivesPut t None r = r ≡ Err NotAField
GivesPut t (Some u) (Ok o) = (o ≡ u) × (is_array t ≡ true) × (fits u ≡ true)
GivesPut t (Some u) (Err NotAField) = ⊥
GivesPut t (Some u) (Err NotAnArray) = is_array t ≡ false
GivesPut t (Some u) (Err TooLarge) = (is_array t ≡ true) × (fits u ≡ false)
GivesPut t (Some u) (Err NoComponent) = ⊥
GivesPut t (Some u) (Err Memory) = is_array t ≡ true

-- what the field `whole` gives with the component t under the name n
abbrev pub GivesWith : List ℕ → Tree → Tree → Result Tree WithError → Type 0
GivesWith n t whole r = GivesPut t (with_component n t whole) r

-- the field, if there is one, where a component has the name; that memory runs out is possible there
abbrev GivesTaken : Option Tree → Option Tree → Result Tree WithError → Type 0
GivesTaken None c r = r ≡ Err NotAField
GivesTaken (Some u) None r = r ≡ Err NoComponent
GivesTaken (Some u) (Some c) (Ok o) = o ≡ u
GivesTaken (Some u) (Some c) (Err NotAField) = ⊥
GivesTaken (Some u) (Some c) (Err NotAnArray) = ⊥
GivesTaken (Some u) (Some c) (Err TooLarge) = ⊥
GivesTaken (Some u) (Some c) (Err NoComponent) = ⊥
GivesTaken (Some u) (Some c) (Err Memory) = Unit {0}

-- what the field `whole` gives without the component of the name n
abbrev pub GivesWithout : List ℕ → Tree → Result Tree WithError → Type 0
GivesWithout n whole r = GivesTaken (without_component n whole) (component n whole) r
