-- Looking that ends at a selector ends there by more too, where that doesn't tell it either.
use Rattle.std.specs.Prelude.{◌≡◌, List, None}
use Rattle.dx_macros.specs.Tree.{Tree, Trees}
use Rattle.dx_meaning.specs.Scan.{Sight, IsOff, Stops, Needs, Scanned, Forms, Ends, scan, scan_each, all_scanned}
use Rattle.dx_meaning.specs.More.{More}
use Rattle.dx_meaning.specs.Forming.{Formed, forms, each_forms, all_forms}

-- by what is told, and by what is told in full: the same selector is needed, and the same is formed
abbrev pub HaltKept : {A : Type 0} → Sight → Scanned A → Scanned A → List Formed → List Formed → Type 0
HaltKept full (Forms x) b fs gs = Unit {0}
HaltKept full (Ends IsOff) b fs gs = Unit {0}
HaltKept full (Ends (Stops site code)) b fs gs = Unit {0}
HaltKept full (Ends (Needs site u)) b fs gs = full.told u ≡ None → (b ≡ Ends (Needs site u)) × (gs ≡ fs)

abbrev pub HaltsAlike : Type 0
HaltsAlike = (told full : Sight) → More told full → (t : Tree) → HaltKept full (scan told t) (scan full t) (forms told t) (forms full t)

-- at all of several trees, in order
abbrev pub AllHaltsAlike : Type 0
AllHaltsAlike = (told full : Sight) → More told full → (ts : Trees) →
    HaltKept full (all_scanned (scan_each told ts)) (all_scanned (scan_each full ts)) (all_forms (scan_each told ts) (each_forms told ts)) (all_forms (scan_each full ts) (each_forms full ts))
