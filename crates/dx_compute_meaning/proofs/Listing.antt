-- The code's loops over lists: what is done, and what the definitions make of the rest.
use Rattle.std.proofs.Common.{◌≡◌, ℕ, Bool, List, [], ◌∷◌, Option, Some, None, Bor, refl, ap}
use Rattle.std.specs.Prelude.{map, ◌==◌, ◌&&◌}
use Rattle.std.specs.List.{list_all}
use Rattle.dx_base.specs.Array.{ArrayData}
use Rattle.dx_base.specs.Object.{Tree}
use Rattle.dx_compute_meaning.specs.Operands as operands
use Rattle.dx_compute_meaning.specs.Operands.{groups, as_group, before_groups, member_count, are_all}
use Rattle.dx_compute_meaning.specs.Arrays as arrays
use Rattle.dx_compute_meaning.specs.Arrays.{item_counts, other_count, before_counts}
use Rattle.dx_compute_meaning.specs.Shown.{shown, shown_one, shown_arrays, shown_array}

all_groups_by : (n : ℕ) (v : Option Tree) (gs : List Tree) (rest : Bool) → rest ≡ are_all n (map member_count gs) →
    (operands.fits_in n v && rest) ≡ are_all n (map member_count (before_groups v gs))
all_groups_by n None gs rest h = h
all_groups_by n (Some g) gs rest h = ap (λ b. (member_count g == n) && b) h

pub all_groups : (n : ℕ) (vs : List (Option (Bor Tree))) → list_all (λ v. operands.fits_in n (as_group (shown_one v))) vs ≡ are_all n (map member_count (groups (shown vs)))
all_groups n [] = refl
all_groups n (v ∷ vs) = all_groups_by n (as_group (shown_one v)) (groups (shown vs)) _ (all_groups n vs)

all_counts_by : (n : ℕ) (m : Option ℕ) (ns : List ℕ) (rest : Bool) → rest ≡ are_all n ns → (arrays.fits_in n m && rest) ≡ are_all n (before_counts m ns)
all_counts_by n None ns rest h = h
all_counts_by n (Some m) ns rest h = ap (λ b. (m == n) && b) h

pub all_counts : (n : ℕ) (vs : List (Option (Bor ArrayData))) → list_all (λ a. arrays.fits_in n (other_count (shown_array a))) vs ≡ are_all n (item_counts (shown_arrays vs))
all_counts n [] = refl
all_counts n (v ∷ vs) = all_counts_by n (other_count (shown_array v)) (item_counts (shown_arrays vs)) _ (all_counts n vs)
