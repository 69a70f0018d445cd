-- Parts of an object within the limits are within them.
use Rattle.std.proofs.Common.{◌≡◌, ℕ, ◌≤◌, true, arith}
use Rattle.std.specs.Prelude.{List}
use Rattle.std.proofs.lemmas.Bool.Decides.{nat_tests}
use Rattle.dx_base.specs.Object.{Tree, PartList, array, text, field, series, no_parts, part, levels, deepest, count, total_count, size, total_size}
use Rattle.dx_base.specs.ObjectLimits.{fits, max_levels, max_count, max_size, unplaced}

-- each of the parts is within the limits
abbrev pub AllFit : PartList → Type 0
AllFit no_parts = Unit {0}
AllFit (part n z t ps) = (fits t ≡ true) × AllFit ps

pub record IsSmall (t : Tree) : Type 0 where
  pub few_levels : levels t ≤ max_levels
  pub few : count t ≤ max_count
  pub short : size t ≤ max_size

pub small : (t : Tree) → fits t ≡ true → IsSmall t
small t h = record { few_levels = grind (arith, nat_tests, h); few = grind (arith, nat_tests, h); short = grind (arith, nat_tests, h) }

fits_small : (t : Tree) → levels t ≤ max_levels → count t ≤ max_count → size t ≤ max_size → fits t ≡ true
fits_small t a b c = grind (arith, nat_tests, a, b, c)

all_fit : (ps : PartList) → deepest ps ≤ max_levels → total_count ps ≤ max_count → total_size ps ≤ max_size → AllFit ps
all_fit no_parts a b c = tt
all_fit (part n z t ps) a b c = (fits_small t (omega arith) (omega arith) (omega arith), all_fit ps (omega arith) (omega arith) (omega arith))

pub array_fit : (a : _) (xs : PartList) → fits (array a xs) ≡ true → AllFit xs
array_fit a xs h = let s = small (array a xs) h in all_fit xs (omega (arith, s.few_levels)) (omega (arith, s.few)) (omega (arith, s.short))

pub text_fit : (b : List ℕ) (xs : PartList) → fits (text b xs) ≡ true → AllFit xs
text_fit b xs h = let s = small (text b xs) h in all_fit xs (omega (arith, s.few_levels)) (omega (arith, s.few)) (omega (arith, s.short))

pub field_fit : (ps xs : PartList) → fits (field ps xs) ≡ true → AllFit ps × AllFit xs
field_fit ps xs h =
    let s = small (field ps xs) h in
    (all_fit ps (omega (arith, s.few_levels)) (omega (arith, s.few)) (omega (arith, s.short)), all_fit xs (omega (arith, s.few_levels)) (omega (arith, s.few)) (omega (arith, s.short)))

pub series_fit : (ps xs : PartList) → fits (series ps xs) ≡ true → AllFit ps × AllFit xs
series_fit ps xs h =
    let s = small (series ps xs) h in
    (all_fit ps (omega (arith, s.few_levels)) (omega (arith, s.few)) (omega (arith, s.short)), all_fit xs (omega (arith, s.few_levels)) (omega (arith, s.few)) (omega (arith, s.short)))

pub fit_placed : (ps : PartList) → AllFit (unplaced ps) → AllFit ps
fit_placed no_parts h = tt
fit_placed (part n z t ps) h = (h.0, fit_placed ps h.1)
