-- Why arrays and fields of a histogram can't be made, if they can't.
use Rattle.std.proofs.Common.{◌≡◌, ◌≤◌, ◌^◌, ℕ, ℤ, List, [], ◌∷◌, length, Bool, true, false, ◌&&◌, refl, sym, ap, arith, rules}
use Rattle.std.specs.Prelude.{IsTrue, Option, Some, None, Result, Ok, Err, codes, if◌then◌else◌}
use Rattle.std.proofs.lemmas.Bool.Decides.{nat_tests}
use Rattle.dx_base.specs.declared.code.Code.TheVariants.{TooLarge}
use Rattle.dx_base.specs.declared.elem.ElemType.TheVariants.{Int}
use Rattle.dx_base.specs.Array.{ArrayData, plain, grid_connections}
use Rattle.dx_base.specs.Object.{Tree, PartList, array, text, no_parts}
use Rattle.dx_base.specs.ObjectLimits.{all_named, differ, fits, is_array}
use Rattle.dx_arrays.specs.declared.array.ArrayError.{ArrayError}
use Rattle.dx_arrays.specs.Makes.{refusal as array_refusal, Makes}
use Rattle.dx_objects.specs.declared.makers.ObjectError.{ObjectError}
use Rattle.dx_objects.specs.declared.makers.ObjectError.TheVariants.{TooLarge as TooLargeObject}
use Rattle.dx_objects.specs.Makes.{refusal}
use Rattle.dx_stats.specs.declared.bins.Bins.{Bins}
use Rattle.dx_stats.specs.Histogram.{counts, if_fits, if_made, made, made_counts, field_of, text_part}

if_fits_array : (a : ArrayData) (xs : PartList) (t : Tree) (b : Bool) → b ≡ fits (array a xs) → if_fits (array a xs) ≡ Ok t → is_array t ≡ true
if_fits_array a xs t true e h = let same : array a xs ≡ t = cc (rw (← e) at h) in ap is_array (sym same)
if_fits_array a xs t false e h = absurd (cc (rw (← e) at h))

made_array_by : (r : Option ArrayError) (a : ArrayData) (xs : PartList) (t : Tree) → if_made r (array a xs) ≡ Ok t → is_array t ≡ true
made_array_by None a xs t h = if_fits_array a xs t (fits (array a xs)) refl h
made_array_by (Some e) a xs t h = absurd (cc h)

-- what is made is an array
pub made_array : (a : ArrayData) (xs : PartList) (t : Tree) → made a xs ≡ Ok t → is_array t ≡ true
made_array a xs t h = made_array_by (array_refusal a) a xs t h

pub counts_array : (b : Bins) (vs : List ℤ) (t : Tree) → made_counts b vs ≡ Ok t → is_array t ≡ true
counts_array b vs t h = made_array (counts b vs) (text_part (codes "dep") (codes "connections") no_parts) t h

pub short_text : (b : List ℕ) → length b ≤ 100 → refusal (text b no_parts) ≡ None
short_text b h = grind (arith, nat_tests)

-- an array with good names that is refused is too large
fits_by : (b : Bool) (e : ObjectError) → (if b then None else Some TooLargeObject) ≡ Some e → b ≡ false
fits_by true e h = absurd (cc h)
fits_by false e h = refl

pub too_large : (a : ArrayData) (xs : PartList) (e : ObjectError) → IsTrue (all_named xs && differ xs) → refusal (array a xs) ≡ Some e → if_fits (array a xs) ≡ Err TooLarge
too_large a xs e names h =
    let good : (all_named xs && differ xs) ≡ true = search rules in
    let small = fits_by (fits (array a xs)) e (rw good at h) in
    rw small refl

-- and so is a field of three arrays
pub field_too_large : (ps cs ds : Tree) (e : ObjectError) → is_array ps ≡ true → is_array cs ≡ true → is_array ds ≡ true → refusal (field_of ps cs ds) ≡ Some e → if_fits (field_of ps cs ds) ≡ Err TooLarge
field_too_large ps cs ds e p c d h =
    let small = fits_by (fits (field_of ps cs ds)) e (rw (p, c, d) at h) in
    rw small refl

pub made_too_large : (a b : ArrayData) (xs : PartList) (e : ObjectError) → IsTrue (all_named xs && differ xs) → b ≡ a → array_refusal a ≡ None → refusal (array b xs) ≡ Some e → made a xs ≡ Err TooLarge
made_too_large a b xs e names same fine h = rw fine (too_large a xs e names (rw same at h))

-- an array that is made of equal lists
pub makes_list : (es fs : List ℕ) (vs ws : List ℤ) (r : Result ArrayData ArrayError) → es ≡ fs → vs ≡ ws → Makes (record { elem = Int; extents = es; class = plain vs }) r → Makes (record { elem = Int; extents = fs; class = plain ws }) r
makes_list es fs vs ws r e f m = rw (← e, ← f) m

pub makes_connections : (cs ds : List ℕ) (r : Result ArrayData ArrayError) → cs ≡ ds → Makes (record { elem = Int; extents = 2 ^ length cs ∷ []; class = grid_connections cs }) r → Makes (record { elem = Int; extents = 2 ^ length ds ∷ []; class = grid_connections ds }) r
makes_connections cs ds r e m = rw (← e) m
