-- The origins and deltas of what the modules make are ints.
use Rattle.std.proofs.Common.{◌≡◌, ℤ, List, [], ◌∷◌, Bool, true, false, refl, subst}
use Rattle.std.specs.Prelude.{Option, Some, None, Result, Ok, Err, cond}
use Rattle.std.specs.Cmp.Derive.{both_true}
use Rattle.dx_base.specs.declared.code.Code.{Code}
use Rattle.dx_base.specs.declared.code.Code.TheVariants.{TooLarge}
use Rattle.dx_base.specs.Array.{ArrayData}
use Rattle.dx_base.specs.Object.{Tree, PartList, array, no_parts}
use Rattle.dx_base.specs.ObjectLimits.{fits}
use Rattle.dx_base.specs.ObjectNumbers.{steps_by_ints, number_value}
use Rattle.dx_arrays.specs.declared.array.ArrayError.{ArrayError}
use Rattle.dx_arrays.specs.Makes.{refusal}
use Rattle.dx_objects.specs.Runs.{Values}
use Rattle.dx_objects.specs.Values.{value_at}
use Rattle.dx_steps.specs.Steps.{value_steps, all_step, MakesSteps}
use Rattle.dx_steps.proofs.ValueLaws.{number_steps}
use Rattle.dx_stats.specs.declared.bins.Bins.{Bins}
use Rattle.dx_stats.specs.Bins.{median}
use Rattle.dx_stats.specs.Histogram.{bins_asked, connections, positions, counts, if_fits, if_made, made_field, made_positions, made_connections, made_counts, field_of, histogram, median_value, both, by_bins, histogram_over, histogram_answer}
use Rattle.dx_stats.specs.Numbers.{numbers, numbers_in}
use Rattle.dx_stats.specs.Statistics.{mean, deviation, variance, least, greatest, answer_over, statistics_answer}

-- ---- numbers

median_steps : (m : Option ℤ) → value_steps (median_value m) ≡ true
median_steps None = refl
median_steps (Some n) = number_steps n

-- ---- the field of a histogram

fits_is : (b : Bool) (t u : Tree) → cond b (Ok t) (Err TooLarge) ≡ Ok u → t ≡ u
fits_is true t u h = cc h
fits_is false t u h = absurd (cc h)

fitting : (t u : Tree) → if_fits t ≡ Ok u → steps_by_ints t ≡ true → steps_by_ints u ≡ true
fitting t u h s = subst (λ x. steps_by_ints x ≡ true) (fits_is (fits t) t u h) s

made_by : (r : Option ArrayError) (a : ArrayData) (xs : PartList) (t : Tree) → if_made r (array a xs) ≡ Ok t → steps_by_ints (array a xs) ≡ true → steps_by_ints t ≡ true
made_by None a xs t h s = fitting (array a xs) t h s
made_by (Some e) a xs t h s = absurd (cc h)

positions_steps : (b : Bins) (t : Tree) → made_positions b ≡ Ok t → steps_by_ints t ≡ true
positions_steps b t h = made_by (refusal (positions b)) (positions b) no_parts t h refl

connections_steps : (b : Bins) (t : Tree) → made_connections b ≡ Ok t → steps_by_ints t ≡ true
connections_steps b t h = made_by (refusal (connections b)) (connections b) _ t h refl

counts_steps : (b : Bins) (vs : List ℤ) (t : Tree) → made_counts b vs ≡ Ok t → steps_by_ints t ≡ true
counts_steps b vs t h = made_by (refusal (counts b vs)) (counts b vs) _ t h refl

parts_step : (ps cs ds : Tree) → steps_by_ints ps ≡ true → steps_by_ints cs ≡ true → steps_by_ints ds ≡ true → steps_by_ints (field_of ps cs ds) ≡ true
parts_step ps cs ds p c d = rw (p, c, d) refl

field_steps : (ps cs ds : Result Tree Code) (t : Tree) → ((u : Tree) → ps ≡ Ok u → steps_by_ints u ≡ true) → ((u : Tree) → cs ≡ Ok u → steps_by_ints u ≡ true) → ((u : Tree) → ds ≡ Ok u → steps_by_ints u ≡ true) →
    made_field ps cs ds ≡ Ok t → steps_by_ints t ≡ true
field_steps (Err code) cs ds t p c d h = absurd (cc h)
field_steps (Ok ps) (Err code) ds t p c d h = absurd (cc h)
field_steps (Ok ps) (Ok cs) (Err code) t p c d h = absurd (cc h)
field_steps (Ok ps) (Ok cs) (Ok ds) t p c d h = fitting (field_of ps cs ds) t h (parts_step ps cs ds (p ps refl) (c cs refl) (d ds refl))

histogram_steps : (b : Bins) (vs : List ℤ) (t : Tree) → histogram b vs ≡ Ok t → steps_by_ints t ≡ true
histogram_steps b vs t h = field_steps (made_positions b) (made_connections b) (made_counts b vs) t (positions_steps b) (connections_steps b) (counts_steps b vs) h

-- ---- the answers

both_step : (t : Result Tree Code) (m : Option ℤ) (results : Values) → ((u : Tree) → t ≡ Ok u → steps_by_ints u ≡ true) → both t m ≡ Ok results → all_step results ≡ true
both_step (Err code) m results s h = absurd (cc h)
both_step (Ok t) m results s h =
    let same : Some t ∷ median_value m ∷ [] ≡ results = cc h in
    subst (λ vs. all_step vs ≡ true) same (both_true (s t refl) (both_true (median_steps m) refl))

bins_step : (vs : List ℤ) (b : Result Bins Code) (results : Values) → by_bins vs b ≡ Ok results → all_step results ≡ true
bins_step vs (Err code) results h = absurd (cc h)
bins_step vs (Ok b) results h = both_step (histogram b vs) (median b vs) results (histogram_steps b vs) h

over_step : (a : Result ArrayData Code) (inputs results : Values) → histogram_over a inputs ≡ Ok results → all_step results ≡ true
over_step (Err code) inputs results h = absurd (cc h)
over_step (Ok a) inputs results h = bins_step (numbers a) (bins_asked (numbers a) inputs) results h

pub histogram_makes_steps : MakesSteps histogram_answer
histogram_makes_steps inputs results h = over_step (numbers_in (value_at inputs 0)) inputs results h

five_step : (vs : List ℤ) → all_step (number_value (mean vs) ∷ number_value (deviation vs) ∷ number_value (variance vs) ∷ number_value (least vs) ∷ number_value (greatest vs) ∷ []) ≡ true
five_step vs =
    both_true (number_steps (mean vs)) (both_true (number_steps (deviation vs)) (both_true (number_steps (variance vs)) (both_true (number_steps (least vs)) (both_true (number_steps (greatest vs)) refl))))

statistics_step : (a : Result ArrayData Code) (results : Values) → answer_over a ≡ Ok results → all_step results ≡ true
statistics_step (Err code) results h = absurd (cc h)
statistics_step (Ok a) results h =
    let same : number_value (mean (numbers a)) ∷ number_value (deviation (numbers a)) ∷ number_value (variance (numbers a)) ∷ number_value (least (numbers a)) ∷ number_value (greatest (numbers a)) ∷ [] ≡ results = cc h in
    subst (λ vs. all_step vs ≡ true) same (five_step (numbers a))

pub statistics_makes_steps : MakesSteps statistics_answer
statistics_makes_steps inputs results h = statistics_step (numbers_in (value_at inputs 0)) results h
