use Rattle.std.proofs.Common.{◌≡◌, ℤ, List, Some, sym, subst}
use Rattle.std.specs.Prelude.{Result}
use Rattle.dx_arrays.specs.Classes.{plain_of}
use Rattle.dx_objects.specs.Runs.{Gives, Values}
use Rattle.dx_objects.specs.declared.run_fail.RunFail.{RunFail}
use Rattle.dx_stats.specs.Histogram.{bins_asked, by_bins}
use Rattle.dx_stats.specs.Numbers.{numbers}
use Rattle.dx_stats.proofs.Single.{plain_small, plain_numbers, all_read, some_read, few_read, small_read}
use Rattle.dx_stats.proofs.histogram.histogram_over.Goals as goal
use Rattle.dx_stats.proofs.histogram.histogram_over.Goals.{After-as_slice}

all_numbers : (c : After-as_slice) → c.as_slice.result.now ≡ numbers c.args.array.now
all_numbers c = all_read c.args.array.now c.items-items.result _ _ _ c.items-items.ensures.items c.new-values.ensures.items c.in_ok-push_items-in_default.ensures.ok c.as_slice.ensures.value

of_equal : (vs ws : List ℤ) (inputs : Values) (r : Result Values RunFail) → vs ≡ ws → Gives (by_bins vs (bins_asked vs inputs)) r → Gives (by_bins ws (bins_asked ws inputs)) r
of_equal vs ws inputs r e h = subst (λ (xs : List ℤ). Gives (by_bins xs (bins_asked xs inputs)) r) e h

pub histogram_of-requires-clause-small : goal.histogram_of-requires-clause-small
histogram_of-requires-clause-small c =
    let class : plain_of c.args.array.now.class ≡ Some c.in-Some-Wide.values.now = rw c.in-Some-Wide.field-0-is at c.in-Some-Wide.ensures in
    plain_small c.args.array.now c.in-Some-Wide.values.now c.items-items.ensures.lawful c.requires.single class

pub histogram_of-requires-in_default-clause-some : goal.histogram_of-requires-in_default-clause-some
histogram_of-requires-in_default-clause-some c = some_read c.args.array.now _ c.requires.single c.requires.some (all_numbers c)

pub histogram_of-requires-in_default-clause-few : goal.histogram_of-requires-in_default-clause-few
histogram_of-requires-in_default-clause-few c = few_read c.args.array.now _ c.items-items.ensures.lawful c.requires.single (all_numbers c)

pub histogram_of-requires-in_default-clause-small : goal.histogram_of-requires-in_default-clause-small
histogram_of-requires-in_default-clause-small c = small_read c.args.array.now _ c.items-items.ensures.lawful (all_numbers c)

pub returns-in-Some-Wide : goal.returns-in-Some-Wide
returns-in-Some-Wide c =
    let class : plain_of c.args.array.now.class ≡ Some c.in-Some-Wide.values.now = rw c.in-Some-Wide.field-0-is at c.in-Some-Wide.ensures in
    of_equal c.in-Some-Wide.values.now (numbers c.args.array.now) c.args.inputs.now c.histogram_of.result (sym (plain_numbers c.args.array.now c.in-Some-Wide.values.now c.items-items.ensures.lawful c.requires.single class)) c.histogram_of.ensures

pub returns-in_ok-push_items-in_default : goal.returns-in_ok-push_items-in_default
returns-in_ok-push_items-in_default c =
    let read = all_read c.args.array.now c.items-items.result _ _ _ c.items-items.ensures.items c.new-values.ensures.items c.in_ok-push_items-in_default.ensures.ok c.as_slice.ensures.value in
    of_equal c.as_slice.result.now (numbers c.args.array.now) c.args.inputs.now c.histogram_of-in_default.result read c.histogram_of-in_default.ensures
