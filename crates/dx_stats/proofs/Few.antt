-- Statistics gives five results, and Histogram two.
use Rattle.std.specs.Prelude.{ℤ, List, Option, Result, Ok, Err}
use Rattle.std.proofs.Common.{arith}
use Rattle.dx_base.specs.declared.code.Code.{Code}
use Rattle.dx_base.specs.Array.{ArrayData}
use Rattle.dx_base.specs.Object.{Tree}
use Rattle.dx_objects.specs.Runs.{Values, HasFewResults}
use Rattle.dx_objects.specs.Values.{value_at}
use Rattle.dx_stats.specs.Bins.{median}
use Rattle.dx_stats.specs.Histogram.{bins_asked, histogram, both, by_bins, histogram_over, histogram_answer}
use Rattle.dx_stats.specs.Numbers.{numbers, numbers_in}
use Rattle.dx_stats.specs.Statistics.{answer_over, statistics_answer}
use Rattle.dx_stats.specs.declared.bins.Bins.{Bins}

few_over : (a : Result ArrayData Code) → HasFewResults (answer_over a)
few_over (Ok a) = omega arith
few_over (Err code) = tt

pub few_statistics : (inputs : Values) → HasFewResults (statistics_answer inputs)
few_statistics inputs = few_over (numbers_in (value_at inputs 0))

few_both : (t : Result Tree Code) (m : Option ℤ) → HasFewResults (both t m)
few_both (Ok t) m = omega arith
few_both (Err code) m = tt

few_by_bins : (vs : List ℤ) (b : Result Bins Code) → HasFewResults (by_bins vs b)
few_by_bins vs (Ok b) = few_both (histogram b vs) (median b vs)
few_by_bins vs (Err code) = tt

few_histogram_over : (a : Result ArrayData Code) (inputs : Values) → HasFewResults (histogram_over a inputs)
few_histogram_over (Ok a) inputs = few_by_bins (numbers a) (bins_asked (numbers a) inputs)
few_histogram_over (Err code) inputs = tt

pub few_histogram : (inputs : Values) → HasFewResults (histogram_answer inputs)
few_histogram inputs = few_histogram_over (numbers_in (value_at inputs 0)) inputs
