-- What each module answers: as its own definition says.
use Rattle.std.specs.Prelude.{ℕ, List, Option}
use Rattle.dx_base.specs.declared.function.Module.{Module}
use Rattle.dx_base.specs.declared.function.Module.TheVariants as computing
use Rattle.dx_objects.specs.Runs.{Values, Answer}
use Rattle.dx_compute_meaning.specs.Compute as compute
use Rattle.dx_import.specs.Import.{import_answer}
use Rattle.dx_inquire.specs.Inquire.{inquire_answer}
use Rattle.dx_select.specs.Collect.{collect_answer, collect_named_answer, collect_series_answer}
use Rattle.dx_select.specs.Extract.{extract_answer}
use Rattle.dx_select.specs.Mark.{mark_answer, unmark_answer}
use Rattle.dx_select.specs.Replace.{replace_answer}
use Rattle.dx_select.specs.Select.{select_answer}
use Rattle.dx_slab.specs.Answer.{slab_answer}
use Rattle.dx_stats.specs.Histogram.{histogram_answer}
use Rattle.dx_stats.specs.Statistics.{statistics_answer}

abbrev pub answer_of : Module → Values → Option (List ℕ) → Answer
answer_of computing.Import inputs file = import_answer inputs file
answer_of computing.Select inputs file = select_answer inputs
answer_of computing.Extract inputs file = extract_answer inputs
answer_of computing.Replace inputs file = replace_answer inputs
answer_of computing.Mark inputs file = mark_answer inputs
answer_of computing.Unmark inputs file = unmark_answer inputs
answer_of computing.Slab inputs file = slab_answer inputs
answer_of computing.Compute inputs file = compute.answer inputs
answer_of computing.Statistics inputs file = statistics_answer inputs
answer_of computing.Histogram inputs file = histogram_answer inputs
answer_of computing.Collect inputs file = collect_answer inputs
answer_of computing.CollectNamed inputs file = collect_named_answer inputs
answer_of computing.CollectSeries inputs file = collect_series_answer inputs
answer_of computing.Inquire inputs file = inquire_answer inputs
