-- Each module keeps to origins and deltas that are ints, as its own crate has it.
use Rattle.dx_base.specs.declared.function.Module.TheVariants as computing
use Rattle.dx_steps.proofs.ValueLaws.{made_are_kept, kept_of_values}
use Rattle.dx_compute_laws.proofs.Steps.{answer_steps}
use Rattle.dx_compute_meaning.specs.Compute as compute
use Rattle.dx_import.specs.Import.{import_answer}
use Rattle.dx_import.proofs.StepLaws.{import_steps}
use Rattle.dx_inquire.specs.Inquire.{inquire_answer}
use Rattle.dx_inquire.proofs.StepLaws.{inquire_steps}
use Rattle.dx_select.specs.Collect.{collect_answer, collect_named_answer, collect_series_answer}
use Rattle.dx_select.specs.Extract.{extract_answer}
use Rattle.dx_select.specs.Mark.{mark_answer, unmark_answer}
use Rattle.dx_select.specs.Replace.{replace_answer}
use Rattle.dx_select.specs.Select.{select_answer}
use Rattle.dx_select.proofs.StepLaws.{select_steps, extract_steps, replace_steps, mark_steps, unmark_steps, collect_steps, collect_named_steps, collect_series_steps}
use Rattle.dx_slab.proofs.StepLaws.{slab_answer_steps}
use Rattle.dx_stats.specs.Histogram.{histogram_answer}
use Rattle.dx_stats.specs.Statistics.{statistics_answer}
use Rattle.dx_stats.proofs.StepLaws.{histogram_makes_steps, statistics_makes_steps}
use Rattle.dx_modules.specs.Steps.{ModulesKeepSteps}

pub modules_keep_steps : ModulesKeepSteps
modules_keep_steps computing.Import file = made_are_kept (λ inputs. import_answer inputs file) (import_steps file)
modules_keep_steps computing.Select file = kept_of_values select_answer select_steps
modules_keep_steps computing.Extract file = kept_of_values extract_answer extract_steps
modules_keep_steps computing.Replace file = kept_of_values replace_answer replace_steps
modules_keep_steps computing.Mark file = kept_of_values mark_answer mark_steps
modules_keep_steps computing.Unmark file = kept_of_values unmark_answer unmark_steps
modules_keep_steps computing.Slab file = slab_answer_steps
modules_keep_steps computing.Compute file = kept_of_values compute.answer answer_steps
modules_keep_steps computing.Statistics file = made_are_kept statistics_answer statistics_makes_steps
modules_keep_steps computing.Histogram file = made_are_kept histogram_answer histogram_makes_steps
modules_keep_steps computing.Collect file = kept_of_values collect_answer collect_steps
modules_keep_steps computing.CollectNamed file = kept_of_values collect_named_answer collect_named_steps
modules_keep_steps computing.CollectSeries file = kept_of_values collect_series_answer collect_series_steps
modules_keep_steps computing.Inquire file = made_are_kept inquire_answer inquire_steps
