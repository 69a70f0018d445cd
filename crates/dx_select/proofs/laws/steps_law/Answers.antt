use Rattle.dx_select.proofs.StepLaws.{select_steps, extract_steps, replace_steps, mark_steps, unmark_steps, collect_steps, collect_named_steps, collect_series_steps}
use Rattle.dx_select.proofs.laws.steps_law.Goals as goal

pub returns-clause-select : goal.returns-clause-select
returns-clause-select c = select_steps

pub returns-clause-extract : goal.returns-clause-extract
returns-clause-extract c = extract_steps

pub returns-clause-replace : goal.returns-clause-replace
returns-clause-replace c = replace_steps

pub returns-clause-mark : goal.returns-clause-mark
returns-clause-mark c = mark_steps

pub returns-clause-unmark : goal.returns-clause-unmark
returns-clause-unmark c = unmark_steps

pub returns-clause-collect : goal.returns-clause-collect
returns-clause-collect c = collect_steps

pub returns-clause-collect_named : goal.returns-clause-collect_named
returns-clause-collect_named c = collect_named_steps

pub returns-clause-collect_series : goal.returns-clause-collect_series
returns-clause-collect_series c = collect_series_steps
