use Rattle.dx_macros.proofs.BudgetLaw.{budget_suffices}
use Rattle.dx_macros.proofs.budget.no_budget_runs_out.Goals as goal

pub returns : goal.returns
returns c = budget_suffices
