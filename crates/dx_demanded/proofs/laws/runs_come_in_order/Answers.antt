use Rattle.dx_demanded.proofs.Performed.{selectors_in_order, terms_in_order, arguments_in_order, executions_in_order}
use Rattle.dx_demanded.proofs.laws.runs_come_in_order.Goals as goal

pub returns-clause-selectors : goal.returns-clause-selectors
returns-clause-selectors c = selectors_in_order

pub returns-clause-terms : goal.returns-clause-terms
returns-clause-terms c = terms_in_order

pub returns-clause-arguments : goal.returns-clause-arguments
returns-clause-arguments c = arguments_in_order

pub returns-clause-executions : goal.returns-clause-executions
returns-clause-executions c = executions_in_order
