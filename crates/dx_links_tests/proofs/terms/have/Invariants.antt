use Rattle.dx_tags.specs.Closed.{AllFormed}
use Rattle.dx_links_tests.proofs.terms.have.Given as goal

abbrev pub invariant-loop-row : goal.invariant-loop-row
invariant-loop-row l = AllFormed l.tags
