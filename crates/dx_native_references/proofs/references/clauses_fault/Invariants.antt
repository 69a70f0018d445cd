use Rattle.std.proofs.Common.{◌≡◌, drop}
use Rattle.dx_native_grammar.specs.Meaning as spec
use Rattle.dx_native_references.proofs.references.clauses_fault.Given as goal

abbrev pub invariant-loop-clause : goal.invariant-loop-clause
invariant-loop-clause l = spec.earlier l.found (spec.clauses_fault l.clauses (drop l.clause-index l.rest)) ≡ spec.clauses_fault l.clauses l.rest
