use Rattle.std.proofs.Common.{◌≡◌, drop}
use Rattle.dx_native_grammar.specs.Meaning as spec
use Rattle.dx_native_references.proofs.references.parts_fault.Given as goal

abbrev pub invariant-loop-part : goal.invariant-loop-part
invariant-loop-part l = spec.earlier l.found (spec.parts_fault l.clauses l.class (drop l.part-index l.parts)) ≡ spec.parts_fault l.clauses l.class l.parts
