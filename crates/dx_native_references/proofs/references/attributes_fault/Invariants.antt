use Rattle.std.proofs.Common.{◌≡◌, drop}
use Rattle.dx_native_grammar.specs.Meaning as spec
use Rattle.dx_native_references.proofs.references.attributes_fault.Given as goal

abbrev pub invariant-loop-attribute : goal.invariant-loop-attribute
invariant-loop-attribute l = spec.earlier l.found (spec.attributes_fault l.clauses (drop l.attribute-index l.attributes)) ≡ spec.attributes_fault l.clauses l.attributes
