use Rattle.std.proofs.Common.{◌≡◌}
use Rattle.dx_macros.specs.Bound.{bound_of}
use Rattle.dx_macros.specs.DictionaryView.{dictionary_of}
use Rattle.dx_macros.specs.MachineView.{means}
use Rattle.dx_macros.specs.Weight.{weight, IsFit}
use Rattle.dx_macros.proofs.check.run.Given as goal

abbrev pub invariant-loop-m : goal.invariant-loop-m
invariant-loop-m l = record {
  same : means (dictionary_of l.d) l.m ≡ means (dictionary_of l.d) l.initial.m;
  fit : IsFit (dictionary_of l.d) l.m;
}

abbrev pub decreases-loop-m : goal.decreases-loop-m
decreases-loop-m l = weight (bound_of l.d) l.m
