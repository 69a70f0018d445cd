use Rattle.std.proofs.Common.{◌≡◌}
use Rattle.dx_macros.specs.DictionaryView.{dictionary_of}
use Rattle.dx_checked.specs.Known.{IsKnown}
use Rattle.dx_checked.proofs.known.more_known.Given as goal

-- all definitions before this one are known
abbrev pub invariant-loop-i : goal.invariant-loop-i
invariant-loop-i l = record {
  so_far : l.known.definitions ≡ l.i;
  known : IsKnown (dictionary_of l.d) l.known;
}
