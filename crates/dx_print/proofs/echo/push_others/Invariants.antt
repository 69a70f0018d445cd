use Rattle.std.proofs.Common.{◌≡◌, ◌++◌, drop, map}
use Rattle.dx_objects.specs.Values.{values_of}
use Rattle.dx_base.specs.Words.{behind}
use Rattle.dx_print.specs.Echoed.{value_word}
use Rattle.dx_print.proofs.echo.push_others.Given as goal

abbrev pub invariant-loop-value : goal.invariant-loop-value
invariant-loop-value l =
    l.out.items ++ behind (map value_word (values_of (drop l.value-index l.values))) ≡ l.initial.out.items ++ behind (map value_word (values_of l.values))
