use Rattle.std.proofs.Common.{◌≡◌, ◌≤◌, length}
use Rattle.dx_ast.specs.Values.{list_of}
use Rattle.dx_script_grammar.specs.Reading.{more_elements}
use Rattle.dx_cursor.proofs.constants.elements.Given as goal

abbrev pub invariant-each : goal.invariant-each
invariant-each l = record {
  same : more_elements (1, list_of l.fn.first) l.fn.cursor ≡ more_elements (l.count, l.list) l.cursor;
  within : l.count ≤ 65536;
}

abbrev pub decreases-each : goal.decreases-each
decreases-each l = length l.cursor.tokens
