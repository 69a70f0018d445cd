use Rattle.std.proofs.Common.{◌≡◌, ◌+◌, ◌≤◌, [], false, length, cond}
use Rattle.dx_base.specs.Tokens.Reading.{text_from}
use Rattle.dx_lexer.proofs.quoted.inside.Given as goal

abbrev pub invariant-loop-rest : goal.invariant-loop-rest
invariant-loop-rest l = record {
  same : text_from l.found.items l.before l.escape l.rest ≡ text_from [] 0 false l.fn.text;
  within : l.before + cond l.escape 1 0 + length l.rest ≤ length l.fn.text;
}

abbrev pub decreases-loop-rest : goal.decreases-loop-rest
decreases-loop-rest l = length l.rest
