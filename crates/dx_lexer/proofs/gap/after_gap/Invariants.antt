use Rattle.std.proofs.Common.{◌≡◌, ◌==◌, false, length}
use Rattle.dx_base.specs.Tokens.Places.{IsWithin}
use Rattle.dx_base.specs.Tokens.Reading.{after_gap}
use Rattle.dx_lexer.proofs.gap.after_gap.Given as goal

abbrev pub invariant-loop-rest : goal.invariant-loop-rest
invariant-loop-rest l = record {
  same : after_gap l.fresh l.passing l.place l.rest ≡ after_gap (l.fn.at.offset == 0) false l.fn.at l.fn.text;
  within : IsWithin l.place (length l.rest);
}

abbrev pub decreases-loop-rest : goal.decreases-loop-rest
decreases-loop-rest l = length l.rest
