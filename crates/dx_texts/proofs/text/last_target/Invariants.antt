use Rattle.std.proofs.Common.{◌≡◌, drop}
use Rattle.dx_texts.specs.Expanding.{last_target}
use Rattle.dx_texts.proofs.text.last_target.Given as goal

abbrev pub invariant-loop-i : goal.invariant-loop-i
invariant-loop-i l = last_target (drop l.i l.targets) l.i l.found l.name ≡ last_target l.targets 0 0 l.name
