use Rattle.std.proofs.Common.{◌≡◌, ◌++◌}
use Rattle.dx_telling.proofs.LinkTexts.{links_from}
use Rattle.dx_telling.proofs.links.push_each.Given as goal

-- what is there, and the links from here on, are the whole
abbrev pub invariant-loop-i : goal.invariant-loop-i
invariant-loop-i l = l.out.items ++ links_from l.links.links l.i ≡ l.initial.out.items ++ links_from l.links.links 0
