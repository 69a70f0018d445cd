use Rattle.std.proofs.Common.{Some, ap, sym, ◌∙◌}
use Rattle.dx_tags.proofs.SameTerm.{same_term, one_place}
use Rattle.dx_tags.proofs.formed.Formed.insert.Goals as goal

pub returns-clause-named : goal.returns-clause-named
returns-clause-named c = let s = c.in_ok-index.ensures.stored in s.1 ∙ ap Some (sym (same_term c.args.t s.0 s.2))

pub returns-clause-exact : goal.returns-clause-exact
returns-clause-exact c = λ other at. one_place c.insert_full.new.self.keys other c.in_ok-index.index c.args.t c.in_ok-index.ensures.unique at (returns-clause-named c)
