use Rattle.std.proofs.Common.{Some, sym, ap, ◌∙◌}
use Rattle.dx_tags.proofs.SameTerm.{same_term}
use Rattle.dx_tags.proofs.made.names.Goals as goal

pub returns-in-Some : goal.returns-in-Some
returns-in-Some c = λ h. sym c.in-Some.ensures.key ∙ ap Some (same_term c.in-Some.named.now c.args.t.now (sym c.eq.ensures ∙ h))
