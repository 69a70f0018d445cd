use Rattle.std.proofs.Common.{sym, subst}
use Rattle.dx_compute_meaning.specs.Shown.{IsFound}
use Rattle.dx_compute_meaning.proofs.Making.{none_large}
use Rattle.dx_compute.proofs.place.in_field.Goals as goal

pub returns-in-None : goal.returns-in-None
returns-in-None c = λ there h.
    none_large c.args.items c.args.whole.now c.in-Some.before.now there c.requires (sym c.in-Some.ensures) (sym c.if-not-has_items.ensures) (subst (λ o. IsFound there o) c.in-None.is h)
