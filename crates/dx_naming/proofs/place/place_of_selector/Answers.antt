use Rattle.std.proofs.Common.{◌∙◌, sym, ap}
use Rattle.dx_meaning.specs.Picking.{selector_at}
use Rattle.dx_naming.proofs.Places.{module_place}
use Rattle.dx_naming.proofs.place.place_of_selector.Goals as goal

pub returns-in-Module : goal.returns-in-Module
returns-in-Module c = sym (ap selector_at c.in-Module.is ∙ module_place c.in-Module.field-0)
