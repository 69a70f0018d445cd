use Rattle.std.proofs.Common.{◌∙◌, sym, ap, Some, option_map}
use Rattle.std.specs.Option.{option_copied}
use Rattle.dx_base.specs.Object.{Tree}
use Rattle.dx_objects.specs.Values.{value_of}
use Rattle.dx_tags.specs.contracts.term.ValueTagPartialEq.TheImpl as tags
use Rattle.dx_looking.proofs.ToldLaws.{Kept, found_so}
use Rattle.dx_looking.proofs.told.ToldValuesGiven.value.Goals as goal

pub returns-in-None : goal.returns-in-None
returns-in-None c =
    ap (λ r. option_map value_of (option_copied r)) (sym c.in-None.is)
    ∙ found_so (tags.ghosts.eq c.args.t) c.self.inside.table.entries c.args.self.now (option_copied c.get.result) c.self.view_is c.get.ensures.value

pub returns-in-Some-None : goal.returns-in-Some-None
returns-in-Some-None c =
    sym (ap (λ (v : Kept). Some (value_of v)) c.in-Some-None.field-0-is)
    ∙ ap (λ r. option_map value_of (option_copied r)) (sym c.in-Some-None.is)
    ∙ found_so (tags.ghosts.eq c.args.t) c.self.inside.table.entries c.args.self.now (option_copied c.get.result) c.self.view_is c.get.ensures.value

pub returns-in-Some-Some : goal.returns-in-Some-Some
returns-in-Some-Some c =
    ap (λ (x : Tree). Some (Some x)) c.deref.ensures
    ∙ sym (ap (λ (v : Kept). Some (value_of v)) c.in-Some-Some.field-0-is)
    ∙ ap (λ r. option_map value_of (option_copied r)) (sym c.in-Some-Some.is)
    ∙ found_so (tags.ghosts.eq c.args.t) c.self.inside.table.entries c.args.self.now (option_copied c.get.result) c.self.view_is c.get.ensures.value
