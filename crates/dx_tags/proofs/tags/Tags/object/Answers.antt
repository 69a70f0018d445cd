use Rattle.std.proofs.Common.{subst}
use Rattle.std.proofs.lemmas.Option.{IfSome_then}
use Rattle.dx_tags.specs.Made.{IsMade}
use Rattle.dx_tags.proofs.NamedLaws.{made_behind}
use Rattle.dx_tags.proofs.tags.Tags.object.Goals as goal

pub returns-else-tag-self : goal.returns-else-tag-self
returns-else-tag-self c = record {
  made = IfSome_then c.object.result c.object.ensures.made (λ o m. subst (λ ts. IsMade ts c.args.tag o.now.value) c.self.view_is (made_behind c.self.inside.held c.self.inside.formed c.args.tag o.now.value c.if-tag-self.false m));
}
