use Rattle.std.proofs.Common.{length, ap, sym, ◌∙◌, arith}
use Rattle.std.specs.Prelude.{slice_get}
use Rattle.dx_tags.proofs.HeldTerms.{before_at, behind_length}
use Rattle.dx_tags.proofs.NamedLaws.{at_behind}
use Rattle.dx_tags.proofs.tags.Tags.term.Goals as goal

pub term-requires : goal.term-requires
term-requires c = omega (arith, behind_length c.self.inside.held c.self.inside.formed, ap length c.self.view_is)

pub returns-then-tag-self : goal.returns-then-tag-self
returns-then-tag-self c = ap (λ ts. slice_get ts c.args.tag) (sym c.self.view_is) ∙ before_at c.self.inside.held c.self.inside.formed c.args.tag c.if-tag-self.true

pub returns-else-tag-self : goal.returns-else-tag-self
returns-else-tag-self c = ap (λ ts. slice_get ts c.args.tag) (sym c.self.view_is) ∙ at_behind c.self.inside.held c.self.inside.formed c.args.tag c.if-tag-self.false ∙ c.term.ensures
