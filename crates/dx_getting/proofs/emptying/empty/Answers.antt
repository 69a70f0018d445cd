use Rattle.std.proofs.Common.{◌∙◌, ap, sym, subst, length}
use Rattle.dx_tags.specs.HeldTerms.{held_terms}
use Rattle.dx_links.specs.LinkMap.{after}
use Rattle.dx_getting.specs.Stands.{AreExact}
use Rattle.dx_getting.proofs.EmptyLaws.{all_length, held_exact, links_right}
use Rattle.dx_getting.proofs.emptying.empty.Goals as goal

pub returns-clause-from : goal.returns-clause-from
returns-clause-from c =
    c.empty-3.ensures.from ∙ c.len-count.ensures ∙ ap length c.empty.ensures.links ∙ all_length (after c.args.links.now.links c.args.changes)

pub returns-clause-terms : goal.returns-clause-terms
returns-clause-terms c =
    c.empty-2.ensures ∙ ap held_terms (c.len-count.ensures ∙ ap length c.empty.ensures.links ∙ all_length (after c.args.links.now.links c.args.changes))

pub returns-clause-exact : goal.returns-clause-exact
returns-clause-exact c = subst AreExact (sym c.empty-2.ensures) (held_exact c.len-count.result)

pub returns-clause-denote : goal.returns-clause-denote
returns-clause-denote c = λ a h.
    links_right a (after c.args.links.now.links c.args.changes) c.empty.new.self.links c.empty-2.new.self c.empty.new.self.held c.empty.ensures.links c.empty.ensures.held (returns-clause-terms c) h
