use Rattle.std.proofs.Common.{rules, sym, subst, arith}
use Rattle.dx_links.specs.LinkMap.{LinkMap}
use Rattle.dx_getting.specs.Bound.{IsBound}
use Rattle.dx_ending.proofs.CountLaws.{first_bound}
use Rattle.dx_engine.proofs.state.State.new.Goals as goal

pub returns-clause-fits : goal.returns-clause-fits
returns-clause-fits c = record {
  exact = search rules;
  held = search rules;
  links = search rules;
  bound = subst (λ (links : LinkMap). IsBound links c.new-7.result) (sym c.new-6.ensures.links) (first_bound c.new-7.result c.new-7.ensures.pairs c.new-7.ensures.counts);
  below = λ k h. absurd (let none = c.new-7.ensures.from in omega (arith, none, h));
  entries = search rules;
}
