use Rattle.std.proofs.Common.{◌∙◌, sym}
use Rattle.dx_graph.specs.Operands.{GivenFits}
use Rattle.dx_graph.proofs.Arguments.{by_place_some, by_place_none, all_at}
use Rattle.dx_graph.proofs.given.given_by_place.Goals as goal

pub returns-in-Some-clause-tree : goal.returns-in-Some-clause-tree
returns-in-Some-clause-tree c = λ nodes.
    c.unnamed.ensures.tree nodes ∙ sym (by_place_some nodes c.args.given.now c.args.i c.in-Some.g.now c.in-Some.ensures.lookup.3.0 c.in-Some.ensures.lookup.1)

pub returns-in-Some-clause-fits : goal.returns-in-Some-clause-fits
returns-in-Some-clause-fits c = λ nodes all.
    c.unnamed.ensures.fits nodes (all_at (GivenFits nodes) c.args.given.now c.args.i c.in-Some.g.now c.in-Some.ensures.lookup.3.0 c.in-Some.ensures.lookup.1 all)

pub returns-in-None-clause-tree : goal.returns-in-None-clause-tree
returns-in-None-clause-tree c = λ nodes. sym (by_place_none nodes c.args.given.now c.args.i c.in-None.ensures.lookup.3)
