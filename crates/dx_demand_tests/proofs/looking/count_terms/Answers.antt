use Rattle.dx_demand_tests.proofs.looking.count_terms.Goals as goal

pub look-requires-clause-seen : goal.look-requires-clause-seen
look-requires-clause-seen c = c.in_ok-seen.ensures.fits c.args.tags.now
