use Rattle.dx_demand_tests.proofs.looking.look_all.Goals as goal

pub inputs-init : goal.inputs-init
inputs-init c = record { linked = c.requires.linked; seen = c.in_ok-seen.ensures.fits c.args.tags.now }
