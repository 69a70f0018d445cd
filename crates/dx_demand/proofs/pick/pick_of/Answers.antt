use Rattle.dx_demand.proofs.pick.pick_of.Goals as goal

pub returns-in-Switch-clause-fits : goal.returns-in-Switch-clause-fits
returns-in-Switch-clause-fits c = λ terms links. c.switch_pick.ensures.fits terms

pub returns-in-Route-clause-fits : goal.returns-in-Route-clause-fits
returns-in-Route-clause-fits c = λ terms links. c.route_pick.ensures.fits terms

pub returns-in-Switch-clause-linked : goal.returns-in-Switch-clause-linked
returns-in-Switch-clause-linked c = c.switch_pick.ensures.linked c.args.links.now.links

pub returns-in-Route-clause-linked : goal.returns-in-Route-clause-linked
returns-in-Route-clause-linked c = c.route_pick.ensures.linked c.args.links.now.links
