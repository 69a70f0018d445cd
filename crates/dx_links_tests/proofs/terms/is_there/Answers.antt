use Rattle.dx_links_tests.proofs.Values.{call_fits}
use Rattle.dx_links_tests.proofs.terms.is_there.Goals as goal

pub returns-in-Formed-Call : goal.returns-in-Formed-Call
returns-in-Formed-Call c = λ yes. call_fits c.args.tags.now c.args.t _ _ _ c.requires.formed c.in-Formed-Call.ensures c.in-Formed-Call.field-0-is
