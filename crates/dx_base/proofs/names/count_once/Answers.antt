use Rattle.dx_base.proofs.NameCounts.{raised}
use Rattle.dx_base.proofs.names.count_once.Goals as goal

pub returns-clause-ok : goal.returns-clause-ok
returns-clause-ok c = raised c.args.table.now c.insert.new.self c.args.name.now c.times_in-times.result c.times_in-times.ensures c.in_ok-insert.ensures.updates
