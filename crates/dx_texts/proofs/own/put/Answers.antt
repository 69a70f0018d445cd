use Rattle.std.proofs.Common.{Some}
use Rattle.dx_base.proofs.NameTables.{under_changed}
use Rattle.dx_texts.proofs.own.put.Goals as goal

pub returns : goal.returns
returns c = under_changed c.args.own.now c.insert.new.self c.args.name.now (Some c.args.o) c.in_ok-key.key c.in_ok-key.ensures.items c.in_ok-insert.ensures.updates
