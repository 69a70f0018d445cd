use Rattle.std.proofs.Common.{refl}
use Rattle.dx_macros.proofs.Pushes.{last_waits}
use Rattle.dx_macros.proofs.machine.leave.Goals as goal

pub returns-in-Some : goal.returns-in-Some
returns-in-Some c = record {
  jobs = refl;
  stack = last_waits c.args.m.now.waiting.items c.pop.new.self.items c.args.m.now.active c.in-Some.text c.in-Some.ensures.items;
  calls = refl;
  read = refl;
}
