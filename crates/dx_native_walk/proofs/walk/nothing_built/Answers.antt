use Rattle.dx_native_walk.proofs.Keeping.{all_wait, if_known}
use Rattle.dx_native_walk.proofs.walk.nothing_built.Goals as goal

pub returns : goal.returns
returns c = λ cs e. if_known cs c.new.result _ (all_wait cs c.args.arrays.items e) c.new.ensures
