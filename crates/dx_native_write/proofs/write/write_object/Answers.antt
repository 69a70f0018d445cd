use Rattle.dx_native_write.proofs.ReadAgain.{read_again}
use Rattle.dx_native_write.proofs.write.write_object.Goals as goal

pub returns-clause-again : goal.returns-clause-again
returns-clause-again c = λ ints. read_again c.args.object.now c.size-size.ensures.lawful ints c.written.result c.written.ensures
