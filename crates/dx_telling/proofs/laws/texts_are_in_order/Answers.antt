use Rattle.dx_telling.proofs.Texts.{texts_of_append}
use Rattle.dx_telling.proofs.laws.texts_are_in_order.Goals as goal

pub returns : goal.returns
returns c = texts_of_append
