use Rattle.dx_meaning.proofs.FormsStaying.{forms_once}
use Rattle.dx_meaning.proofs.laws.forms_once.Goals as goal

pub returns : goal.returns
returns c = forms_once
