use Rattle.dx_meaning.proofs.FormsStaying.{forms_keep}
use Rattle.dx_meaning.proofs.laws.forms_stay.Goals as goal

pub returns : goal.returns
returns c = forms_keep
