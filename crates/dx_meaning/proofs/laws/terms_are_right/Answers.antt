use Rattle.dx_meaning.proofs.Terms.{term_is_right}
use Rattle.dx_meaning.proofs.laws.terms_are_right.Goals as goal

pub returns : goal.returns
returns c = term_is_right
