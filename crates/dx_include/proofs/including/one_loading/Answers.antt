use Rattle.std.proofs.Common.{sym, ◌∙◌}
use Rattle.dx_include.proofs.Loadings.{is_the_loading}
use Rattle.dx_include.proofs.including.one_loading.Goals as goal

pub returns : goal.returns
returns c = λ files name l m a b. is_the_loading files name l a ∙ sym (is_the_loading files name m b)
