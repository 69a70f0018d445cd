use Rattle.dx_graph.proofs.Sites.{automatic_name_lawful}
use Rattle.dx_graph.proofs.law.automatic_names_are_lawful.Goals as goal

pub returns : goal.returns
returns c = automatic_name_lawful
