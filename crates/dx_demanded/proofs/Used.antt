-- What a term needs is among the uses of its tree.
use Rattle.std.proofs.Common.{refl}
use Rattle.std.specs.Prelude.{option_map}
use Rattle.dx_base.specs.Object.{Tree as Object}
use Rattle.dx_links.specs.Denotes.{denotes}
use Rattle.dx_meaning.specs.Meaning.{World}
use Rattle.dx_meaning.specs.Scan.{Sight}
use Rattle.dx_meaning.specs.Term.{Names, around}
use Rattle.dx_performing.specs.Course.{value_or_none}
use Rattle.dx_performing.specs.Meant.{IsFull}
use Rattle.dx_demanded.specs.Used.{TermsUseDemand}
use Rattle.dx_demanded.proofs.Trees.{tree_needs}

-- all is seen
abbrev sight : World → Names → Sight
sight w n = record { linked = λ key. option_map (λ (o : Object). n.term key) (w.link key); written = w.written; told = λ t. value_or_none (denotes (around w n) t) }

seen : (w : World) (n : Names) → IsFull w n (sight w n)
seen w n = record { linked = λ key. refl; written = λ name. refl; told = λ t. refl }

pub terms_use_demand : TermsUseDemand
terms_use_demand w n links l t = (tree_needs w n (sight w n) links l (seen w n) t).used
