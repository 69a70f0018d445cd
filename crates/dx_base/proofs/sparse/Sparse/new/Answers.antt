use Rattle.std.proofs.Common.{ap, ℕ, List}
use Rattle.std.specs.Ordering.{nat_cmp}
use Rattle.std.specs.Map.{lookup}
use Rattle.std.specs.BTreeMap.{get, is_at}
use Rattle.dx_base.proofs.AtPlaces.{all_empty}
use Rattle.dx_base.proofs.sparse.Sparse.new.Goals as goal

pub returns : goal.returns
returns g c = all_empty (get nat_cmp c.new.result) 0 c.args.count (λ k. ap (λ (es : List (ℕ × g.row.T.Denot)). lookup (is_at (nat_cmp k)) es) c.new.ensures.empty)
