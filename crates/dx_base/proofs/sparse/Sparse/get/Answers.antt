use Rattle.std.proofs.Common.{◌∙◌, sym, ap, List, Option, None, arith}
use Rattle.std.specs.Prelude.{slice_index_or}
use Rattle.std.specs.Ordering.{nat_cmp}
use Rattle.std.specs.BTreeMap.{get}
use Rattle.dx_base.proofs.AtPlaces.{at_index, past_index}
use Rattle.dx_base.proofs.sparse.Sparse.get.Goals as goal

pub returns-then-place-self : goal.returns-then-place-self
returns-then-place-self g c =
    c.get.ensures.value
    ∙ sym (at_index (get nat_cmp c.self.inside.filled) 0 c.self.inside.count c.args.place c.args.place (omega arith) (omega arith))
    ∙ ap (λ (xs : List (Option g.row.T.Denot)). slice_index_or xs c.args.place None) c.self.view_is

pub returns-else-place-self : goal.returns-else-place-self
returns-else-place-self g c =
    sym (past_index (get nat_cmp c.self.inside.filled) 0 c.self.inside.count c.args.place (omega arith))
    ∙ ap (λ (xs : List (Option g.row.T.Denot)). slice_index_or xs c.args.place None) c.self.view_is
