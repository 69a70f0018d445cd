use Rattle.std.proofs.Common.{◌∙◌, sym, ap, List, Option, None}
use Rattle.std.specs.Prelude.{slice_index_or, is_some}
use Rattle.dx_base.proofs.AtPlaces.{seen_at}
use Rattle.dx_base.proofs.sparse.Sparse.places.Goals as goal

pub returns-clause-all : goal.returns-clause-all
returns-clause-all g c = λ place.
    sym (c.keys.ensures.has place)
    ∙ seen_at c.self.inside.count c.self.inside.filled place c.self.invariant
    ∙ ap (λ (xs : List (Option g.row.T.Denot)). is_some (slice_index_or xs place None)) c.self.view_is
