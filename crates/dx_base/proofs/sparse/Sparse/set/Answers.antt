use Rattle.std.proofs.Common.{◌≡◌, ◌∙◌, sym, ap, List, Option, Some, length, arith}
use Rattle.std.proofs.lemmas.List.{set_past}
use Rattle.std.specs.Prelude.{slice_set}
use Rattle.std.specs.Ordering.{nat_cmp}
use Rattle.std.specs.BTreeMap.{get}
use Rattle.dx_base.proofs.AtPlaces.{set_updates, length_places}
use Rattle.dx_base.proofs.sparse.Sparse.set.Goals as goal

pub returns-clause-ok : goal.returns-clause-ok
returns-clause-ok g c =
    set_updates c.self.inside.filled c.insert.new.self c.args.value c.self.inside.count c.args.place c.in_ok-insert.ensures.updates
    ∙ ap (λ (xs : List (Option g.row.T.Denot)). slice_set xs c.args.place (Some c.args.value)) c.self.view_is

pub returns-then-place-self-clause-ok : goal.returns-then-place-self-clause-ok
returns-then-place-self-clause-ok g c =
    let l : length (c.args.self.now) ≡ c.self.inside.count = ap length (sym c.self.view_is) ∙ length_places (get nat_cmp c.self.inside.filled) 0 c.self.inside.count in
    sym (set_past c.args.self.now c.args.place (Some c.args.value) (omega (arith, l)))
