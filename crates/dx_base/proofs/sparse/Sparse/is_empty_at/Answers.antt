use Rattle.std.proofs.Common.{◌≡◌, ◌∙◌, sym, ap, length, Bor, arith}
use Rattle.std.specs.Ordering.{nat_cmp}
use Rattle.std.specs.BTreeMap.{get}
use Rattle.dx_base.proofs.AtPlaces.{length_places, is_empty, isnt_empty}
use Rattle.dx_base.proofs.sparse.Sparse.is_empty_at.Goals as goal

pub returns-then-place-self : goal.returns-then-place-self
returns-then-place-self g c =
    let l : length (c.args.self.now) ≡ c.self.inside.count = ap length (sym c.self.view_is) ∙ length_places (get nat_cmp c.self.inside.filled) 0 c.self.inside.count in
    is_empty (λ (x : Bor g.row.T.Denot). x.now) c.args.self.now c.args.place c.get.result c.is_none.result c.get.ensures c.is_none.ensures (omega (arith, l))

pub returns-else-place-self : goal.returns-else-place-self
returns-else-place-self g c =
    let l : length (c.args.self.now) ≡ c.self.inside.count = ap length (sym c.self.view_is) ∙ length_places (get nat_cmp c.self.inside.filled) 0 c.self.inside.count in
    isnt_empty c.args.self.now c.args.place c.self.inside.count l (omega arith)
