use Rattle.std.proofs.Common.{◌≡◌, min, sym, ◌∙◌}
use Rattle.dx_base.specs.Array.{items}
use Rattle.dx_fields.proofs.StrayLaws.{constant_tells}
use Rattle.dx_fields.proofs.stray.telling_items.Goals as goal

pub returns-in-Constant-clause-tell : goal.returns-in-Constant-clause-tell
returns-in-Constant-clause-tell c = λ n.
    let a = c.args.array.now in
    let few : c.min.result ≡ min (items a) 1 = rw (← c.items-items.ensures.items) c.min.ensures in
    rw few (constant_tells a n (sym c.class.ensures ∙ c.in-Constant.is))
