use Rattle.std.proofs.Common.{◌≡◌, ◌<◌, ◌≤◌, min, sym, ◌∙◌, ap, arith}
use Rattle.std.proofs.lemmas.Bool.{leb-true}
use Rattle.dx_base.specs.Array.{product, counts_of}
use Rattle.dx_arrays.specs.Classes.{kind_of}
use Rattle.dx_arrays.specs.declared.array.ArrayClass.TheVariants.{GridConnections}
use Rattle.dx_fields.proofs.CellLaws.{joined}
use Rattle.dx_fields.proofs.stray.joins_few.Goals as goal

pub returns-then-items-lt18446744073709551615 : goal.returns-then-items-lt18446744073709551615
returns-then-items-lt18446744073709551615 c = λ h.
    let a = c.args.array.now in
    let kind : kind_of a.class ≡ GridConnections = sym c.class.ensures ∙ c.in-GridConnections.is in
    let counted : c.point_count.result ≡ min (product (counts_of a.class)) 18446744073709551615 = c.point_count.ensures ∙ ap (λ cs. min (product cs) 18446744073709551615) c.counts.ensures in
    let le : c.point_count.result ≤ c.args.items = leb-true c.point_count.result c.args.items h in
    let few : min (product (counts_of a.class)) 18446744073709551615 ≤ c.args.items = rw counted at le in
    let below : c.args.items < 18446744073709551615 = omega (arith, c.if-items-lt18446744073709551615.true) in
    joined a c.args.items c.items-items.ensures.lawful kind few below
