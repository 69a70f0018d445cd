use Rattle.std.proofs.Common.{rules, ◌≡◌, ℤ, true, arith, ap, ◌∙◌}
use Rattle.std.specs.Prelude.{Some}
use Rattle.dx_base.specs.Elem.{in_range}
use Rattle.dx_arrays.specs.Classes.{plain_of}
use Rattle.dx_expr.specs.Value.{is_int}
use Rattle.dx_compute.proofs.Tables.{are_ints, are_rows}
use Rattle.dx_compute.proofs.source.table_of.Goals as goal

pub returns-then-items-eq1 : goal.returns-then-items-eq1
returns-then-items-eq1 c =
    let yes : c.has_ints.result ≡ true = search rules in
    let ints : (v : ℤ) → in_range c.args.array.now.elem v ≡ true → is_int v ≡ true = λ v h. c.has_ints.ensures yes v (ap (λ t. in_range t v) c.elem.ensures ∙ h) in
    are_ints c.args.array.now c.args.items c.items.ensures.lawful c.requires.alike ints

pub returns-in-Some-Ints : goal.returns-in-Some-Ints
returns-in-Some-Ints c =
    let yes : c.has_ints.result ≡ true = search rules in
    let ints : (v : ℤ) → in_range c.args.array.now.elem v ≡ true → is_int v ≡ true = λ v h. c.has_ints.ensures yes v (ap (λ t. in_range t v) c.elem.ensures ∙ h) in
    let stands : plain_of c.args.array.now.class ≡ Some c.in-Some-Ints.values.now = rw c.in-Some-Ints.field-0-is at c.in-Some-Ints.ensures in (
      are_ints c.args.array.now c.args.items c.items.ensures.lawful c.requires.alike ints,
      are_rows c.args.array.now c.args.items c.in-Some-Ints.values.now c.width-width.result c.requires.alike (λ e. absurd (omega (arith, c.if-items-eq1.false, c.items.ensures.items, e))) stands c.width-width.ensures.width,
    )

pub returns-in-Some-Wide : goal.returns-in-Some-Wide
returns-in-Some-Wide c =
    let yes : c.has_ints.result ≡ true = search rules in
    let ints : (v : ℤ) → in_range c.args.array.now.elem v ≡ true → is_int v ≡ true = λ v h. c.has_ints.ensures yes v (ap (λ t. in_range t v) c.elem.ensures ∙ h) in
    let stands : plain_of c.args.array.now.class ≡ Some c.in-Some-Wide.values.now = rw c.in-Some-Wide.field-0-is at c.in-Some-Wide.ensures in (
      are_ints c.args.array.now c.args.items c.items.ensures.lawful c.requires.alike ints,
      are_rows c.args.array.now c.args.items c.in-Some-Wide.values.now c.width-width.result c.requires.alike (λ e. absurd (omega (arith, c.if-items-eq1.false, c.items.ensures.items, e))) stands c.width-width.ensures.width,
    )

pub returns-in-None : goal.returns-in-None
returns-in-None c =
    let yes : c.has_ints.result ≡ true = search rules in
    let ints : (v : ℤ) → in_range c.args.array.now.elem v ≡ true → is_int v ≡ true = λ v h. c.has_ints.ensures yes v (ap (λ t. in_range t v) c.elem.ensures ∙ h) in
    are_ints c.args.array.now c.args.items c.items.ensures.lawful c.requires.alike ints
