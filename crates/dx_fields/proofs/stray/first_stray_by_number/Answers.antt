use Rattle.std.proofs.Common.{◌≡◌, true, false, sym, ◌∙◌, arith, rules, FitsSigned, w64}
use Rattle.std.proofs.lemmas.Int.{to_z-of_z}
use Rattle.dx_fields.specs.Stray.{names_item, value_number}
use Rattle.dx_fields.proofs.StrayLaws.{passed, found}
use Rattle.dx_fields.proofs.stray.first_stray_by_number.Goals as goal

pub returns-then-not-names_item : goal.returns-then-not-names_item
returns-then-not-names_item c =
    let a = c.args.array.now in
    let i = c.loop-i.i in
    let w = c.width-width.ensures.width in
    let read : c.value.result ≡ value_number a i = rw w at c.value.ensures in
    let f : FitsSigned w64 c.value.result = search rules in
    let told : c.names_item.result ≡ names_item c.args.items c.value.result = rw (to_z-of_z w64 _ f) at c.names_item.ensures in
    let said : c.names_item.result ≡ false = grind (arith, c.if-not-names_item.true) in
    let no : names_item c.args.items (value_number a i) ≡ false = rw (← read) (sym told ∙ said) in
    found a c.args.items i _ _ c.loop-i-test.true c.loop-i.invariant no

pub loop-i-preserved : goal.loop-i-preserved
loop-i-preserved c =
    let a = c.args.array.now in
    let i = c.loop-i.i in
    let w = c.width-width.ensures.width in
    let read : c.value.result ≡ value_number a i = rw w at c.value.ensures in
    let f : FitsSigned w64 c.value.result = search rules in
    let told : c.names_item.result ≡ names_item c.args.items c.value.result = rw (to_z-of_z w64 _ f) at c.names_item.ensures in
    let said : c.names_item.result ≡ true = grind (arith, c.if-not-names_item.false) in
    let yes : names_item c.args.items (value_number a i) ≡ true = rw (← read) (sym told ∙ said) in
    passed a c.args.items i _ _ c.loop-i-test.true c.loop-i.invariant yes
