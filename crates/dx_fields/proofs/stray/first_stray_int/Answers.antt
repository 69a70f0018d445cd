use Rattle.std.proofs.Common.{◌≡◌, ◌*◌, length, pos, true, false, sym, ◌∙◌, arith, rules, FitsSigned, w32, w64}
use Rattle.std.proofs.lemmas.Int.{to_z-of_z}
use Rattle.std.specs.Prelude.{slice_index_or}
use Rattle.dx_base.specs.Array.{items, width}
use Rattle.dx_fields.specs.Stray.{names_item, value_number}
use Rattle.dx_fields.proofs.StrayLaws.{passed, found, ended, stored_count, stored_value}
use Rattle.dx_fields.proofs.stray.first_stray_int.Goals as goal

pub returns-then-not-names_item : goal.returns-then-not-names_item
returns-then-not-names_item c =
    let a = c.args.array.now in
    let i = c.loop-number.number in
    let count : items a * width a ≡ length c.args.values.now = stored_count a c.args.values.now c.items-items.ensures.lawful c.requires in
    let read : value_number a i ≡ slice_index_or c.args.values.now i (pos 0) = stored_value a c.args.values.now i c.requires in
    let f : FitsSigned w32 (slice_index_or c.args.values.now i (pos 0)) = search rules in
    let told : c.names_item.result ≡ names_item c.args.items (slice_index_or c.args.values.now i (pos 0)) = rw (to_z-of_z w64 c.from.result (record { sfits = c.from.type_inv }), c.from.ensures, to_z-of_z w32 _ f) at c.names_item.ensures in
    let said : c.names_item.result ≡ false = grind (arith, c.if-not-names_item.true) in
    let no : names_item c.args.items (value_number a i) ≡ false = rw read (sym told ∙ said) in
    found a c.args.items i (items a * width a) _ (omega (arith, count, c.loop-number-test.true)) c.loop-number.invariant no

pub loop-number-preserved : goal.loop-number-preserved
loop-number-preserved c =
    let a = c.args.array.now in
    let i = c.loop-number.number in
    let count : items a * width a ≡ length c.args.values.now = stored_count a c.args.values.now c.items-items.ensures.lawful c.requires in
    let read : value_number a i ≡ slice_index_or c.args.values.now i (pos 0) = stored_value a c.args.values.now i c.requires in
    let f : FitsSigned w32 (slice_index_or c.args.values.now i (pos 0)) = search rules in
    let told : c.names_item.result ≡ names_item c.args.items (slice_index_or c.args.values.now i (pos 0)) = rw (to_z-of_z w64 c.from.result (record { sfits = c.from.type_inv }), c.from.ensures, to_z-of_z w32 _ f) at c.names_item.ensures in
    let said : c.names_item.result ≡ true = grind (arith, c.if-not-names_item.false) in
    let yes : names_item c.args.items (value_number a i) ≡ true = rw read (sym told ∙ said) in
    passed a c.args.items i (items a * width a) _ (omega (arith, count, c.loop-number-test.true)) c.loop-number.invariant yes

pub returns : goal.returns
returns c =
    let a = c.args.array.now in
    let count : items a * width a ≡ length c.args.values.now = stored_count a c.args.values.now c.items-items.ensures.lawful c.requires in
    ended a c.args.items c.loop-number.number (items a * width a) _ (omega (arith, count, c.loop-number-test.false)) c.loop-number.invariant
