use Rattle.std.proofs.lemmas.Grind.{common_steps}
use Rattle.std.proofs.Common.{◌≡◌, arith}
use Rattle.std.specs.Prelude.{Some}
use Rattle.dx_arrays.specs.Classes.{plain_of}
use Rattle.dx_arrays.proofs.Blocks.{plain_run}
use Rattle.dx_arrays.proofs.array.Array.push_items.Goals as goal

pub returns-in-Some-Wide-clause-ok : goal.returns-in-Some-Wide-clause-ok
returns-in-Some-Wide-clause-ok c =
    let class : plain_of c.args.self.now.class ≡ Some c.in-Some-Wide.values.now = rw c.in-Some-Wide.field-0-is at c.in-Some-Wide.ensures in
    let run = plain_run c.args.self.now c.in-Some-Wide.values.now c.args.from c.args.to c.width-width.result c.width-width.ensures.lawful class c.width-width.ensures.width c.requires.order c.requires.within in
    let grown = rw run at c.extend_from_slice.ensures.items in
    grind (arith, common_steps, grown)

pub returns-in-Some-Ints-clause-ok : goal.returns-in-Some-Ints-clause-ok
returns-in-Some-Ints-clause-ok c =
    let class : plain_of c.args.self.now.class ≡ Some c.in-Some-Ints.values.now = rw c.in-Some-Ints.field-0-is at c.in-Some-Ints.ensures in
    let run = plain_run c.args.self.now c.in-Some-Ints.values.now c.args.from c.args.to c.width-width.result c.width-width.ensures.lawful class c.width-width.ensures.width c.requires.order c.requires.within in
    rw run at c.push_ints.ensures.ok
