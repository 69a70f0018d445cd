use Rattle.std.proofs.Common.{rules, FitsSigned, w64}
use Rattle.std.proofs.lemmas.Int.{to_z-of_z}
use Rattle.dx_print.proofs.item_lines.push_value.Goals as goal

pub returns : goal.returns
returns c =
    let fits : FitsSigned w64 c.value.result = search rules in
    rw (to_z-of_z w64 c.value.result fits, c.value.ensures) at c.push_number.ensures
