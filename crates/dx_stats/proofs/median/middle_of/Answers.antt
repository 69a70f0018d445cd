use Rattle.std.proofs.Common.{FitsSigned, w64, rules, sym, ap, ◌∙◌}
use Rattle.std.specs.Prelude.{Some}
use Rattle.std.proofs.lemmas.Int.{to_z-of_z}
use Rattle.dx_stats.proofs.MedianLaws.{middle_is}
use Rattle.dx_stats.proofs.median.middle_of.Goals as goal

pub returns : goal.returns
returns c =
    let found = c.select_nth_unstable-middle.ensures in
    let parts = c.select_nth_unstable-middle.result in
    let fits : FitsSigned w64 parts.1.now = search rules in
    ap Some (to_z-of_z w64 parts.1.now fits) ∙ sym (middle_is c.args.numbers.now parts.0.now parts.2.now parts.1.now found.permutation found.front_len found.partitioned)
