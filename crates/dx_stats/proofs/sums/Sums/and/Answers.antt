use Rattle.std.proofs.Common.{◌*ℤ◌, FitsSigned, w64, ◌∙◌, arith, rules}
use Rattle.std.proofs.lemmas.Int.{ints, to_z-of_z}
use Rattle.dx_stats.proofs.Held.{square_up_to, held_next, plus_is}
use Rattle.dx_stats.proofs.sums.Sums.and.Goals as goal

pub returns-clause-next : goal.returns-clause-next
returns-clause-next c =
    let v = c.args.value in
    let low : FitsSigned w64 c.args.self.least = search rules in
    let high : FitsSigned w64 c.args.self.greatest = search rules in
    record {
      count = omega arith;
      total = omega (arith, ints);
      squares = plus_is c.args.self.squares (v *ℤ v) c.args.square c.requires.square c.requires.held.some (omega (arith, ints, c.requires.held.squares)) (square_up_to v c.requires.small);
      least = to_z-of_z w64 c.min.result (record { sfits = c.min.type_inv }) ∙ (rw (to_z-of_z w64 c.args.self.least low, to_z-of_z w64 v c.ranges.value) at c.min.ensures.value);
      greatest = to_z-of_z w64 c.max.result (record { sfits = c.max.type_inv }) ∙ (rw (to_z-of_z w64 c.args.self.greatest high, to_z-of_z w64 v c.ranges.value) at c.max.ensures.value);
    }

pub returns-clause-held : goal.returns-clause-held
returns-clause-held c = held_next c.args.self _ c.args.value c.requires.held c.requires.small c.requires.few (returns-clause-next c)
