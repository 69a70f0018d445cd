use Rattle.std.proofs.Common.{arith}
use Rattle.std.proofs.lemmas.Int.{ints}
use Rattle.dx_compute.proofs.ranges.Reach.and.Goals as goal

pub returns-then-self-clause-own : goal.returns-then-self-clause-own
returns-then-self-clause-own c = λ v h. record { low = omega (arith, ints); high = omega (arith, ints); zero = h.zero }

pub returns-then-self-clause-other : goal.returns-then-self-clause-other
returns-then-self-clause-other c = λ v h. record { low = omega (arith, ints); high = omega (arith, ints); zero = λ is. c.if-self.true }

pub returns-else-self-clause-own : goal.returns-else-self-clause-own
returns-else-self-clause-own c = λ v h. record { low = omega (arith, ints); high = omega (arith, ints); zero = λ is. absurd (let k = h.zero is in let g = c.if-self.false in cc) }

pub returns-else-self-clause-other : goal.returns-else-self-clause-other
returns-else-self-clause-other c = λ v h. record { low = omega (arith, ints); high = omega (arith, ints); zero = h.zero }
