use Rattle.std.proofs.Common.{◌≡◌}
use Rattle.dx_cache.specs.Chain.{along}
use Rattle.dx_cache.proofs.chains.after_steps.Given as goal

abbrev pub invariant-loop : goal.invariant-loop
invariant-loop l = l.slot ≡ along l.links l.counter l.fn.first
