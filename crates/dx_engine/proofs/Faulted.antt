-- Counts of faults, over calls one behind the other.
use Rattle.std.proofs.Common.{◌≡◌, ℕ, Result, Ok, sym, ◌∙◌}
use Rattle.dx_io.specs.Devices.{Cause}

-- a call that went well had none
pub none_failed : {T E : Type 0} (fault : E) (before now : ℕ) (r : Result T E) (v : T) → r ≡ Ok v → Cause fault before now r → now ≡ before
none_failed fault before now r v is cause = cause.otherwise (λ e. absurd (cc (sym is ∙ e)))
