-- What the count of a device's faults is behind calls one behind the other.
use Rattle.std.proofs.Common.{◌≡◌, ℕ, Result, Ok, Err, subst, sym, ap}
use Rattle.dx_io.specs.Devices.{Cause}

abbrev IsErr : {T E : Type 0} → Result T E → Type 0
IsErr (Ok v) = ⊥
IsErr (Err e) = Unit {0}

abbrev error_or : {T E : Type 0} → E → Result T E → E
error_or other (Ok v) = other
error_or other (Err e) = e

-- what ends well is no fault
pub no_fault : {T E : Type 0} (fault : E) (v : T) → ¬ (Ok v ≡ Err fault)
no_fault fault v e = subst IsErr (sym e) tt

-- and so a call that ends well leaves the count
pub well : {T E : Type 0} {fault : E} {before now : ℕ} {v : T} → Cause fault before now (Ok v) → now ≡ before
well {T} {E} {fault} {before} {now} {v} cause = cause.otherwise (no_fault fault v)

-- the same error of a call that answers something else where it ends well
pub passed_on : {S T E : Type 0} {fault e : E} {before now : ℕ} → Cause {T = S} fault before now (Err e) → Cause {T = T} fault before now (Err e)
passed_on {S} {T} {E} {fault} {e} {before} {now} cause = record {
  later = cause.later;
  failed = λ same. cause.failed (ap (λ (r : Result T E). Err (error_or e r)) same);
  otherwise = λ other. cause.otherwise (λ same. other (ap (λ (r : Result S E). Err (error_or e r)) same));
}

-- a call behind others that left the count
pub behind : {T E : Type 0} {fault : E} {before mid now : ℕ} {r : Result T E} → mid ≡ before → Cause fault mid now r → Cause fault before now r
behind {T} {E} {fault} {before} {mid} {now} {r} left cause = subst (λ (n : ℕ). Cause fault n now r) left cause
