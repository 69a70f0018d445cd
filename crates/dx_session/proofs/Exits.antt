-- What the status of the program says of how the call ended.
use Rattle.std.proofs.Common.{◌≡◌, ◌⊎◌, inl, inr, ℕ, Bool, true, false, refl, sym, ap, ◌∙◌, subst}
use Rattle.std.specs.Prelude.{Result, Ok, Err, IfOk, IsTrue}
use Rattle.std.specs.Bool.{MatchBool}
use Rattle.dx_engine.specs.Executing.{Devices}
use Rattle.dx_making.specs.declared.end.End.{End}
use Rattle.dx_making.specs.declared.end.End.TheVariants as end
use Rattle.dx_outcome.specs.Ends.{IsWhole, IsFront, IsWholeStatus, EndsAs, is_cut, may_read_ahead, with_reads}
use Rattle.dx_outcome.specs.Outcome.{Outcome}
use Rattle.dx_session.specs.Ends.{Ends, exit_of}

is_whole : (status : ℕ) → IsWholeStatus status → is_cut status ≡ false
is_whole status (inl e) = ap is_cut e
is_whole status (inr (inl e)) = ap is_cut e
is_whole status (inr (inr (inl e))) = ap is_cut e
is_whole status (inr (inr (inr e))) = ap is_cut e

pub ends_as : (r : Result ℕ End) (o : Outcome) (was now : Devices) → IfOk r IsWholeStatus → Ends r o was now → EndsAs (exit_of r) o was now
ends_as (Ok status) o was now is h =
    subst (λ (b : Bool). MatchBool b (IsFront (may_read_ahead status) o was now) ((status ≡ o.status) × IsWhole o.seen (with_reads was o.reads) now)) (sym (is_whole status is)) h
ends_as (Err end.ReadFault) o was now is h = h
ends_as (Err end.WriteFault) o was now is h = h
ends_as (Err end.ExportFault) o was now is h = h
ends_as (Err end.Memory) o was now is h = h

pub is_status : (r : Result ℕ End) → IfOk r IsWholeStatus → IsTrue (is_cut (exit_of r)) ⊎ IsWholeStatus (exit_of r)
is_status (Ok status) is = inr is
is_status (Err end.ReadFault) is = inl refl
is_status (Err end.WriteFault) is = inl refl
is_status (Err end.ExportFault) is = inl refl
is_status (Err end.Memory) is = inl refl

-- one of 3 comes from a call that answers 3
pub is_usage : (r : Result ℕ End) (P : Type 0) → IfOk r (λ status. status ≡ 3 → P) → exit_of r ≡ 3 → P
is_usage (Ok status) P h e = h e
is_usage (Err end.ReadFault) P h e = absurd cc
is_usage (Err end.WriteFault) P h e = absurd cc
is_usage (Err end.ExportFault) P h e = absurd cc
is_usage (Err end.Memory) P h e = absurd cc

pub cut_or_three : (r : Result ℕ End) → IfOk r (λ status. status ≡ 3) → IsTrue (is_cut (exit_of r)) ⊎ (exit_of r ≡ 3)
cut_or_three (Ok status) is = inr is
cut_or_three (Err end.ReadFault) is = inl refl
cut_or_three (Err end.WriteFault) is = inl refl
cut_or_three (Err end.ExportFault) is = inl refl
cut_or_three (Err end.Memory) is = inl refl

not_whole : (status : ℕ) → IsWholeStatus status → IsTrue (is_cut status) → ⊥
not_whole status is e = absurd (is_neither (sym e ∙ is_whole status is))
  where
    is_neither : true ≡ false → ⊥
    is_neither h = absurd cc

-- and a fault's status from that fault alone
pub is_read_fault : (r : Result ℕ End) → IfOk r IsWholeStatus → exit_of r ≡ 4 → r ≡ Err end.ReadFault
is_read_fault (Ok status) is e = absurd (not_whole status is (ap is_cut e))
is_read_fault (Err end.ReadFault) is e = refl
is_read_fault (Err end.WriteFault) is e = absurd cc
is_read_fault (Err end.ExportFault) is e = absurd cc
is_read_fault (Err end.Memory) is e = absurd cc

pub is_write_fault : (r : Result ℕ End) → IfOk r IsWholeStatus → exit_of r ≡ 5 → r ≡ Err end.WriteFault
is_write_fault (Ok status) is e = absurd (not_whole status is (ap is_cut e))
is_write_fault (Err end.ReadFault) is e = absurd cc
is_write_fault (Err end.WriteFault) is e = refl
is_write_fault (Err end.ExportFault) is e = absurd cc
is_write_fault (Err end.Memory) is e = absurd cc

pub is_export_fault : (r : Result ℕ End) → IfOk r IsWholeStatus → exit_of r ≡ 6 → r ≡ Err end.ExportFault
is_export_fault (Ok status) is e = absurd (not_whole status is (ap is_cut e))
is_export_fault (Err end.ReadFault) is e = absurd cc
is_export_fault (Err end.WriteFault) is e = absurd cc
is_export_fault (Err end.ExportFault) is e = refl
is_export_fault (Err end.Memory) is e = absurd cc
