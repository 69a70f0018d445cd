-- What operators make of two int values, which is made in 64 bits.
use Rattle.std.proofs.Common.{◌≡◌, ◌∙◌, sym, ap, ℕ, zero, suc, ◌≤◌, ◌^◌, ◌/◌, ℤ, pos, negsuc, Err, to_z, of_z, FitsSigned, w32, w64, arith}
use Rattle.std.specs.Prelude.{neg_ℤ, int_div, int_rem, if◌then◌else◌}
use Rattle.std.proofs.lemmas.Int.{quot_is, rem_is}
use Rattle.std.proofs.Math.Nat.{div-le_self}
use Rattle.dx_expr.specs.declared.fault.ItemFault.TheVariants.{DivisionByZero}
use Rattle.dx_expr.specs.Value.{checked, quotient, remainder}
use Rattle.dx_expr.proofs.Evaluating.{is_zero-not}

neg_fits : (n : ℕ) → n ≤ 2 ^ 31 → FitsSigned w64 (neg_ℤ (pos n))
neg_fits zero h = record { sfits = omega arith }
neg_fits (suc n) h = record { sfits = omega arith }

quotient_fits : (a b : ℤ) → FitsSigned w32 a → FitsSigned w64 (int_div a b)
quotient_fits (pos a) (pos b) f = record { sfits = omega (arith, div-le_self a b, f.sfits) }
quotient_fits (pos a) (negsuc b) f = neg_fits (a / suc b) (omega (arith, div-le_self a (suc b), f.sfits))
quotient_fits (negsuc a) (pos b) f = neg_fits (suc a / b) (omega (arith, div-le_self (suc a) b, f.sfits))
quotient_fits (negsuc a) (negsuc b) f = record { sfits = omega (arith, div-le_self (suc a) (suc b), f.sfits) }

wide : (a : ℤ) → FitsSigned w32 a → FitsSigned w64 a
wide a f = record { sfits = omega (arith, f.sfits) }

-- what the code's quotient and its remainder are, of numbers v and w that were widened
pub quotient_of : (a b v w : ℤ) → v ≡ a → w ≡ b → FitsSigned w32 a → FitsSigned w32 b → (b ≡ pos 0 → ⊥) →
    checked (to_z w64 (of_z w64 (int_div (to_z w64 (of_z w64 v)) (to_z w64 (of_z w64 w))))) ≡ quotient a b
quotient_of a b v w p q f g h =
    rw (p, q) (ap checked (quot_is w64 a b (wide a f) (wide b g) (quotient_fits a b f)) ∙ sym (ap (λ t. if t then Err DivisionByZero else checked (int_div a b)) (is_zero-not b h)))

pub remainder_of : (a b v w : ℤ) → v ≡ a → w ≡ b → FitsSigned w32 a → FitsSigned w32 b → (b ≡ pos 0 → ⊥) →
    checked (to_z w64 (of_z w64 (int_rem (to_z w64 (of_z w64 v)) (to_z w64 (of_z w64 w))))) ≡ remainder a b
remainder_of a b v w p q f g h =
    rw (p, q) (ap checked (rem_is w64 a b (wide a f) (wide b g)) ∙ sym (ap (λ t. if t then Err DivisionByZero else checked (int_rem a b)) (is_zero-not b h)))
