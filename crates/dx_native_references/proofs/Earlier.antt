-- Of several faults the one that stands first.
use Rattle.std.proofs.Common.{◌≡◌, Bool, true, false, cond, Option, Some, None, refl, sym, ap, ◌∙◌, arith}
use Rattle.std.specs.Prelude.{nat_le}
use Rattle.std.proofs.lemmas.Bool.Decides.{nat_tests}
use Rattle.dx_native_lex.specs.declared.fault.NativeError.{NativeError}
use Rattle.dx_native_grammar.specs.Meaning.{earlier}

pub earlier_none : (e : Option NativeError) → earlier e None ≡ e
earlier_none None = refl
earlier_none (Some e) = refl

three : (e f g : NativeError) (a : Bool) → nat_le e.at f.at ≡ a → (b : Bool) → nat_le f.at g.at ≡ b → (c : Bool) → nat_le e.at g.at ≡ c
    → earlier (cond {A = Option NativeError} a (Some e) (Some f)) (Some g) ≡ earlier (Some e) (cond {A = Option NativeError} b (Some f) (Some g))
three e f g true h true k true l = ap (λ c. cond {A = Option NativeError} c (Some e) (Some g)) l ∙ sym (ap (λ c. cond {A = Option NativeError} c (Some e) (Some f)) h)
three e f g true h true k false l = absurd (grind (arith, nat_tests, h, k, l))
three e f g true h false k c l = refl
three e f g false h true k c l = ap (λ c. cond {A = Option NativeError} c (Some f) (Some g)) k ∙ sym (ap (λ c. cond {A = Option NativeError} c (Some e) (Some f)) h)
three e f g false h false k true l = absurd (grind (arith, nat_tests, h, k, l))
three e f g false h false k false l = ap (λ c. cond {A = Option NativeError} c (Some f) (Some g)) k ∙ sym (ap (λ c. cond {A = Option NativeError} c (Some e) (Some g)) l)

pub earlier_assoc : (x y z : Option NativeError) → earlier (earlier x y) z ≡ earlier x (earlier y z)
earlier_assoc None y z = refl
earlier_assoc (Some e) None z = refl
earlier_assoc (Some e) (Some f) None = earlier_none (earlier (Some e) (Some f))
earlier_assoc (Some e) (Some f) (Some g) = three e f g (nat_le e.at f.at) refl (nat_le f.at g.at) refl (nat_le e.at g.at) refl
