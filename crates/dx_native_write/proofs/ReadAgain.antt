-- What is written means the object again.
use Rattle.std.proofs.Common.{◌≡◌, ℕ, List, None, Result, Ok, Err, IfOk, true, subst, sym}
use Rattle.dx_base.specs.Object.{Tree}
use Rattle.dx_base.specs.ObjectLimits.{IsLawful}
use Rattle.dx_base.specs.ObjectNumbers.{steps_by_ints}
use Rattle.dx_native_grammar.specs.Native.{IsNative}
use Rattle.dx_native_law.proofs.Whole.{read_written}
use Rattle.dx_native_text.specs.Text.{text_of}

pub read_again : {E : Type 0} (t : Tree) → IsLawful t → steps_by_ints t ≡ true → (r : Result (List ℕ) E) → IfOk r (λ bytes. bytes ≡ text_of t) → IfOk r (λ bytes. IsNative bytes None (Ok t))
read_again t h i (Ok bytes) e = subst (λ (bytes : List ℕ). IsNative bytes None (Ok t)) (sym e) (read_written t h i)
read_again t h i (Err x) e = tt
