-- An error that is passed on.
use Rattle.std.proofs.Common.{◌≡◌, Result, Err, sym, ap, subst, ◌∙◌}
use Rattle.dx_places.specs.Grammar.{At, Outcome}
use Rattle.dx_native_lex.specs.Token.{Fails, Reads}
use Rattle.dx_native_lex.specs.declared.fault.NativeError.{NativeError}
use Rattle.dx_native_lex.specs.declared.fault.NativeFail.{NativeFail}
use Rattle.dx_native_lex.specs.declared.fault.NativeFail.TheVariants as fail

pub passes : {A B : Type 0} (o : Outcome NativeError A) (o' : Outcome NativeError B) → ((f : NativeError) → o ≡ Err f → o' ≡ Err f) → (e : NativeFail) → Fails o e → Fails o' e
passes o o' g (fail.Refused f) h = g f h
passes o o' g fail.Memory h = tt

pub exit : {A B : Type 0} (o : Outcome NativeError A) (o' : Outcome NativeError B) (new : At) (r : Result B NativeFail) (e y : NativeFail) → r ≡ Err y → y ≡ e → Fails o e → ((f : NativeError) → o ≡ Err f → o' ≡ Err f) → Reads o' r new
exit {A} {B} o o' new r e y p q h g =
    let failed : NativeFail → Result B NativeFail = λ e. Err e in
    subst (λ (r : Result B NativeFail). Reads o' r new) (sym (p ∙ ap failed q)) (passes o o' g e h)
