-- What is found in a text is what it means.
use Rattle.std.proofs.Common.{◌≡◌, ℕ, List, Option, Bool, Result, Ok, Err, refl, sym, ap, subst, ◌∙◌, inl, inr}
use Rattle.dx_base.specs.declared.code.Code.TheVariants.{BadFile}
use Rattle.dx_base.specs.Object.{Tree}
use Rattle.dx_objects.specs.Runs.{Values, Gives}
use Rattle.dx_objects.specs.declared.run_fail.RunFail.{RunFail}
use Rattle.dx_native_fields.specs.Good.{good_fields}
use Rattle.dx_places.specs.Grammar.{At}
use Rattle.dx_native_lex.specs.declared.fault.NativeError.{NativeError}
use Rattle.dx_native_grammar.specs.Grammar.{File, file}
use Rattle.dx_native_grammar.specs.Native.{IsNative, beginning}
use Rattle.dx_import.specs.Import.{meaning, meaning_found, by_fields, imported}

by_reading : (bytes : List ℕ) (which : Option (List ℕ)) (r : Result (File × At) NativeError) → file.read (beginning bytes) ≡ r → IsNative bytes which (meaning_found bytes which r)
by_reading bytes which (Ok found) e = inr (found.0, found.1, file.law.found (beginning bytes) found.0 found.1 e, refl)
by_reading bytes which (Err fault) e = inl (fault, file.law.fault (beginning bytes) fault e, refl)

pub is_native : (bytes : List ℕ) (which : Option (List ℕ)) → IsNative bytes which (meaning bytes which)
unfolding meaning
is_native bytes which = by_reading bytes which (file.read (beginning bytes)) refl

-- ---- answers

pub given : (m : Result Tree NativeError) (t : Tree) (good : Bool) (r : Result Values RunFail) → m ≡ Ok t → good ≡ good_fields t → Gives (by_fields good t) r → Gives (imported m) r
given m t good r e same h = subst (λ a. Gives a r) (ap (λ b. by_fields b t) same ∙ sym (ap imported e)) h

pub refused : (m : Result Tree NativeError) (fault : NativeError) → m ≡ Err fault → imported m ≡ Err (BadFile fault.kind fault.at)
refused m fault e = ap imported e
