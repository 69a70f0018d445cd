-- What the reader answers.
use Rattle.std.specs.Prelude.{◌≡◌, ℕ, List, Option, Result, Ok, Err}
use Rattle.dx_base.specs.Object.{Tree}
use Rattle.dx_native_lex.specs.declared.fault.NativeError.{NativeError}
use Rattle.dx_native_lex.specs.declared.fault.NativeFail.{NativeFail}
use Rattle.dx_native_lex.specs.declared.fault.NativeFail.TheVariants as fail
use Rattle.dx_base.specs.declared.code.NativeKind.TheVariants as fault
use Rattle.dx_native_lex.specs.Token.{error}
use Rattle.dx_native_grammar.specs.Native.{IsNative}
use Rattle.dx_native_walk.specs.declared.fail.BuildFail.{BuildFail}
use Rattle.dx_native_walk.specs.declared.fail.BuildFail.TheVariants as build

-- this, unless memory runs out
abbrev pub Means : Result Tree NativeError → Result Tree NativeFail → Type 0
Means r (Ok t) = r ≡ Ok t
Means r (Err (fail.Refused e)) = r ≡ Err e
Means r (Err fail.Memory) = Unit {0}

-- the object that the text means, or its kind and its offset, unless memory runs out
abbrev pub Answers : List ℕ → Option (List ℕ) → Result Tree NativeFail → Type 0
Answers bytes which (Ok t) = IsNative bytes which (Ok t)
Answers bytes which (Err (fail.Refused e)) = IsNative bytes which (Err e)
Answers bytes which (Err fail.Memory) = Unit {0}

-- what is answered where no object is built of a clause, whose name has this offset
abbrev pub native_of : BuildFail → ℕ → NativeFail
native_of build.Deep at = fail.Refused (error fault.TooDeep at)
native_of build.Broken at = fail.Refused (error fault.TooLarge at)
native_of build.Memory at = fail.Memory
