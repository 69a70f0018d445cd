-- What is answered where an array is made of what its clause says.
use Rattle.std.specs.Prelude.{◌≡◌, ℕ, Some, None, Result, Ok, Err}
use Rattle.dx_base.specs.Array.{ArrayData}
use Rattle.dx_native_lex.specs.declared.fault.NativeError.{NativeError}
use Rattle.dx_native_grammar.specs.Words.{array_fault}

-- this array, or why it is none
abbrev pub MadeAt : ℕ → ArrayData → Result ArrayData NativeError → Type 0
MadeAt at a (Ok made) = (made ≡ a) × (array_fault at a ≡ None)
MadeAt at a (Err e) = array_fault at a ≡ Some e
