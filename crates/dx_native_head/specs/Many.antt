-- Where many values are read, some of them at a time.
use Rattle.std.specs.Prelude.{◌≡◌, ℕ, ◌+◌, ℤ, ◌≤ℤ◌, List, ◌++◌, length, Result, Ok, Err}
use Rattle.dx_places.specs.Grammar.{At}
use Rattle.dx_native_lex.specs.Token.{NativeGrammar, Fails}
use Rattle.dx_native_lex.specs.declared.fault.NativeFail.{NativeFail}
use Rattle.dx_native_grammar.specs.Grammar.{counted}
use Rattle.dx_native_grammar.specs.Words.{int_low, int_high}

-- these values come next, up to a place, however many more are to be read then
abbrev pub AreNext : {A : Type 0} → NativeGrammar A → List A → At → At → Type 0
AreNext {A} X values s e = (n : ℕ) (found : List A) → (counted X (length values + n) found).read s ≡ (counted X n (found ++ values)).read e

-- What is left to be read, behind what is found by then, is read as so many from the start are; or they are refused.
abbrev pub Goes : {A : Type 0} → NativeGrammar A → ℕ → List A → At → Result ℕ NativeFail → List A → At → Type 0
Goes X n found s (Ok left) more new = (counted X n found).read s ≡ (counted X left more).read new
Goes X n found s (Err e) more new = Fails ((counted X n found).read s) e

-- a number of type int
pub record IsInt (v : ℤ) : Type 0 where
  pub low : int_low ≤ℤ v
  pub high : v ≤ℤ int_high
