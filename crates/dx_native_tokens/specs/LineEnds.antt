-- The end of a line before raw data, and what is refused there.
use Rattle.std.specs.Prelude.{◌≡◌, ◌⊎◌, ℕ, ◌+◌, List, [], ◌∷◌, ◌++◌, length, Ok, Err}
use Rattle.dx_base.specs.Tokens.Ascii as ascii
use Rattle.dx_base.specs.declared.code.NativeKind.TheVariants as fault
use Rattle.dx_places.specs.Grammar.{At, Outcome}
use Rattle.dx_native_lex.specs.declared.fault.NativeError.{NativeError}
use Rattle.dx_native_lex.specs.Token.{error}

-- a byte that may stand before the newline
pub data IsBlank : ℕ → Type 0 where
  space : IsBlank ascii.space
  tab : IsBlank ascii.tab
  carriage_return : IsBlank ascii.carriage_return

abbrev pub AreBlank : List ℕ → Type 0
AreBlank [] = Unit {0}
AreBlank (b ∷ more) = IsBlank b × AreBlank more

-- such bytes, and a newline
pub record IsLineEnd (s e : At) : Type 0 where
  pub blanks : List ℕ
  pub parts : s.rest ≡ blanks ++ ascii.newline ∷ e.rest
  pub blank : AreBlank blanks
  pub offset : e.offset ≡ s.offset + length blanks + 1

-- the text ends before a newline comes
pub record IsCut (s : At) (f : NativeError) : Type 0 where
  pub blank : AreBlank s.rest
  pub fault : f ≡ error fault.Truncated (s.offset + length s.rest)

-- behind such bytes stands another one, where the fault is
pub record IsOther (s : At) (f : NativeError) : Type 0 where
  pub blanks : List ℕ
  pub byte : ℕ
  pub behind : List ℕ
  pub parts : s.rest ≡ blanks ++ byte ∷ behind
  pub blank : AreBlank blanks
  pub no_blank : IsBlank byte → ⊥
  pub no_newline : byte ≡ ascii.newline → ⊥
  pub fault : f ≡ error fault.Syntax (s.offset + length blanks)

abbrev pub IsNoLineEnd : At → NativeError → Type 0
IsNoLineEnd s f = IsCut s f ⊎ IsOther s f

abbrev pub StandsLineEnd : At → Outcome NativeError (Unit {0}) → Type 0
StandsLineEnd s (Ok found) = IsLineEnd s found.1
StandsLineEnd s (Err f) = IsNoLineEnd s f
