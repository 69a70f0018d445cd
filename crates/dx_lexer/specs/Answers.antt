-- What a function answered beside what stands in the text: the same, unless memory ran out.
use Rattle.std.specs.Prelude.{◌≡◌, ℕ, ◌≤◌, List, Result, Ok, Err}
use Rattle.dx_base.specs.declared.token.Place.{Place}
use Rattle.dx_base.specs.declared.token.Lexeme.{Lexeme}
use Rattle.dx_base.specs.declared.token.SyntaxError.{SyntaxError}
use Rattle.dx_base.specs.Tokens.Standing.{IsOnlyLexeme, IsOnlyError, HasPlaces, HasPlace}
use Rattle.dx_base.specs.Tokens.Reading.{Front}
use Rattle.dx_lexer.specs.declared.borrowed.TokenKind.{TokenKind}
use Rattle.dx_lexer.specs.declared.fail.LexFail.{LexFail}
use Rattle.dx_lexer.specs.declared.fail.LexFail.TheVariants as fail
use Rattle.dx_lexer.specs.declared.fail.Fault.{Fault}
use Rattle.dx_lexer.specs.declared.fail.Fault.TheVariants as fault
use Rattle.dx_lexer.specs.Lexemes.{kind_of}

abbrev pub Misses : Front → Fault → Type 0
Misses front (fault.Wrong kind before) = front ≡ Err (kind, before)
Misses front fault.Memory = Unit {0}

-- for what a text begins with
abbrev pub Finds : Front → Result (TokenKind × ℕ) Fault → Type 0
Finds front (Ok found) = front ≡ Ok (kind_of found.0, found.1)
Finds front (Err f) = Misses front f

abbrev pub IsFaultWithin : ℕ → Fault → Type 0
IsFaultWithin n (fault.Wrong kind before) = before ≤ n
IsFaultWithin n fault.Memory = Unit {0}

-- the bytes that it counts are among these many
abbrev pub IsAmong : ℕ → Result (TokenKind × ℕ) Fault → Type 0
IsAmong n (Ok found) = found.1 ≤ n
IsAmong n (Err f) = IsFaultWithin n f

abbrev pub Refuses : Result Lexeme SyntaxError → LexFail → Type 0
Refuses there (fail.Refused e) = there ≡ Err e
Refuses there fail.Memory = Unit {0}

-- for the token at a place
abbrev pub Answers : Result Lexeme SyntaxError → Result Lexeme LexFail → Type 0
Answers there (Ok found) = there ≡ Ok found
Answers there (Err f) = Refuses there f

abbrev pub IsRefusedBy : List ℕ → Place → LexFail → Type 0
IsRefusedBy text at (fail.Refused e) = IsOnlyError text at e
IsRefusedBy text at fail.Memory = Unit {0}

-- The token that was answered stands at the place, and nothing else does; or the error, and nothing else.
abbrev pub Stands : List ℕ → Place → Result Lexeme LexFail → Type 0
Stands text at (Ok found) = IsOnlyLexeme text at found
Stands text at (Err f) = IsRefusedBy text at f

abbrev pub IsRefusedIn : List ℕ → LexFail → Type 0
IsRefusedIn text (fail.Refused e) = HasPlace text e
IsRefusedIn text fail.Memory = Unit {0}

-- The lines and columns that were answered are those of places of the text.
abbrev pub LiesIn : List ℕ → Result Lexeme LexFail → Type 0
LiesIn text (Ok found) = HasPlaces text found
LiesIn text (Err f) = IsRefusedIn text f
