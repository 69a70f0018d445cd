-- A string of a native file beside the same bytes in a script.
use Rattle.std.specs.Prelude.{◌≡◌, ℕ, ◌+◌, false, List, drop, Ok, Err}
use Rattle.dx_base.specs.declared.token.LexKind.{LexKind}
use Rattle.dx_base.specs.declared.token.LexKind.TheVariants as script
use Rattle.dx_base.specs.declared.token.SyntaxKind.TheVariants as fault
use Rattle.dx_base.specs.Tokens.Reading.{Front}
use Rattle.dx_places.specs.Grammar.{At}
use Rattle.dx_native_lex.specs.declared.scan.Kind.TheVariants as kind
use Rattle.dx_native_lex.specs.Scan.{Found, meaning_of, no_token}

-- a string that stands for this text and has this many bytes
pub record IsText (s : At) (f : Found) (n : ℕ) (text : List ℕ) : Type 0 where
  pub kind : f.kind ≡ kind.Quoted
  pub at : f.at ≡ s.offset
  pub meaning : meaning_of false f.content ≡ text
  pub after : f.after ≡ record { offset = s.offset + n; rest = drop n s.rest }

abbrev pub IsSameText : At → Found → ℕ → LexKind → Type 0
IsSameText s f n (script.Text text) = IsText s f n text
IsSameText s f n _ = ⊥

-- Where the script has a text, so has the file, as long and with the same meaning; and where the script has an error, the
-- file has one behind as many bytes.
abbrev pub IsSame : At → Found → Front → Type 0
IsSame s f (Ok found) = IsSameText s f found.1 found.0
IsSame s f (Err wrong) = (wrong.0 ≡ fault.Syntax) × (f ≡ no_token (s.offset + wrong.1))
