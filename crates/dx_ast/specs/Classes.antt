-- Tokens by what they are in the grammar, and the faults that stand at their places.
use Rattle.std.specs.Prelude.{ℕ, ℤ, Bool, true, false, ◌||◌, List, Option, Some, None, if◌then◌else◌, codes}
use Rattle.std.specs.Str.{bytes_eq}
use Rattle.dx_base.specs.declared.token.Place.{Place}
use Rattle.dx_base.specs.declared.token.LexKind.{LexKind}
use Rattle.dx_base.specs.declared.token.LexKind.TheVariants as token
use Rattle.dx_base.specs.declared.token.Lexeme.{Lexeme}
use Rattle.dx_base.specs.declared.token.SyntaxError.{SyntaxError}
use Rattle.dx_base.specs.declared.token.SyntaxKind.{SyntaxKind}
use Rattle.dx_base.specs.declared.token.SyntaxKind.TheVariants as kind
use Rattle.dx_ast.specs.declared.sequencing.FrameVar.{FrameVar}
use Rattle.dx_ast.specs.declared.sequencing.FrameVar.TheVariants as frame
use Rattle.dx_ast.specs.declared.sequencing.Word.{Word}
use Rattle.dx_ast.specs.declared.sequencing.Word.TheVariants as word

abbrev pub Text : Type 0
Text = List ℕ

-- ---- faults

abbrev pub fault : SyntaxKind → Place → SyntaxError
fault k p = record { kind = k; line = p.line; column = p.column }

-- a token that doesn't fit
abbrev pub misfit : Lexeme → SyntaxError
misfit t = fault kind.Syntax t.from

-- this fault, where the test holds
abbrev pub fault_if : Bool → SyntaxKind → Place → Option SyntaxError
fault_if true k p = Some (fault k p)
fault_if false k p = None

-- ---- tokens that are written in one way

abbrev pub is_sign : Text → LexKind → Bool
is_sign c (token.Sign d) = bytes_eq d c
is_sign c _ = false

abbrev pub is_key : Text → LexKind → Bool
is_key k (token.Name n) = bytes_eq n k
is_key k _ = false

-- where it stands, if it is one
abbrev pub place_if : Bool → Place → Option Place
place_if true p = Some p
place_if false p = None

abbrev pub sign_of : Text → Lexeme → Option Place
sign_of c t = place_if (is_sign c t.kind) t.from

abbrev pub key_of : Text → Lexeme → Option Place
key_of k t = place_if (is_key k t.kind) t.from

-- ---- tokens with a value

-- a value, with the place of its token
abbrev pub at : {A : Type 0} → Place → Option A → Option (Place × A)
at p (Some a) = Some (p, a)
at p None = None

-- the words that are no names
abbrev pub is_reserved : Text → Bool
is_reserved n = bytes_eq n (codes "macro") || bytes_eq n (codes "include") || bytes_eq n (codes "NULL")

abbrev pub name_text : Text → Option Text
name_text n = if is_reserved n then None else Some n

abbrev pub name_in : LexKind → Option Text
name_in (token.Name n) = name_text n
name_in _ = None

abbrev pub int_in : LexKind → Option ℤ
int_in (token.Int n) = Some n
int_in _ = None

abbrev pub text_in : LexKind → Option Text
text_in (token.Text t) = Some t
text_in _ = None

-- the variable that a word with `@` names
abbrev pub frame_named : Text → Option FrameVar
frame_named n =
    if bytes_eq n (codes "@startframe") then Some frame.Start
    else (if bytes_eq n (codes "@endframe") then Some frame.End
    else (if bytes_eq n (codes "@deltaframe") then Some frame.Delta
    else (if bytes_eq n (codes "@nextframe") then Some frame.Next
    else (if bytes_eq n (codes "@frame") then Some frame.Frame
    else None))))

abbrev pub frame_in : LexKind → Option FrameVar
frame_in (token.Frame n) = frame_named n
frame_in _ = None

abbrev pub name_of : Lexeme → Option (Place × Text)
name_of t = at t.from (name_in t.kind)

abbrev pub int_of : Lexeme → Option (Place × ℤ)
int_of t = at t.from (int_in t.kind)

abbrev pub text_of : Lexeme → Option (Place × Text)
text_of t = at t.from (text_in t.kind)

abbrev pub frame_of : Lexeme → Option (Place × FrameVar)
frame_of t = at t.from (frame_in t.kind)

-- ---- words of the sequencer, which are names elsewhere

abbrev pub word_named : Text → Option Word
word_named n =
    if bytes_eq n (codes "play") then Some word.Play
    else (if bytes_eq n (codes "step") then Some word.Step
    else (if bytes_eq n (codes "stop") then Some word.Stop
    else (if bytes_eq n (codes "forward") then Some word.Forward
    else (if bytes_eq n (codes "backward") then Some word.Backward
    else None))))

-- a switch: what it says with `on`, and with `off`
abbrev pub switch_named : Text → Option (Word × Word)
switch_named n =
    if bytes_eq n (codes "loop") then Some (word.LoopOn, word.LoopOff)
    else (if bytes_eq n (codes "palindrome") then Some (word.PalindromeOn, word.PalindromeOff)
    else None)

abbrev pub state_named : Word × Word → Text → Option Word
state_named s n = if bytes_eq n (codes "on") then Some s.0 else (if bytes_eq n (codes "off") then Some s.1 else None)

-- a name by what it says
abbrev pub spelled : {A : Type 0} → (Text → Option A) → LexKind → Option A
spelled says (token.Name n) = says n
spelled says _ = None

abbrev pub word_of : Lexeme → Option (Place × Word)
word_of t = at t.from (spelled word_named t.kind)

abbrev pub switch_of : Lexeme → Option (Place × (Word × Word))
switch_of t = at t.from (spelled switch_named t.kind)

abbrev pub state_of : Word × Word → Lexeme → Option (Place × Word)
state_of s t = at t.from (spelled (state_named s) t.kind)
