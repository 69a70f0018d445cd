-- Which texts begin with no token, of which kind the fault is, and which bytes are before it.
use Rattle.std.specs.Prelude.{◌≡◌, ℕ, ◌<◌, true, false, List, [], ◌∷◌, ◌++◌, length}
use Rattle.dx_base.specs.Tokens.Ascii as ascii
use Rattle.dx_base.specs.declared.token.SyntaxKind.{SyntaxKind}
use Rattle.dx_base.specs.declared.token.SyntaxKind.TheVariants as fault
use Rattle.dx_base.specs.Tokens.Classes.{is_digit, is_plus_or_minus, is_name_start, is_name_byte, is_escape, is_sign, Each, Stops, begins, begins_digit, begins_float}
use Rattle.dx_base.specs.Tokens.Spelling.{IsWord, max_name, IsFrame, Numeral, numeral_bytes, IsNumeral, value, IsInt, Item, Escaped, item_bytes, AreItems, AreGood}

-- a name of too many bytes
pub record IsLongName (text : List ℕ) : Type 0 where
  pub name : List ℕ
  pub behind : List ℕ
  pub parts : text ≡ name ++ behind
  pub word : IsWord name
  pub long : max_name < length name
  pub end : Stops is_name_byte behind

-- an '@' in front of a word that names no frame
pub record IsNoFrame (text : List ℕ) : Type 0 where
  pub word : List ℕ
  pub behind : List ℕ
  pub parts : text ≡ ascii.at_sign ∷ (word ++ behind)
  pub bytes : Each is_name_byte word
  pub end : Stops is_name_byte behind
  pub none : IsFrame word → ⊥

-- a quote that no quote in its line closes
pub record IsOpen (text : List ℕ) : Type 0 where
  pub inside : List ℕ
  pub parts : text ≡ ascii.quote ∷ inside
  pub unclosed : (items : List Item) (behind : List ℕ) → AreItems items → inside ≡ item_bytes items ++ ascii.quote ∷ behind → ⊥

-- A string that is closed, with a backslash before another byte than it may be before; the first such one counts.
pub record HasBadBackslash (text before : List ℕ) : Type 0 where
  pub front : List Item
  pub bad : ℕ
  pub back : List Item
  pub behind : List ℕ
  pub parts : text ≡ ascii.quote ∷ (item_bytes (front ++ Escaped bad ∷ back) ++ ascii.quote ∷ behind)
  pub lawful : AreItems (front ++ Escaped bad ∷ back)
  pub good : AreGood front
  pub wrong : is_escape bad ≡ false
  pub place : before ≡ ascii.quote ∷ item_bytes front

-- a byte with which no token begins
pub record IsStray (text : List ℕ) : Type 0 where
  pub byte : ℕ
  pub behind : List ℕ
  pub parts : text ≡ byte ∷ behind
  pub no_name : is_name_start byte ≡ false
  pub no_number : is_digit byte ≡ false
  pub no_signed : is_plus_or_minus byte ≡ true → begins_digit behind ≡ false
  pub no_point : byte ≡ ascii.point → begins_digit behind ≡ false
  pub no_string : byte ≡ ascii.quote → ⊥
  pub no_frame : byte ≡ ascii.at_sign → ⊥
  pub no_sign : is_sign byte ≡ false
  pub no_arrow : byte ≡ ascii.minus → begins ascii.greater behind ≡ false
  pub no_range : byte ≡ ascii.point → begins ascii.point behind ≡ false

-- digits with a fraction that isn't zero, or with an exponent
pub record IsFraction (text : List ℕ) : Type 0 where
  pub numeral : Numeral
  pub behind : List ℕ
  pub parts : text ≡ numeral_bytes numeral ++ behind
  pub longest : IsNumeral numeral behind
  pub float : begins_float behind ≡ true

-- a point with a digit behind it
pub record IsPoint (text : List ℕ) : Type 0 where
  pub behind : List ℕ
  pub parts : text ≡ ascii.point ∷ behind
  pub digit : begins_digit behind ≡ true

-- a whole number that is no int
pub record IsBeyond (text : List ℕ) : Type 0 where
  pub numeral : Numeral
  pub behind : List ℕ
  pub parts : text ≡ numeral_bytes numeral ++ behind
  pub longest : IsNumeral numeral behind
  pub whole : begins_float behind ≡ false
  pub outside : IsInt (value numeral) → ⊥

-- The text begins with such a fault, behind these bytes.
pub data IsRefusal (text before : List ℕ) : SyntaxKind → Type 0 where
  long_name : IsLongName text → before ≡ [] → IsRefusal text before fault.Syntax
  no_frame : IsNoFrame text → before ≡ [] → IsRefusal text before fault.Syntax
  open_string : IsOpen text → before ≡ [] → IsRefusal text before fault.Syntax
  bad_backslash : HasBadBackslash text before → IsRefusal text before fault.Syntax
  stray : IsStray text → before ≡ [] → IsRefusal text before fault.Syntax
  fraction : IsFraction text → before ≡ [] → IsRefusal text before fault.FloatNumber
  point : IsPoint text → before ≡ [] → IsRefusal text before fault.FloatNumber
  beyond : IsBeyond text → before ≡ [] → IsRefusal text before fault.NumberRange
