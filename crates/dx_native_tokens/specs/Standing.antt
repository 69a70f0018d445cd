-- Which token stands at a place of a native file, or what is wrong there.
use Rattle.std.specs.Prelude.{◌≡◌, ◌⊎◌, ℕ, ◌+◌, ◌-◌, ◌≤◌, ◌<◌, false, List, [], ◌∷◌, ◌++◌, length, drop}
use Rattle.dx_base.specs.Tokens.Ascii as ascii
use Rattle.dx_base.specs.Tokens.Spelling.{IsString}
use Rattle.dx_base.specs.Tokens.Refusals.{IsOpen, HasBadBackslash}
use Rattle.dx_places.specs.Grammar.{At}
use Rattle.dx_native_lex.specs.declared.scan.Kind.{Kind}
use Rattle.dx_native_lex.specs.declared.scan.Kind.TheVariants as kind
use Rattle.dx_native_lex.specs.Scan.{Found, meaning_of}
use Rattle.dx_native_tokens.specs.Gaps.{IsWhite, hash, IsBehindGap}

-- ---- words

-- any byte but white space, '"' and '#'
pub record IsWordByte (b : ℕ) : Type 0 where
  pub no_white : IsWhite b → ⊥
  pub no_quote : b ≡ ascii.quote → ⊥
  pub no_hash : b ≡ hash → ⊥

abbrev pub AreWordBytes : List ℕ → Type 0
AreWordBytes [] = Unit {0}
AreWordBytes (b ∷ more) = IsWordByte b × AreWordBytes more

abbrev pub IsWord : List ℕ → Type 0
IsWord [] = ⊥
IsWord (b ∷ more) = IsWordByte b × AreWordBytes more

-- a word before this is as long as it can be
abbrev pub EndsWord : List ℕ → Type 0
EndsWord [] = Unit {0}
EndsWord (b ∷ rest) = IsWordByte b → ⊥

-- ---- what stands at a place

-- the end of the text
pub record IsEnd (s : At) (f : Found) : Type 0 where
  pub none : s.rest ≡ []
  pub at : f.at ≡ s.offset
  pub content : f.content ≡ []
  pub after : f.after ≡ s

-- the longest word that begins here
pub record IsWordHere (s : At) (f : Found) : Type 0 where
  pub parts : s.rest ≡ f.content ++ f.after.rest
  pub word : IsWord f.content
  pub longest : EndsWord f.after.rest
  pub at : f.at ≡ s.offset
  pub offset : f.after.offset ≡ s.offset + length f.content

-- A string, by the rule of scripts, and it stands for what that of a script does. The content is what is in the quotes.
pub record IsStringHere (s : At) (f : Found) : Type 0 where
  pub parts : s.rest ≡ ascii.quote ∷ (f.content ++ ascii.quote ∷ f.after.rest)
  pub string : IsString (meaning_of false f.content) (ascii.quote ∷ (f.content ++ ascii.quote ∷ []))
  pub at : f.at ≡ s.offset
  pub offset : f.after.offset ≡ s.offset + length f.content + 2

-- a string that isn't closed in its line, at its quote, or one that is closed, at its first bad backslash, by the rule of
-- scripts
pub record IsWrongHere (s : At) (f : Found) : Type 0 where
  pub before : List ℕ
  pub refusal : (IsOpen s.rest × (before ≡ [])) ⊎ HasBadBackslash s.rest before
  pub at : f.at ≡ s.offset + length before
  pub content : f.content ≡ []
  pub after : f.after ≡ record { offset = f.at; rest = [] }

abbrev pub IsHereOf : Kind → At → Found → Type 0
IsHereOf kind.End s f = IsEnd s f
IsHereOf kind.Word s f = IsWordHere s f
IsHereOf kind.Quoted s f = IsStringHere s f
IsHereOf kind.Wrong s f = IsWrongHere s f

abbrev pub IsHere : At → Found → Type 0
IsHere s f = IsHereOf f.kind s f

-- ---- the next token

pub record IsNext (s : At) (f : Found) : Type 0 where
  pub place : At
  pub gap : IsBehindGap s place
  pub here : IsHere place f

-- Such a token is apart from what is before the place, and it has bytes; what is left behind it is what the text has from
-- its end on.
pub record IsInOrder (s : At) (f : Found) : Type 0 where
  pub begins : s.offset ≤ f.at
  pub some : f.at < f.after.offset
  pub rest : f.after.rest ≡ drop (f.after.offset - s.offset) s.rest
