-- How long names and strings are: a name has 1 to 255 bytes, and the strings of a text are together no longer than it.
use Rattle.std.proofs.Common.{◌≡◌, ℕ, zero, suc, ◌+◌, ◌-◌, ◌≤◌, Bool, true, false, cond, List, [], ◌∷◌, ◌++◌, length, Result, Ok, Err, refl, ap, ◌∙◌, arith, length-append}
use Rattle.std.specs.Prelude.{◌==◌}
use Rattle.dx_base.specs.declared.token.Place.{Place}
use Rattle.dx_base.specs.declared.token.LexKind.{LexKind}
use Rattle.dx_base.specs.declared.token.LexKind.TheVariants as token
use Rattle.dx_base.specs.declared.token.Lexeme.{Lexeme}
use Rattle.dx_base.specs.declared.token.SyntaxError.{SyntaxError}
use Rattle.dx_base.specs.Tokens.Places.{first, behind, behind_all}
use Rattle.dx_base.specs.Tokens.Gaps.{gap_bytes}
use Rattle.dx_base.specs.Tokens.Spelling.{IsToken, IsString, IsWord, Item, Plain, Escaped, item_bytes, meaning}
use Rattle.dx_base.specs.Tokens.Standing.{IsLexeme}
use Rattle.dx_base.specs.Tokens.Reading.{lexeme_at, IsReached, start, behind_token}
use Rattle.dx_base.proofs.Tokens.Reached.{reached_placed}
use Rattle.dx_base.proofs.Tokens.StandingLaw.{only_lexeme}
use Rattle.dx_ast.specs.Lawful.{IsName}
use Rattle.dx_ast.specs.Script.{Tokens, with_token, with_lexeme, tokens_by, tokens_from, tokens_of}

-- the bytes of a string
abbrev pub text_bytes : LexKind → ℕ
text_bytes (token.Text t) = length t
text_bytes _ = 0

-- the bytes of all strings
abbrev pub weight : List Lexeme → ℕ
weight [] = 0
weight (t ∷ ts) = text_bytes t.kind + weight ts

abbrev pub IsNameToken : LexKind → Type 0
IsNameToken (token.Name n) = IsName n
IsNameToken _ = Unit {0}

abbrev pub AreNameTokens : List Lexeme → Type 0
AreNameTokens [] = Unit {0}
AreNameTokens (t ∷ ts) = IsNameToken t.kind × AreNameTokens ts

-- ---- one token

-- each byte of a string is written by one byte or two
meaning_within : (items : List Item) → length (meaning items) ≤ length (item_bytes items)
meaning_within [] = omega arith
meaning_within (Plain b ∷ more) = let h = meaning_within more in omega arith
meaning_within (Escaped b ∷ more) = let h = meaning_within more in omega arith

string_within : (t bytes : List ℕ) → IsString t bytes → length t ≤ length bytes
string_within t bytes is =
    let h = meaning_within is.items in
    let all : length bytes ≡ 1 + (length (item_bytes is.items) + 1) = ap length is.spelled ∙ ap (λ n. suc n) (length-append (item_bytes is.items) (34 ∷ [])) ∙ omega arith in
    omega (arith, ap length is.same)

word_some : (n : List ℕ) → IsWord n → 1 ≤ length n
word_some [] w = elim w [ ]
word_some (b ∷ more) w = omega arith

record IsSized (found : LexKind) (bytes : List ℕ) : Type 0 where
  name : IsNameToken found
  text : text_bytes found ≤ length bytes

sized : (found : LexKind) (bytes behind : List ℕ) → IsToken found bytes behind → IsSized found bytes
sized (token.Name n) bytes behind is = record { name = (word_some n is.1.word, is.1.short); text = omega arith }
sized (token.Text t) bytes behind is = record { name = tt; text = string_within t bytes is }
sized token.End bytes behind is = record { name = tt; text = omega arith }
sized (token.Int n) bytes behind is = record { name = tt; text = omega arith }
sized (token.Frame n) bytes behind is = record { name = tt; text = omega arith }
sized (token.Sign n) bytes behind is = record { name = tt; text = omega arith }

-- ---- its place

step_offset : (p : Place) (b : ℕ) → (behind p b).offset ≡ p.offset + 1
step_offset p b = by_test (b == 10)
  where
    by_test : (newline : Bool) → let step : Place = cond newline (record { offset = p.offset + 1; line = p.line + 1; column = 1 }) (record { offset = p.offset + 1; line = p.line; column = p.column + 1 }) in step.offset ≡ p.offset + 1
    by_test true = refl
    by_test false = refl

offset_behind : (p : Place) (bytes : List ℕ) → (behind_all p bytes).offset ≡ p.offset + length bytes
offset_behind p [] = omega arith
offset_behind p (b ∷ rest) = omega (arith, offset_behind (behind p b) rest, step_offset p b)

record IsAhead (at : Place) (t : Lexeme) : Type 0 where
  name : IsNameToken t.kind
  text : at.offset + text_bytes t.kind ≤ t.to.offset

ahead : (text : List ℕ) (at : Place) (t : Lexeme) → lexeme_at text at ≡ Ok t → IsAhead at t
ahead text at t e =
    let is : IsLexeme text at t = (only_lexeme text at t e).stands in
    let s = sized t.kind is.bytes is.rest is.token in
    let from : t.from.offset ≡ at.offset + length (gap_bytes is.gap) = ap (λ (p : Place). p.offset) is.from ∙ offset_behind at (gap_bytes is.gap) in
    let to : t.to.offset ≡ t.from.offset + length is.bytes = ap (λ (p : Place). p.offset) is.to ∙ offset_behind t.from is.bytes in
    record { name = s.name; text = let h = s.text in omega arith }

-- ---- all tokens of a text

-- the tokens from a place on, with so many bytes from there to the end
record AreSized (at total : ℕ) (s : Tokens) : Type 0 where
  names : AreNameTokens s.tokens
  texts : at + weight s.tokens ≤ total

none : (at total : ℕ) (stop : SyntaxError) (whole : Bool) → at ≤ total → AreSized at total (record { tokens = []; stop = stop; whole = whole })
none at total stop whole le = record { names = tt; texts = omega arith }

one_more : (at : Place) (total : ℕ) (t : Lexeme) (s : Tokens) → IsAhead at t → AreSized t.to.offset total s → AreSized at.offset total (record s { tokens = t ∷ s.tokens })
one_more at total t s is rest = record { names = (is.name, rest.names); texts = let h = is.text in let g = rest.texts in omega arith }

with_one : (at : Place) (total : ℕ) (t : Lexeme) (k : LexKind) (s : Tokens) → at.offset ≤ total → IsAhead at t → AreSized t.to.offset total s → AreSized at.offset total (with_token t k s)
with_one at total t token.End s le is rest = none at.offset total _ true le
with_one at total t (token.Name n) s le is rest = one_more at total t s is rest
with_one at total t (token.Int n) s le is rest = one_more at total t s is rest
with_one at total t (token.Text n) s le is rest = one_more at total t s is rest
with_one at total t (token.Frame n) s le is rest = one_more at total t s is rest
with_one at total t (token.Sign n) s le is rest = one_more at total t s is rest

by_lexeme : (text : List ℕ) (at : Place) (r : Result Lexeme SyntaxError) (behind : Place → Tokens) → at.offset ≤ length text → lexeme_at text at ≡ r
    → ((t : Lexeme) → r ≡ Ok t → AreSized t.to.offset (length text) (behind t.to)) → AreSized at.offset (length text) (with_lexeme r behind)
by_lexeme text at (Ok t) behind le e rest = with_one at (length text) t t.kind (behind t.to) le (ahead text at t e) (rest t refl)
by_lexeme text at (Err f) behind le e rest = none at.offset (length text) f false le

tokens_sized : (n : ℕ) (text : List ℕ) (at : Place) → IsReached text at → AreSized at.offset (length text) (tokens_by n text at)
unfolding tokens_by
tokens_sized zero text at reached = none at.offset (length text) _ false (reached_placed text at reached).offset
tokens_sized (suc n) text at reached =
    by_lexeme text at (lexeme_at text at) (tokens_by n text) (reached_placed text at reached).offset refl
    (λ t e. tokens_sized n text t.to (behind_token at t reached e))

-- the tokens of a text that isn't too long
pub record AreSmall (ts : List Lexeme) : Type 0 where
  pub names : AreNameTokens ts
  pub texts : weight ts ≤ 16777216

pub tokens_small : (text : List ℕ) → length text ≤ 16777216 → AreSmall (tokens_of text).tokens
unfolding tokens_from
tokens_small text short =
    let s = tokens_sized (suc (length text - first.offset)) text first start in
    record { names = s.names; texts = let h = s.texts in omega arith }

-- ---- parts

names_front : (x y : List Lexeme) → AreNameTokens (x ++ y) → AreNameTokens x
names_front [] y h = tt
names_front (t ∷ x) y h = (h.0, names_front x y h.1)

names_back : (x y : List Lexeme) → AreNameTokens (x ++ y) → AreNameTokens y
names_back [] y h = h
names_back (t ∷ x) y h = names_back x y h.1

pub weight-append : (x y : List Lexeme) → weight (x ++ y) ≡ weight x + weight y
weight-append [] y = omega arith
weight-append (t ∷ x) y = let h = weight-append x y in omega arith

pub small_front : (x y : List Lexeme) → AreSmall (x ++ y) → AreSmall x
small_front x y h = record { names = names_front x y h.names; texts = let e = weight-append x y in let g = h.texts in omega arith }

pub small_back : (x y : List Lexeme) → AreSmall (x ++ y) → AreSmall y
small_back x y h = record { names = names_back x y h.names; texts = let e = weight-append x y in let g = h.texts in omega arith }
