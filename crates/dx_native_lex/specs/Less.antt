-- A token takes at least a byte.
use Rattle.std.proofs.Common.{ℕ, suc, ◌+◌, ◌≤◌, Bool, true, false, cond, List, [], ◌∷◌, length, take, drop, length-drop, arith}
use Rattle.std.specs.Prelude.{◌==◌, not}
use Rattle.dx_places.specs.Grammar.{At, left}
use Rattle.std.specs.Prelude.{Option, Some, None}
use Rattle.dx_base.specs.Tokens.Reading.{closed_at}
use Rattle.dx_native_lex.specs.Scan.{Found, unblanked, lexed, token_at, word_at, quoted_at, quoted_by, string_by, bad_at, is_white, word_len}
use Rattle.dx_native_lex.specs.declared.scan.Kind.{Kind}
use Rattle.dx_native_lex.specs.declared.scan.Kind.TheVariants as kind

abbrev pub IsSome_token : Kind → Type 0
IsSome_token kind.End = ⊥
IsSome_token kind.Word = Unit {0}
IsSome_token kind.Quoted = Unit {0}
IsSome_token kind.Wrong = ⊥

either_at : (b : Bool) (x y : At) (k : ℕ) → left x ≤ k → left y ≤ k → left (cond b x y) ≤ k
either_at true x y k p q = p
either_at false x y k p q = q

either : (b : Bool) (x y : Found) (k : ℕ) → left x.after ≤ k → left y.after ≤ k → left (cond b x y).after ≤ k
either true x y k p q = p
either false x y k p q = q

unblanked_less : (c : Bool) (at : ℕ) (text : List ℕ) → left (unblanked c at text) ≤ length text
unfolding unblanked
unblanked_less c at [] = omega arith
unblanked_less true at (b ∷ rest) = let h = unblanked_less (not (b == 10)) (at + 1) rest in omega arith
unblanked_less false at (b ∷ rest) =
    let white : left (unblanked false (at + 1) rest) ≤ suc (length rest) = let h = unblanked_less false (at + 1) rest in omega arith in
    let comment : left (unblanked true (at + 1) rest) ≤ suc (length rest) = let h = unblanked_less true (at + 1) rest in omega arith in
    let here : At = record { offset = at; rest = b ∷ rest } in
    either_at (is_white b) (unblanked false (at + 1) rest) (cond (b == 35) (unblanked true (at + 1) rest) here) (suc (length rest)) white
    (either_at (b == 35) (unblanked true (at + 1) rest) here (suc (length rest)) comment (omega arith))

word_less : (at : ℕ) (b : ℕ) (rest : List ℕ) → left (word_at at (b ∷ rest)).after ≤ length rest
unfolding word_at
word_less at b rest = omega (arith, length-drop (word_len (b ∷ rest)) (b ∷ rest))

quoted_by_less : (at : ℕ) (text : List ℕ) (n : ℕ) (o : Option ℕ) → left (quoted_by at text n o).after ≤ length text
quoted_by_less at text n (Some before) = omega arith
quoted_by_less at text n None = omega (arith, length-drop 1 (drop n text), length-drop n text)

string_by_less : (at : ℕ) (text : List ℕ) (o : Option ℕ) → left (string_by at text o).after ≤ length text
string_by_less at text None = omega arith
string_by_less at text (Some n) = quoted_by_less at text n (bad_at 0 false (take n text))

quoted_less : (at : ℕ) (text : List ℕ) → left (quoted_at at text).after ≤ length text
unfolding quoted_at
quoted_less at text = string_by_less at text (closed_at 0 false text)

token_less : (at : ℕ) (text : List ℕ) → IsSome_token (token_at at text).kind → left (token_at at text).after + 1 ≤ length text
unfolding token_at
token_less at [] h = absurd h
token_less at (b ∷ rest) h =
    let p = quoted_less at rest in
    let q = word_less at b rest in
    let e = either (b == 34) (quoted_at at rest) (word_at at (b ∷ rest)) (length rest) p q in
    omega arith

pub lexed_less : (s : At) → IsSome_token (lexed s).kind → left (lexed s).after + 1 ≤ left s
unfolding lexed
lexed_less s h =
    let m = unblanked false s.offset s.rest in
    let p = unblanked_less false s.offset s.rest in
    let q = token_less (unblanked false s.offset s.rest).offset (unblanked false s.offset s.rest).rest h in
    omega arith
