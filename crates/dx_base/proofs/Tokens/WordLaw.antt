-- Names and frames: what the relation says is what is read.
use Rattle.std.specs.Prelude.{◌||◌, nat_lt, codes}
use Rattle.std.proofs.Common.{◌≡◌, ℕ, ◌<◌, List, [], ◌∷◌, ◌++◌, length, Bool, true, false, cond, refl, sym, subst, arith, ◌⊎◌, inl, inr, ◌∙◌, Ok, Err}
use Rattle.std.specs.List.{prefix_len}
use Rattle.std.specs.Str.{bytes_eq}
use Rattle.std.proofs.Math.Seq.{take-append_seam}
use Rattle.std.proofs.lemmas.Bool.Decides.{nat_tests}
use Rattle.std.proofs.lemmas.Slice.Eq.{bytes_eq-Decides}
use Rattle.dx_base.specs.declared.token.LexKind.TheVariants as kind
use Rattle.dx_base.specs.declared.token.SyntaxKind.TheVariants as fault
use Rattle.dx_base.specs.Tokens.Classes.{is_name_byte, Each, Stops}
use Rattle.dx_base.specs.Tokens.Spelling.{IsWord, max_name, IsFrame, startframe, endframe, deltaframe, nextframe, frame, IsName, IsFrameWord}
use Rattle.dx_base.specs.Tokens.Reading.{front, name_front, is_frame, frame_of, frame_front}
use Rattle.dx_base.proofs.Tokens.Spans.{span, each_taken, one_more}
use Rattle.dx_base.proofs.Tokens.Fronts.{name_at, frame_at}

pub word_each : (word : List ℕ) → IsWord word → Each is_name_byte word
word_each [] is = absurd is
word_each (b ∷ more) is = (rw is.0 refl, is.1)

-- a word is read whole
word_front : (word rest : List ℕ) → IsWord word → Stops is_name_byte rest → front (word ++ rest) ≡ cond (nat_lt max_name (length word)) (Err (fault.Syntax, 0)) (Ok (kind.Name word, length word))
unfolding name_front
word_front [] rest is stops = absurd is
word_front (b ∷ more) rest is stops =
    let len : prefix_len is_name_byte ((b ∷ more) ++ rest) ≡ length (b ∷ more) = span is_name_byte (b ∷ more) rest (word_each (b ∷ more) is) stops in
    name_at b (more ++ rest) is.0 ∙ rw (len, take-append_seam (b ∷ more) rest) refl

pub name_read : (name rest : List ℕ) → IsName name rest → front (name ++ rest) ≡ Ok (kind.Name name, length name)
name_read name rest is =
    let short : nat_lt max_name (length name) ≡ false = grind (arith, nat_tests, is.short) in
    word_front name rest is.word is.end ∙ rw short refl

pub long_read : (name rest : List ℕ) → IsWord name → max_name < length name → Stops is_name_byte rest → front (name ++ rest) ≡ Err (fault.Syntax, 0)
long_read name rest is long stops =
    let long : nat_lt max_name (length name) ≡ true = grind (arith, nat_tests) in
    word_front name rest is stops ∙ rw long refl

-- ---- frames

pub frame_tested : (word : List ℕ) → IsFrame word → is_frame word ≡ true
frame_tested word startframe = refl
frame_tested word endframe = refl
frame_tested word deltaframe = refl
frame_tested word nextframe = refl
frame_tested word frame = refl

pub frame_front_is : (word rest : List ℕ) → Each is_name_byte word → Stops is_name_byte rest → front (64 ∷ (word ++ rest)) ≡ frame_of word
unfolding frame_front
frame_front_is word rest each stops = frame_at (word ++ rest) ∙ rw (span is_name_byte word rest each stops, take-append_seam word rest) refl

pub frame_each : (word : List ℕ) → IsFrame word → Each is_name_byte word
frame_each word startframe = each_taken is_name_byte (codes "startframe")
frame_each word endframe = each_taken is_name_byte (codes "endframe")
frame_each word deltaframe = each_taken is_name_byte (codes "deltaframe")
frame_each word nextframe = each_taken is_name_byte (codes "nextframe")
frame_each word frame = each_taken is_name_byte (codes "frame")

either_true : (x y : Bool) → (x || y) ≡ true → (x ≡ true) ⊎ (y ≡ true)
either_true true y e = inl refl
either_true false y e = inr e

same_bytes : (word other : List ℕ) → bytes_eq word other ≡ true → word ≡ other
same_bytes word other e = (bytes_eq-Decides word other).0 e

is_word : (word other : List ℕ) → IsFrame other → bytes_eq word other ≡ true → IsFrame word
is_word word other is e = subst IsFrame (sym (same_bytes word other e)) is

pub frame_known : (word : List ℕ) → is_frame word ≡ true → IsFrame word
frame_known word e =
    let a = bytes_eq word (codes "startframe") in
    let b = bytes_eq word (codes "endframe") in
    let c = bytes_eq word (codes "deltaframe") in
    let d = bytes_eq word (codes "nextframe") in
    elim (either_true (((a || b) || c) || d) (bytes_eq word (codes "frame")) e) [
      | inr is ↦ is_word word (codes "frame") frame is
      | inl e ↦ elim (either_true ((a || b) || c) d e) [
        | inr is ↦ is_word word (codes "nextframe") nextframe is
        | inl e ↦ elim (either_true (a || b) c e) [
          | inr is ↦ is_word word (codes "deltaframe") deltaframe is
          | inl e ↦ elim (either_true a b e) [
            | inr is ↦ is_word word (codes "endframe") endframe is
            | inl is ↦ is_word word (codes "startframe") startframe is
          ]
        ]
      ]
    ]

pub frame_read : (word rest : List ℕ) → IsFrameWord word rest → front (64 ∷ (word ++ rest)) ≡ Ok (kind.Frame (64 ∷ word), length (64 ∷ word))
frame_read word rest is = frame_front_is word rest (frame_each word is.frame) is.end ∙ rw (frame_tested word is.frame, one_more (length word)) refl

pub no_frame_read : (word rest : List ℕ) → Each is_name_byte word → Stops is_name_byte rest → (IsFrame word → ⊥) → front (64 ∷ (word ++ rest)) ≡ Err (fault.Syntax, 0)
no_frame_read word rest each stops none = frame_front_is word rest each stops ∙ by_test (is_frame word) refl
  where
    by_test : (x : Bool) → is_frame word ≡ x → frame_of word ≡ Err (fault.Syntax, 0)
    by_test true e = absurd (none (frame_known word e))
    by_test false e = rw e refl
