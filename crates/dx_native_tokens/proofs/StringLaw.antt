-- Strings, by the relation of scripts, are what is read.
use Rattle.std.specs.Prelude.{◌==◌}
use Rattle.std.proofs.Common.{◌≡◌, ℕ, ◌+◌, List, [], ◌∷◌, ◌++◌, length, take, true, false, refl, sym, ap, arith, ◌∙◌, Option, Some, None, Result, Ok, Err, add-zero, zero-add}
use Rattle.std.proofs.Math.Bool.{and-false}
use Rattle.std.proofs.Math.Seq.{take-append_seam, drop-append_seam}
use Rattle.std.proofs.lemmas.Bool.Decides.{nat_tests}
use Rattle.dx_base.specs.Tokens.Classes.{is_escape}
use Rattle.dx_base.specs.Tokens.Spelling.{Item, Plain, Escaped, item_bytes, is_plain, AreItems, AreGood, unescaped, meaning}
use Rattle.dx_base.specs.Tokens.Refusals.{IsOpen}
use Rattle.dx_base.specs.declared.token.LexKind.{LexKind}
use Rattle.dx_base.specs.declared.token.SyntaxKind.{SyntaxKind}
use Rattle.dx_base.specs.declared.token.SyntaxKind.TheVariants as fault
use Rattle.dx_base.specs.Tokens.Reading.{closed_at, text_from, string_of, string_front}
use Rattle.dx_base.specs.Tokens.Reading as reading
use Rattle.dx_base.proofs.Tokens.Spans.{not_no}
use Rattle.dx_base.proofs.Tokens.Fronts.{quote_at}
use Rattle.dx_base.proofs.Tokens.StringLaw.{open_refused}
use Rattle.dx_places.specs.Grammar.{err_is}
use Rattle.dx_native_lex.specs.Scan.{bad_at, meaning_of, no_token, quoted_by, string_by, quoted_at}
use Rattle.dx_native_lex.specs.declared.scan.Kind.TheVariants as kind

record IsPlain (b : ℕ) : Type 0 where
  pub no_quote : (b == 34) ≡ false
  pub no_backslash : (b == 92) ≡ false
  pub no_newline : (b == 10) ≡ false

plain_byte : (b : ℕ) → is_plain b ≡ true → IsPlain b
plain_byte b e = record { no_quote = grind (arith, nat_tests); no_backslash = grind (arith, nat_tests); no_newline = grind (arith, nat_tests) }

-- ---- the closing quote

over_plain : (n b : ℕ) (rest : List ℕ) → IsPlain b → closed_at n false (b ∷ rest) ≡ closed_at (n + 1) false rest
unfolding closed_at
over_plain n b rest is = rw (is.no_newline, is.no_quote, is.no_backslash) refl

over_escape : (n b : ℕ) (rest : List ℕ) → (b == 10) ≡ false → closed_at n false (92 ∷ b ∷ rest) ≡ closed_at (n + 1 + 1) false rest
unfolding closed_at
over_escape n b rest e = rw (e, and-false (b == 34), and-false (b == 92)) refl

at_quote : (n : ℕ) (rest : List ℕ) → closed_at n false (34 ∷ rest) ≡ Some n
unfolding closed_at
at_quote n rest = refl

closed_read : (n : ℕ) (items : List Item) (rest : List ℕ) → AreItems items → closed_at n false (item_bytes items ++ 34 ∷ rest) ≡ Some (n + length (item_bytes items))
closed_read n [] rest is = at_quote n rest ∙ ap Some (sym (add-zero n))
closed_read n (Plain b ∷ more) rest is =
    over_plain n b (item_bytes more ++ 34 ∷ rest) (plain_byte b is.0) ∙ closed_read (n + 1) more rest is.1 ∙ ap Some (omega arith)
closed_read n (Escaped b ∷ more) rest is =
    over_escape n b (item_bytes more ++ 34 ∷ rest) (not_no (b == 10) is.0) ∙ closed_read (n + 1 + 1) more rest is.1 ∙ ap Some (omega arith)

-- ---- what is inside

bad_plain : (n b : ℕ) (rest : List ℕ) → (b == 92) ≡ false → bad_at n false (b ∷ rest) ≡ bad_at (n + 1) false rest
unfolding bad_at
bad_plain n b rest e = rw e refl

bad_escaped : (n b : ℕ) (rest : List ℕ) → is_escape b ≡ true → bad_at n false (92 ∷ b ∷ rest) ≡ bad_at (n + 2) false rest
unfolding bad_at
bad_escaped n b rest e = rw e refl

bad_here : (n b : ℕ) (rest : List ℕ) → is_escape b ≡ false → bad_at n false (92 ∷ b ∷ rest) ≡ Some n
unfolding bad_at
bad_here n b rest e = rw e refl

bad_end : (n : ℕ) → bad_at n false [] ≡ None
unfolding bad_at
bad_end n = refl

none_bad : (n : ℕ) (items : List Item) → AreItems items → AreGood items → bad_at n false (item_bytes items) ≡ None
none_bad n [] is good = bad_end n
none_bad n (Plain b ∷ more) is good = bad_plain n b (item_bytes more) (plain_byte b is.0).no_backslash ∙ none_bad (n + 1) more is.1 good
none_bad n (Escaped b ∷ more) is good = bad_escaped n b (item_bytes more) good.0 ∙ none_bad (n + 2) more is.1 good.1

first_bad : (n : ℕ) (front : List Item) (bad : ℕ) (back : List Item) → AreItems (front ++ Escaped bad ∷ back) → AreGood front → is_escape bad ≡ false
    → bad_at n false (item_bytes (front ++ Escaped bad ∷ back)) ≡ Some (n + length (item_bytes front))
first_bad n [] bad back is good wrong = bad_here n bad (item_bytes back) wrong ∙ ap Some (sym (add-zero n))
first_bad n (Plain b ∷ more) bad back is good wrong =
    bad_plain n b (item_bytes (more ++ Escaped bad ∷ back)) (plain_byte b is.0).no_backslash ∙ first_bad (n + 1) more bad back is.1 good wrong ∙ ap Some (omega arith)
first_bad n (Escaped b ∷ more) bad back is good wrong =
    bad_escaped n b (item_bytes (more ++ Escaped bad ∷ back)) good.0 ∙ first_bad (n + 2) more bad back is.1 good.1 wrong ∙ ap Some (omega arith)

meaning_plain : (b : ℕ) (rest : List ℕ) → (b == 92) ≡ false → meaning_of false (b ∷ rest) ≡ b ∷ meaning_of false rest
unfolding meaning_of
meaning_plain b rest e = rw e refl

meaning_escaped : (b : ℕ) (rest : List ℕ) → meaning_of false (92 ∷ b ∷ rest) ≡ unescaped b ∷ meaning_of false rest
unfolding meaning_of
meaning_escaped b rest = refl

meaning_end : meaning_of false [] ≡ []
unfolding meaning_of
meaning_end = refl

-- the bytes of items stand for what the items do
pub meaning_is : (items : List Item) → AreItems items → meaning_of false (item_bytes items) ≡ meaning items
meaning_is [] is = meaning_end
meaning_is (Plain b ∷ more) is = meaning_plain b (item_bytes more) (plain_byte b is.0).no_backslash ∙ ap (λ (t : List ℕ). b ∷ t) (meaning_is more is.1)
meaning_is (Escaped b ∷ more) is = meaning_escaped b (item_bytes more) ∙ ap (λ (t : List ℕ). unescaped b ∷ t) (meaning_is more is.1)

-- ---- strings

closed_quoted : (n : ℕ) (items : List Item) (rest : List ℕ) → AreItems items
    → quoted_at n (item_bytes items ++ 34 ∷ rest) ≡ quoted_by n (item_bytes items ++ 34 ∷ rest) (length (item_bytes items)) (bad_at 0 false (item_bytes items))
unfolding quoted_at
closed_quoted n items rest is =
    let bytes = item_bytes items in
    let closed : closed_at 0 false (bytes ++ 34 ∷ rest) ≡ Some (length bytes) = closed_read 0 items rest is ∙ ap Some (zero-add (length bytes)) in
    rw (closed, take-append_seam bytes (34 ∷ rest)) refl

pub good_quoted : (n : ℕ) (items : List Item) (rest : List ℕ) → AreItems items → AreGood items
    → quoted_at n (item_bytes items ++ 34 ∷ rest) ≡ record { kind = kind.Quoted; at = n; content = item_bytes items; after = record { offset = n + 2 + length (item_bytes items); rest = rest } }
good_quoted n items rest is good =
    let bytes = item_bytes items in
    closed_quoted n items rest is ∙ rw (none_bad 0 items is good) (rw (take-append_seam bytes (34 ∷ rest), drop-append_seam bytes (34 ∷ rest)) refl)

pub bad_quoted : (n : ℕ) (front : List Item) (bad : ℕ) (back : List Item) (rest : List ℕ) → AreItems (front ++ Escaped bad ∷ back) → AreGood front → is_escape bad ≡ false
    → quoted_at n (item_bytes (front ++ Escaped bad ∷ back) ++ 34 ∷ rest) ≡ no_token (n + 1 + length (item_bytes front))
bad_quoted n front bad back rest is good wrong =
    let items : List Item = front ++ Escaped bad ∷ back in
    closed_quoted n items rest is ∙ rw (first_bad 0 front bad back is good wrong ∙ ap Some (zero-add (length (item_bytes front)))) refl

-- ---- strings that aren't closed

second : (p q : SyntaxKind × ℕ) → p ≡ q → p.1 ≡ q.1
second p q e = ap (λ (p : SyntaxKind × ℕ). p.1) e

no_string : (m : ℕ) (inside : List ℕ) (read : Result (List ℕ) ℕ) → string_of m read ≡ Err (fault.Syntax, 0) → ⊥
no_string m inside (Ok found) e = absurd cc
no_string m inside (Err before) e =
    let none : 1 + before ≡ 0 = second (fault.Syntax, 1 + before) (fault.Syntax, 0) (err_is {X = LexKind × ℕ} (fault.Syntax, 1 + before) (fault.Syntax, 0) e) in
    omega arith

open_unclosed : (inside : List ℕ) → IsOpen (34 ∷ inside) → closed_at 0 false inside ≡ None
unfolding string_front
open_unclosed inside unclosed = by_answer (closed_at 0 false inside) refl
  where
    by_answer : (o : Option ℕ) → closed_at 0 false inside ≡ o → closed_at 0 false inside ≡ None
    by_answer None e = e
    by_answer (Some m) e =
        let refused : reading.string_by (closed_at 0 false inside) inside ≡ Err (fault.Syntax, 0) = sym (quote_at inside) ∙ open_refused (34 ∷ inside) unclosed in
        let known : reading.string_by (Some m) inside ≡ Err (fault.Syntax, 0) = ap (λ (o : Option ℕ). reading.string_by o inside) (sym e) ∙ refused in
        absurd (no_string m inside (text_from [] 0 false (take m inside)) known)

pub open_quoted : (n : ℕ) (inside : List ℕ) → IsOpen (34 ∷ inside) → quoted_at n inside ≡ no_token n
unfolding quoted_at
open_quoted n inside unclosed = ap (string_by n inside) (open_unclosed inside unclosed)
