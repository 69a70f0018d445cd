-- Strings: what the relation says is what is read.
use Rattle.std.specs.Prelude.{◌==◌}
use Rattle.std.proofs.Common.{◌≡◌, ℕ, ◌+◌, List, [], ◌∷◌, ◌++◌, length, Bool, true, false, refl, sym, ap, subst, arith, ◌⊎◌, inl, inr, ◌∙◌, Option, Some, None, Ok, Err, append_assoc, length-append, zero-add, add-zero}
use Rattle.std.proofs.lemmas.List.{append-nil}
use Rattle.std.proofs.Math.Bool.{and-false}
use Rattle.std.proofs.Math.Seq.{take-append_seam}
use Rattle.std.proofs.lemmas.Bool.Decides.{nat_tests}
use Rattle.std.proofs.lemmas.Bool.{eqb-true}
use Rattle.dx_base.specs.declared.token.LexKind.TheVariants as kind
use Rattle.dx_base.specs.declared.token.SyntaxKind.TheVariants as fault
use Rattle.dx_base.specs.Tokens.Classes.{is_in_line, is_escape}
use Rattle.dx_base.specs.Tokens.Spelling.{Item, Plain, Escaped, item_bytes, is_plain, AreItems, AreGood, unescaped, meaning, IsString}
use Rattle.dx_base.specs.Tokens.Refusals.{IsOpen, HasBadBackslash}
use Rattle.dx_base.specs.Tokens.Reading.{front, closed_at, text_from, string_of, string_by, string_front}
use Rattle.dx_base.proofs.Tokens.Spans.{not_no, one_more}
use Rattle.dx_base.proofs.Tokens.Fronts.{quote_at}

-- a byte that stands for itself
record IsPlain (b : ℕ) : Type 0 where
  pub no_quote : (b == 34) ≡ false
  pub no_backslash : (b == 92) ≡ false
  pub no_newline : (b == 10) ≡ false

plain_byte : (b : ℕ) → is_plain b ≡ true → IsPlain b
plain_byte b e = record { no_quote = grind (arith, nat_tests); no_backslash = grind (arith, nat_tests); no_newline = grind (arith, nat_tests) }

-- ---- the closing quote

over_plain : (n b : ℕ) (rest : List ℕ) → IsPlain b → closed_at n false (b ∷ rest) ≡ closed_at (n + 1) false rest
unfolding closed_at
over_plain n b rest is = rw (is.no_newline, is.no_quote, is.no_backslash) refl

over_escape : (n b : ℕ) (rest : List ℕ) → (b == 10) ≡ false → closed_at n false (92 ∷ b ∷ rest) ≡ closed_at (n + 1 + 1) false rest
unfolding closed_at
over_escape n b rest e = rw (e, and-false, and-false) refl

at_quote : (n : ℕ) (rest : List ℕ) → closed_at n false (34 ∷ rest) ≡ Some n
unfolding closed_at
at_quote n rest = refl

closed_read : (n : ℕ) (items : List Item) (rest : List ℕ) → AreItems items → closed_at n false (item_bytes items ++ 34 ∷ rest) ≡ Some (n + length (item_bytes items))
closed_read n [] rest is = at_quote n rest ∙ ap Some (sym (add-zero n))
closed_read n (Plain b ∷ more) rest is =
    over_plain n b (item_bytes more ++ 34 ∷ rest) (plain_byte b is.0) ∙ closed_read (n + 1) more rest is.1 ∙ ap Some (omega arith)
closed_read n (Escaped b ∷ more) rest is =
    over_escape n b (item_bytes more ++ 34 ∷ rest) (not_no (b == 10) is.0) ∙ closed_read (n + 1 + 1) more rest is.1 ∙ ap Some (omega arith)

-- the inside of a string, and what is behind its closing quote
pub record Closes (text : List ℕ) : Type 0 where
  pub items : List Item
  pub rest : List ℕ
  pub parts : text ≡ item_bytes items ++ 34 ∷ rest
  pub lawful : AreItems items

-- behind a backslash
pub record ClosesEscaped (text : List ℕ) : Type 0 where
  pub byte : ℕ
  pub inside : List ℕ
  pub parts : text ≡ byte ∷ inside
  pub in_line : is_in_line byte ≡ true
  pub closes : Closes inside

abbrev pub ClosesBy : Bool → List ℕ → Type 0
ClosesBy true text = ClosesEscaped text
ClosesBy false text = Closes text

escape_closes : (text : List ℕ) → ClosesEscaped text → Closes (92 ∷ text)
escape_closes text c = record {
  items = Escaped c.byte ∷ c.closes.items;
  rest = c.closes.rest;
  parts = let p = c.parts in let q = c.closes.parts in cc;
  lawful = (c.in_line, c.closes.lawful);
}

plain_closes : (b : ℕ) (text : List ℕ) → is_plain b ≡ true → Closes text → Closes (b ∷ text)
plain_closes b text plain c = record {
  items = Plain b ∷ c.items;
  rest = c.rest;
  parts = ap (λ (t : List ℕ). b ∷ t) c.parts;
  lawful = (plain, c.lawful);
}

at_newline : (n : ℕ) (escape : Bool) (b : ℕ) (rest : List ℕ) → (b == 10) ≡ true → closed_at n escape (b ∷ rest) ≡ None
unfolding closed_at
at_newline n escape b rest e = rw e refl

behind_escape : (n b : ℕ) (rest : List ℕ) → (b == 10) ≡ false → closed_at n true (b ∷ rest) ≡ closed_at (n + 1) false rest
unfolding closed_at
behind_escape n b rest e = rw (e, and-false, and-false) refl

at_backslash : (n b : ℕ) (rest : List ℕ) → b ≡ 92 → closed_at n false (b ∷ rest) ≡ closed_at (n + 1) true rest
unfolding closed_at
at_backslash n b rest e = rw e refl

escaped_items : (n b : ℕ) (rest : List ℕ) (m : ℕ) → closed_at n true (b ∷ rest) ≡ Some m → (closed_at (n + 1) false rest ≡ Some m → Closes rest) → ClosesEscaped (b ∷ rest)
escaped_items n b rest m e ih = by_test (b == 10) refl
  where
    by_test : (newline : Bool) → (b == 10) ≡ newline → ClosesEscaped (b ∷ rest)
    by_test true t = let none = at_newline n true b rest t in absurd cc
    by_test false t = record { byte = b; inside = rest; parts = refl; in_line = rw t refl; closes = ih (sym (behind_escape n b rest t) ∙ e) }

next_items : (n b : ℕ) (rest : List ℕ) (m : ℕ) → closed_at n false (b ∷ rest) ≡ Some m → (closed_at (n + 1) true rest ≡ Some m → ClosesEscaped rest) → (closed_at (n + 1) false rest ≡ Some m → Closes rest) → Closes (b ∷ rest)
next_items n b rest m e escaped plain = by_test (b == 10) (b == 34) (b == 92) refl refl refl
  where
    by_test : (newline quote backslash : Bool) → (b == 10) ≡ newline → (b == 34) ≡ quote → (b == 92) ≡ backslash → Closes (b ∷ rest)
    by_test true quote backslash t u v = let none = at_newline n false b rest t in absurd cc
    by_test false true backslash t u v = record { items = []; rest = rest; parts = let same = eqb-true b 34 u in cc; lawful = tt }
    by_test false false true t u v =
        let same = eqb-true b 92 v in
        subst (λ (c : ℕ). Closes (c ∷ rest)) (sym same) (escape_closes rest (escaped (sym (at_backslash n b rest same) ∙ e)))
    by_test false false false t u v =
        let is : IsPlain b = record { no_quote = u; no_backslash = v; no_newline = t } in
        plain_closes b rest (rw (u, v, t) refl) (plain (sym (over_plain n b rest is) ∙ e))

closed_items : (n : ℕ) (escape : Bool) (text : List ℕ) (m : ℕ) → closed_at n escape text ≡ Some m → ClosesBy escape text
unfolding closed_at
closed_items n escape [] m e = absurd cc
closed_items n true (b ∷ rest) m e = escaped_items n b rest m e (closed_items (n + 1) false rest m)
closed_items n false (b ∷ rest) m e = next_items n b rest m e (closed_items (n + 1) true rest m) (closed_items (n + 1) false rest m)

-- ---- the bytes that stand for others

text_plain : (found : List ℕ) (n b : ℕ) (rest : List ℕ) → (b == 92) ≡ false → text_from found n false (b ∷ rest) ≡ text_from (found ++ b ∷ []) (n + 1) false rest
unfolding text_from
text_plain found n b rest e = rw e refl

text_escaped : (found : List ℕ) (n b : ℕ) (rest : List ℕ) → is_escape b ≡ true → text_from found n false (92 ∷ b ∷ rest) ≡ text_from (found ++ unescaped b ∷ []) (n + 2) false rest
unfolding text_from
text_escaped found n b rest e = rw e refl

text_bad : (found : List ℕ) (n b : ℕ) (rest : List ℕ) → is_escape b ≡ false → text_from found n false (92 ∷ b ∷ rest) ≡ Err n
unfolding text_from
text_bad found n b rest e = rw e refl

text_end : (found : List ℕ) (n : ℕ) → text_from found n false [] ≡ Ok found
unfolding text_from
text_end found n = refl

text_read : (found : List ℕ) (n : ℕ) (items : List Item) → AreItems items → AreGood items → text_from found n false (item_bytes items) ≡ Ok (found ++ meaning items)
text_read found n [] is good = text_end found n ∙ ap Ok (sym (append-nil found))
text_read found n (Plain b ∷ more) is good =
    text_plain found n b (item_bytes more) (plain_byte b is.0).no_backslash ∙ text_read (found ++ b ∷ []) (n + 1) more is.1 good ∙ ap Ok (append_assoc found (b ∷ []) (meaning more))
text_read found n (Escaped b ∷ more) is good =
    text_escaped found n b (item_bytes more) good.0 ∙ text_read (found ++ unescaped b ∷ []) (n + 2) more is.1 good.1 ∙ ap Ok (append_assoc found (unescaped b ∷ []) (meaning more))

bad_read : (found : List ℕ) (n : ℕ) (front : List Item) (bad : ℕ) (back : List Item) → AreItems (front ++ Escaped bad ∷ back) → AreGood front → is_escape bad ≡ false
    → text_from found n false (item_bytes (front ++ Escaped bad ∷ back)) ≡ Err (n + length (item_bytes front))
bad_read found n [] bad back is good wrong = text_bad found n bad (item_bytes back) wrong ∙ ap Err (sym (add-zero n))
bad_read found n (Plain b ∷ more) bad back is good wrong =
    text_plain found n b (item_bytes (more ++ Escaped bad ∷ back)) (plain_byte b is.0).no_backslash ∙ bad_read (found ++ b ∷ []) (n + 1) more bad back is.1 good wrong ∙ ap Err (omega arith)
bad_read found n (Escaped b ∷ more) bad back is good wrong =
    text_escaped found n b (item_bytes (more ++ Escaped bad ∷ back)) good.0 ∙ bad_read (found ++ unescaped b ∷ []) (n + 2) more bad back is.1 good.1 wrong ∙ ap Err (omega arith)

-- items with a backslash before another byte than it may be before
pub record IsBad (items : List Item) : Type 0 where
  pub front : List Item
  pub bad : ℕ
  pub back : List Item
  pub parts : items ≡ front ++ Escaped bad ∷ back
  pub good : AreGood front
  pub wrong : is_escape bad ≡ false

bad_behind : (first : Item) (more : List Item) → ((front : List Item) → AreGood front → AreGood (first ∷ front)) → IsBad more → IsBad (first ∷ more)
bad_behind first more good is = record {
  front = first ∷ is.front;
  bad = is.bad;
  back = is.back;
  parts = ap (λ (items : List Item). first ∷ items) is.parts;
  good = good is.front is.good;
  wrong = is.wrong;
}

pub items_decided : (items : List Item) → AreGood items ⊎ IsBad items
items_decided [] = inl tt
items_decided (Plain b ∷ more) = elim (items_decided more) [ inl good ↦ inl good | inr bad ↦ inr (bad_behind (Plain b) more (λ front good. good) bad) ]
items_decided (Escaped b ∷ more) = by_test (is_escape b) refl (items_decided more)
  where
    by_test : (x : Bool) → is_escape b ≡ x → AreGood more ⊎ IsBad more → AreGood (Escaped b ∷ more) ⊎ IsBad (Escaped b ∷ more)
    by_test true e (inl good) = inl (e, good)
    by_test true e (inr bad) = inr (bad_behind (Escaped b) more (λ front good. (e, good)) bad)
    by_test false e known = inr (record { front = []; bad = b; back = more; parts = refl; good = tt; wrong = e })

-- ---- strings

closed_front : (items : List Item) (rest : List ℕ) → AreItems items → front (34 ∷ (item_bytes items ++ 34 ∷ rest)) ≡ string_of (length (item_bytes items)) (text_from [] 0 false (item_bytes items))
unfolding string_front
closed_front items rest is =
    let bytes = item_bytes items in
    let closed : closed_at 0 false (bytes ++ 34 ∷ rest) ≡ Some (length bytes) = closed_read 0 items rest is ∙ ap Some (zero-add (length bytes)) in
    quote_at (bytes ++ 34 ∷ rest) ∙ rw (closed, take-append_seam bytes (34 ∷ rest)) refl

pub string_read : (text bytes rest : List ℕ) → IsString text bytes → front (bytes ++ rest) ≡ Ok (kind.Text text, length bytes)
string_read text bytes rest is =
    let inside = item_bytes is.items in
    let text_is : text_from [] 0 false inside ≡ Ok text = text_read [] 0 is.items is.lawful is.good ∙ ap Ok is.same in
    let len : length inside + 2 ≡ length (34 ∷ (inside ++ 34 ∷ [])) = omega (arith, length-append inside (34 ∷ [])) in
    rw is.spelled (rw (append_assoc inside (34 ∷ []) rest) (closed_front is.items rest is.lawful ∙ rw (text_is, len) refl))

pub bad_refused : (text before : List ℕ) → HasBadBackslash text before → front text ≡ Err (fault.Syntax, length before)
bad_refused text before is =
    let items : List Item = is.front ++ Escaped is.bad ∷ is.back in
    let err : text_from [] 0 false (item_bytes items) ≡ Err (length (item_bytes is.front)) = bad_read [] 0 is.front is.bad is.back is.lawful is.good is.wrong ∙ ap Err (zero-add (length (item_bytes is.front))) in
    rw (is.parts, is.place) (closed_front items is.behind is.lawful ∙ rw (err, one_more (length (item_bytes is.front))) refl)

pub open_refused : (text : List ℕ) → IsOpen text → front text ≡ Err (fault.Syntax, 0)
unfolding string_front
open_refused text is = rw is.parts (quote_at is.inside ∙ by_answer (closed_at 0 false is.inside) refl)
  where
    by_answer : (closed : Option ℕ) → closed_at 0 false is.inside ≡ closed → string_by (closed_at 0 false is.inside) is.inside ≡ Err (fault.Syntax, 0)
    by_answer None e = rw e refl
    by_answer (Some m) e = let c : Closes is.inside = closed_items 0 false is.inside m e in absurd (is.unclosed c.items c.rest c.lawful c.parts)

-- a quote is closed, or it is open
pub closes_or_open : (inside : List ℕ) → Closes inside ⊎ IsOpen (34 ∷ inside)
closes_or_open inside = by_answer (closed_at 0 false inside) refl
  where
    by_answer : (closed : Option ℕ) → closed_at 0 false inside ≡ closed → Closes inside ⊎ IsOpen (34 ∷ inside)
    by_answer None e = inr (record {
      inside = inside;
      parts = refl;
      unclosed = λ items behind lawful parts. let closed : closed_at 0 false (item_bytes items ++ 34 ∷ behind) ≡ Some (0 + length (item_bytes items)) = closed_read 0 items behind lawful in absurd cc;
    })
    by_answer (Some m) e = inl (closed_items 0 false inside m e)
