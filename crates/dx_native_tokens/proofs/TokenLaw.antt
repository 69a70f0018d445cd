-- Exactly one token stands next, or exactly one string that is wrong: the one that is read.
use Rattle.std.specs.Prelude.{◌==◌, ◌-◌, take_while}
use Rattle.std.proofs.Common.{◌≡◌, ℕ, suc, ◌+◌, ◌≤◌, List, [], ◌∷◌, ◌++◌, length, drop, Bool, true, false, cond, refl, sym, ap, subst, arith, ◌⊎◌, inl, inr, ◌∙◌, add-zero, append_assoc, length-append}
use Rattle.std.proofs.Math.Seq.{take-append_seam, drop-append_seam}
use Rattle.std.proofs.lemmas.Bool.{eqb-true, eqb-false, ne_eqb}
use Rattle.std.proofs.lemmas.List.{append_cancel_right}
use Rattle.std.proofs.lemmas.List.Sums.{take_while-cons}
use Rattle.dx_base.specs.Tokens.Classes.{Each, Stops}
use Rattle.dx_base.specs.Tokens.Spelling.{Item, item_bytes, AreItems}
use Rattle.dx_base.specs.Tokens.Refusals.{IsOpen, HasBadBackslash}
use Rattle.dx_base.proofs.Tokens.Spans.{spanned}
use Rattle.dx_base.proofs.Tokens.StringLaw.{Closes, items_decided, closes_or_open}
use Rattle.dx_places.specs.Grammar.{At}
use Rattle.dx_native_lex.specs.declared.scan.Kind.{Kind}
use Rattle.dx_native_lex.specs.declared.scan.Kind.TheVariants as kind
use Rattle.dx_native_lex.specs.Scan.{Found, is_white, is_word_byte, unblanked, word_len, word_at, no_token, quoted_at, token_at, lexed}
use Rattle.dx_native_lex.specs.Less.{IsSome_token}
use Rattle.dx_native_tokens.specs.Gaps.{piece_bytes, EndsGap}
use Rattle.dx_native_tokens.specs.Standing.{IsWordByte, AreWordBytes, IsWord, EndsWord, IsEnd, IsWordHere, IsStringHere, IsWrongHere, IsHereOf, IsHere, IsNext, IsInOrder}
use Rattle.dx_native_tokens.proofs.GapLaw.{white_yes, no_white, gap_only, gap_stands}
use Rattle.dx_native_tokens.proofs.StringLaw.{meaning_is, good_quoted, bad_quoted, open_quoted}

-- a token is its parts
made : (f : Found) (k : Kind) (n : ℕ) (c : List ℕ) (m : ℕ) (r : List ℕ) → f.kind ≡ k → f.at ≡ n → f.content ≡ c → f.after.offset ≡ m → f.after.rest ≡ r
    → f ≡ record { kind = k; at = n; content = c; after = record { offset = m; rest = r } }
made f k n c m r p q x y z = λ i. record { kind = p i; at = q i; content = x i; after = record { offset = y i; rest = z i } }

-- ---- words

word_yes : (b : ℕ) → IsWordByte b → is_word_byte b ≡ true
word_yes b is = rw (no_white b is.no_white, ne_eqb b 34 is.no_quote, ne_eqb b 35 is.no_hash) refl

yes_word : (b : ℕ) → is_word_byte b ≡ true → IsWordByte b
yes_word b e = by_test (is_white b) (b == 34) (b == 35) refl refl refl
  where
    by_test : (p q r : Bool) → is_white b ≡ p → (b == 34) ≡ q → (b == 35) ≡ r → IsWordByte b
    by_test true q r f g h = let none : is_word_byte b ≡ false = rw f refl in absurd cc
    by_test false true r f g h = let none : is_word_byte b ≡ false = rw (f, g) refl in absurd cc
    by_test false false true f g h = let none : is_word_byte b ≡ false = rw (f, g, h) refl in absurd cc
    by_test false false false f g h = record { no_white = λ is. let yes = white_yes b is in absurd cc; no_quote = eqb-false b 34 g; no_hash = eqb-false b 35 h }

no_word : (b : ℕ) → (IsWordByte b → ⊥) → is_word_byte b ≡ false
no_word b none = by_test (is_word_byte b) refl
  where
    by_test : (p : Bool) → is_word_byte b ≡ p → is_word_byte b ≡ false
    by_test true e = absurd (none (yes_word b e))
    by_test false e = e

taken : (more behind : List ℕ) → AreWordBytes more → EndsWord behind → take_while is_word_byte (more ++ behind) ≡ more
taken [] [] are end = refl
taken [] (b ∷ rest) are end = take_while-cons is_word_byte b rest ∙ ap (λ (p : Bool). cond p (b ∷ take_while is_word_byte rest) []) (no_word b end)
taken (b ∷ more) behind are end =
    take_while-cons is_word_byte b (more ++ behind) ∙ ap (λ (p : Bool). cond p (b ∷ take_while is_word_byte (more ++ behind)) []) (word_yes b are.0)
    ∙ ap (λ (t : List ℕ). b ∷ t) (taken more behind are.1 end)

word_token : (n b : ℕ) (rest : List ℕ) → (b == 34) ≡ false → token_at n (b ∷ rest) ≡ word_at n (b ∷ rest)
unfolding token_at
word_token n b rest e = rw e refl

word_is : (n b : ℕ) (more behind : List ℕ) → IsWordByte b → AreWordBytes more → EndsWord behind
    → token_at n (b ∷ (more ++ behind)) ≡ record { kind = kind.Word; at = n; content = b ∷ more; after = record { offset = n + length (b ∷ more); rest = behind } }
unfolding word_at
word_is n b more behind is are end =
    let len : word_len (b ∷ (more ++ behind)) ≡ length (b ∷ more) = let e = ap length (taken more behind are end) in omega arith in
    word_token n b (more ++ behind) (ne_eqb b 34 is.no_quote) ∙ rw len (rw (take-append_seam (b ∷ more) behind, drop-append_seam (b ∷ more) behind) refl)

word_only : (s : At) (f : Found) → f.kind ≡ kind.Word → IsWordHere s f → f ≡ token_at s.offset s.rest
word_only s f k is = by_content f.content refl
  where
    by_content : (c : List ℕ) → f.content ≡ c → f ≡ token_at s.offset s.rest
    by_content [] e = absurd (subst IsWord e is.word)
    by_content (b ∷ more) e =
        let word : IsWord (b ∷ more) = subst IsWord e is.word in
        let parts : s.rest ≡ b ∷ (more ++ f.after.rest) = is.parts ∙ ap (λ (c : List ℕ). c ++ f.after.rest) e in
        made f kind.Word s.offset (b ∷ more) (s.offset + length (b ∷ more)) f.after.rest k is.at e (is.offset ∙ ap (λ (c : List ℕ). s.offset + length c) e) refl
        ∙ sym (ap (token_at s.offset) parts ∙ word_is s.offset b more f.after.rest word.0 word.1 is.longest)

-- ---- strings

string_token : (n : ℕ) (rest : List ℕ) → token_at n (34 ∷ rest) ≡ quoted_at n rest
unfolding token_at
string_token n rest = refl

far : (n m : ℕ) → n + m + 2 ≡ n + 2 + m
far n m = omega arith

string_only : (s : At) (f : Found) → f.kind ≡ kind.Quoted → IsStringHere s f → f ≡ token_at s.offset s.rest
string_only s f k is =
    let items = is.string.items in
    let inside : f.content ≡ item_bytes items = append_cancel_right f.content (item_bytes items) (34 ∷ []) (ap (drop 1) is.string.spelled) in
    let parts : s.rest ≡ 34 ∷ (item_bytes items ++ 34 ∷ f.after.rest) = is.parts ∙ ap (λ (c : List ℕ). 34 ∷ (c ++ 34 ∷ f.after.rest)) inside in
    made f kind.Quoted s.offset (item_bytes items) (s.offset + 2 + length (item_bytes items)) f.after.rest k is.at inside
    (is.offset ∙ far s.offset (length f.content) ∙ ap (λ (c : List ℕ). s.offset + 2 + length c) inside) refl
    ∙ sym (ap (token_at s.offset) parts ∙ string_token s.offset _ ∙ good_quoted s.offset items f.after.rest is.string.lawful is.string.good)

pub nothing_here : (s : At) (f : Found) (n : ℕ) → f.kind ≡ kind.Wrong → f.at ≡ n → f.content ≡ [] → f.after ≡ record { offset = f.at; rest = [] } → f ≡ no_token n
nothing_here s f n k p c a = made f kind.Wrong n [] n [] k p c (ap (λ (e : At). e.offset) a ∙ p) (ap (λ (e : At). e.rest) a)

wrong_only : (s : At) (f : Found) → f.kind ≡ kind.Wrong → IsWrongHere s f → f ≡ token_at s.offset s.rest
wrong_only s f k is = by_refusal is.refusal
  where
    by_refusal : (IsOpen s.rest × (is.before ≡ [])) ⊎ HasBadBackslash s.rest is.before → f ≡ token_at s.offset s.rest
    by_refusal (inl is_open) =
        let place : f.at ≡ s.offset = is.at ∙ ap (λ (c : List ℕ). s.offset + length c) is_open.1 ∙ add-zero s.offset in
        let parts = is_open.0.parts in
        nothing_here s f s.offset k place is.content is.after
        ∙ sym (ap (token_at s.offset) parts ∙ string_token s.offset is_open.0.inside ∙ open_quoted s.offset is_open.0.inside (subst IsOpen parts is_open.0))
    by_refusal (inr bad) =
        let place : f.at ≡ s.offset + 1 + length (item_bytes bad.front) = let e = ap length bad.place in let p = is.at in omega arith in
        nothing_here s f (s.offset + 1 + length (item_bytes bad.front)) k place is.content is.after
        ∙ sym (ap (token_at s.offset) bad.parts ∙ string_token s.offset _ ∙ bad_quoted s.offset bad.front bad.bad bad.back bad.behind bad.lawful bad.good bad.wrong)

-- ---- one token or none

end_token : (n : ℕ) → token_at n [] ≡ record { kind = kind.End; at = n; content = []; after = record { offset = n; rest = [] } }
unfolding token_at
end_token n = refl

end_only : (s : At) (f : Found) → f.kind ≡ kind.End → IsEnd s f → f ≡ token_at s.offset s.rest
end_only s f k is =
    made f kind.End s.offset [] s.offset [] k is.at is.content (ap (λ (e : At). e.offset) is.after) (ap (λ (e : At). e.rest) is.after ∙ is.none)
    ∙ sym (ap (token_at s.offset) is.none ∙ end_token s.offset)

here_by : (s : At) (f : Found) (k : Kind) → f.kind ≡ k → IsHereOf k s f → f ≡ token_at s.offset s.rest
here_by s f kind.End e is = end_only s f e is
here_by s f kind.Word e is = word_only s f e is
here_by s f kind.Quoted e is = string_only s f e is
here_by s f kind.Wrong e is = wrong_only s f e is

pub here_only : (s : At) (f : Found) → IsHere s f → f ≡ token_at s.offset s.rest
here_only s f is = here_by s f f.kind refl is

-- ---- there is one

record HasHere (s : At) : Type 0 where
  pub found : Found
  pub is : IsHere s found

abbrev at : ℕ → List ℕ → At
at n rest = record { offset = n; rest = rest }

words_each : (bytes : List ℕ) → Each is_word_byte bytes → AreWordBytes bytes
words_each [] each = tt
words_each (b ∷ more) each = (yes_word b each.0, words_each more each.1)

word_ends : (rest : List ℕ) → Stops is_word_byte rest → EndsWord rest
word_ends [] stops = tt
word_ends (b ∷ rest) stops = λ is. let yes = word_yes b is in absurd cc

word_here : (n b : ℕ) (rest : List ℕ) → IsWordByte b → HasHere (at n (b ∷ rest))
word_here n b rest is =
    let span = spanned is_word_byte rest in
    record {
      found = record { kind = kind.Word; at = n; content = b ∷ span.front; after = record { offset = n + length (b ∷ span.front); rest = span.rest } };
      is = record { parts = ap (λ (t : List ℕ). b ∷ t) span.parts; word = (is, words_each span.front span.each); longest = word_ends span.rest span.stops; at = refl; offset = refl };
    }

closed_here : (n : ℕ) (inside : List ℕ) (c : Closes inside) → HasHere (at n (34 ∷ inside))
closed_here n inside c = elim (items_decided c.items) [
  | inl good ↦ record {
    found = record { kind = kind.Quoted; at = n; content = item_bytes c.items; after = record { offset = n + length (item_bytes c.items) + 2; rest = c.rest } };
    is = record {
      parts = ap (λ (t : List ℕ). 34 ∷ t) c.parts;
      string = record { items = c.items; spelled = refl; lawful = c.lawful; good = good; same = sym (meaning_is c.items c.lawful) };
      at = refl;
      offset = refl;
    };
  }
  | inr bad ↦ let place = n + suc (length (item_bytes bad.front)) in record {
    found = record { kind = kind.Wrong; at = place; content = []; after = record { offset = place; rest = [] } };
    is = record {
      before = 34 ∷ item_bytes bad.front;
      refusal = inr (record {
        front = bad.front;
        bad = bad.bad;
        back = bad.back;
        behind = c.rest;
        parts = ap (λ (t : List ℕ). 34 ∷ t) c.parts ∙ ap (λ (items : List Item). 34 ∷ (item_bytes items ++ 34 ∷ c.rest)) bad.parts;
        lawful = subst AreItems bad.parts c.lawful;
        good = bad.good;
        wrong = bad.wrong;
        place = refl;
      });
      at = refl;
      content = refl;
      after = refl;
    };
  }
]

string_here : (n : ℕ) (inside : List ℕ) → Closes inside ⊎ IsOpen (34 ∷ inside) → HasHere (at n (34 ∷ inside))
string_here n inside (inl c) = closed_here n inside c
string_here n inside (inr is_open) = record {
  found = record { kind = kind.Wrong; at = n; content = []; after = record { offset = n; rest = [] } };
  is = record { before = []; refusal = inl (is_open, refl); at = sym (add-zero n); content = refl; after = refl };
}

has_here : (n : ℕ) (text : List ℕ) → EndsGap text → HasHere (at n text)
has_here n [] end = record {
  found = record { kind = kind.End; at = n; content = []; after = record { offset = n; rest = [] } };
  is = record { none = refl; at = refl; content = refl; after = refl };
}
has_here n (b ∷ rest) end = by_test (b == 34) refl
  where
    by_test : (quote : Bool) → (b == 34) ≡ quote → HasHere (at n (b ∷ rest))
    by_test true e = subst (λ (c : ℕ). HasHere (at n (c ∷ rest))) (sym (eqb-true b 34 e)) (string_here n rest (closes_or_open rest))
    by_test false e = word_here n b rest (record { no_white = end.0; no_quote = eqb-false b 34 e; no_hash = end.1 })

pub here_stands : (s : At) → EndsGap s.rest → IsHere s (token_at s.offset s.rest)
here_stands s end = let h = has_here s.offset s.rest end in subst (IsHere s) (here_only s h.found h.is) h.is

-- ---- the next token

pub next_only : (s : At) (f : Found) → IsNext s f → f ≡ lexed s
unfolding lexed
next_only s f is = here_only is.place f is.here ∙ ap (λ (e : At). token_at e.offset e.rest) (gap_only s is.place is.gap)

pub next_stands : (s : At) → IsNext s (lexed s)
unfolding lexed
next_stands s = let gap = gap_stands s in record { place = unblanked false s.offset s.rest; gap = gap; here = here_stands (unblanked false s.offset s.rest) gap.end }

-- ---- in order

pub record IsAhead (s : At) (n : ℕ) (e : At) : Type 0 where
  pub front : List ℕ
  pub parts : s.rest ≡ front ++ e.rest
  pub offset : e.offset ≡ s.offset + length front
  pub many : n ≤ length front

behind : (s e : At) (n : ℕ) → IsAhead s n e → e.rest ≡ drop (e.offset - s.offset) s.rest
behind s e n is =
    let far : e.offset - s.offset ≡ length is.front = let p = is.offset in omega arith in
    sym (rw far (ap (drop (length is.front)) is.parts ∙ drop-append_seam is.front e.rest))

some_word : (content : List ℕ) → IsWord content → 1 ≤ length content
some_word [] is = absurd is
some_word (b ∷ more) is = omega arith

here_ahead : (s : At) (f : Found) (k : Kind) → IsSome_token k → IsHereOf k s f → (f.at ≡ s.offset) × IsAhead s 1 f.after
here_ahead s f kind.End t is = absurd t
here_ahead s f kind.Word t is = (is.at, record { front = f.content; parts = is.parts; offset = is.offset; many = some_word f.content is.word })
here_ahead s f kind.Quoted t is = (
  is.at,
  record {
    front = 34 ∷ (f.content ++ 34 ∷ []);
    parts = is.parts ∙ ap (λ (t : List ℕ). 34 ∷ t) (sym (append_assoc f.content (34 ∷ []) f.after.rest));
    offset = let p = is.offset in omega (arith, length-append f.content (34 ∷ []));
    many = omega arith;
  },
)
here_ahead s f kind.Wrong t is = absurd t

pub in_order : (s : At) (f : Found) → IsSome_token f.kind → IsNext s f → IsInOrder s f
in_order s f t is =
    let token = here_ahead is.place f f.kind t is.here in
    let ahead = token.1 in
    let bytes = piece_bytes is.gap.gap in
    let from = token.0 in
    let place = is.gap.offset in
    let end = ahead.offset in
    let many = ahead.many in
    let whole : IsAhead s 1 f.after = record {
      front = bytes ++ ahead.front;
      parts = is.gap.parts ∙ ap (λ (t : List ℕ). bytes ++ t) ahead.parts ∙ sym (append_assoc bytes ahead.front f.after.rest);
      offset = omega (arith, length-append bytes ahead.front);
      many = omega (arith, length-append bytes ahead.front);
    } in
    record { begins = omega arith; some = omega arith; rest = behind s f.after 1 whole }

pub next_order : (s : At) → IsSome_token (lexed s).kind → IsInOrder s (lexed s)
next_order s t = in_order s (lexed s) t (next_stands s)
