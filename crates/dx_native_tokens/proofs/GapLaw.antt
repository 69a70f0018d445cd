-- Behind exactly one place no piece begins, the one that reading comes to.
use Rattle.std.specs.Prelude.{◌==◌}
use Rattle.std.proofs.Common.{◌≡◌, ℕ, suc, ◌+◌, ◌≤◌, List, [], ◌∷◌, ◌++◌, length, Bool, true, false, refl, sym, ap, subst, append_assoc, length-append, ◌∙◌, arith, add-zero}
use Rattle.std.proofs.lemmas.Bool.{eqb-true, eqb-false, ne_eqb}
use Rattle.dx_base.specs.Tokens.Classes.{is_in_line, Each, Stops}
use Rattle.dx_base.specs.Tokens.Gaps.{IsLineRest}
use Rattle.dx_base.proofs.Tokens.Spans.{not_yes, not_no}
use Rattle.dx_places.specs.Grammar.{At, left}
use Rattle.dx_native_lex.specs.Scan.{is_white, unblanked}
use Rattle.dx_native_tokens.specs.Gaps.{IsWhite, space, tab, carriage_return, newline, comma, Piece, White, Comment, piece_bytes, ArePieces, EndsGap, IsBehindGap}

abbrev at : ℕ → List ℕ → At
at n rest = record { offset = n; rest = rest }

-- ---- white bytes

pub white_yes : (b : ℕ) → IsWhite b → is_white b ≡ true
white_yes b space = refl
white_yes b tab = refl
white_yes b carriage_return = refl
white_yes b newline = refl
white_yes b comma = refl

pub yes_white : (b : ℕ) → is_white b ≡ true → IsWhite b
yes_white b e = by_test (b == 32) (b == 9) (b == 13) (b == 10) (b == 44) refl refl refl refl refl
  where
    by_test : (p q r s t : Bool) → (b == 32) ≡ p → (b == 9) ≡ q → (b == 13) ≡ r → (b == 10) ≡ s → (b == 44) ≡ t → IsWhite b
    by_test true q r s t f g h i j = subst IsWhite (sym (eqb-true b 32 f)) space
    by_test false true r s t f g h i j = subst IsWhite (sym (eqb-true b 9 g)) tab
    by_test false false true s t f g h i j = subst IsWhite (sym (eqb-true b 13 h)) carriage_return
    by_test false false false true t f g h i j = subst IsWhite (sym (eqb-true b 10 i)) newline
    by_test false false false false true f g h i j = subst IsWhite (sym (eqb-true b 44 j)) comma
    by_test false false false false false f g h i j = let none : is_white b ≡ false = rw (f, g, h, i, j) refl in absurd cc

pub no_white : (b : ℕ) → (IsWhite b → ⊥) → is_white b ≡ false
no_white b none = by_test (is_white b) refl
  where
    by_test : (p : Bool) → is_white b ≡ p → is_white b ≡ false
    by_test true e = absurd (none (yes_white b e))
    by_test false e = e

-- ---- pieces are passed over

shift_suc : (n m : ℕ) → n + 1 + m ≡ n + suc m
shift_suc n m = omega arith

ends : (n : ℕ) (rest : List ℕ) → EndsGap rest → unblanked false n rest ≡ at n rest
unfolding unblanked
ends n [] none = refl
ends n (b ∷ rest) none = rw (no_white b none.0, ne_eqb b 35 none.1) refl

is_newline : (b : ℕ) → is_in_line b ≡ false → b ≡ 10
is_newline b e = eqb-true b 10 (not_yes (b == 10) e)

at_newline : (n : ℕ) (rest : List ℕ) → unblanked true n (10 ∷ rest) ≡ unblanked false n (10 ∷ rest)
unfolding unblanked
at_newline n rest = refl

line_ends : (n : ℕ) (rest : List ℕ) → Stops is_in_line rest → unblanked true n rest ≡ unblanked false n rest
unfolding unblanked
line_ends n [] stops = refl
line_ends n (b ∷ rest) stops = subst (λ (c : ℕ). unblanked true n (c ∷ rest) ≡ unblanked false n (c ∷ rest)) (sym (is_newline b stops)) (at_newline n rest)

in_line : (n b : ℕ) (rest : List ℕ) → (b == 10) ≡ false → unblanked true n (b ∷ rest) ≡ unblanked true (n + 1) rest
unfolding unblanked
in_line n b rest e = rw e refl

-- the rest of a line is passed over
line_passed : (n : ℕ) (line rest : List ℕ) → Each is_in_line line → Stops is_in_line rest → unblanked true n (line ++ rest) ≡ unblanked false (n + length line) rest
line_passed n [] rest inside end = line_ends n rest end ∙ rw add-zero refl
line_passed n (b ∷ line) rest inside end =
    in_line n b (line ++ rest) (not_no (b == 10) inside.0) ∙ line_passed (n + 1) line rest inside.1 end ∙ ap (λ (m : ℕ). unblanked false m rest) (shift_suc n (length line))

white_passed : (n b : ℕ) (rest : List ℕ) → is_white b ≡ true → unblanked false n (b ∷ rest) ≡ unblanked false (n + 1) rest
unfolding unblanked
white_passed n b rest e = rw e refl

hash_passed : (n : ℕ) (rest : List ℕ) → unblanked false n (35 ∷ rest) ≡ unblanked true (n + 1) rest
unfolding unblanked
hash_passed n rest = refl

pub pieces_passed : (n : ℕ) (pieces : List Piece) (rest : List ℕ) → ArePieces pieces rest → unblanked false n (piece_bytes pieces ++ rest) ≡ unblanked false (n + length (piece_bytes pieces)) rest
pieces_passed n [] rest are = rw add-zero refl
pieces_passed n (White b ∷ more) rest are =
    white_passed n b (piece_bytes more ++ rest) (white_yes b are.0) ∙ pieces_passed (n + 1) more rest are.1 ∙ ap (λ (m : ℕ). unblanked false m rest) (shift_suc n (length (piece_bytes more)))
pieces_passed n (Comment line ∷ more) rest are =
    let far : n + 1 + length line + length (piece_bytes more) ≡ n + suc (length (line ++ piece_bytes more)) = omega (arith, length-append line (piece_bytes more)) in
    hash_passed n ((line ++ piece_bytes more) ++ rest) ∙ ap (unblanked true (n + 1)) (append_assoc line (piece_bytes more) rest)
    ∙ line_passed (n + 1) line (piece_bytes more ++ rest) are.0.inside are.0.end ∙ pieces_passed (n + 1 + length line) more rest are.1
    ∙ ap (λ (m : ℕ). unblanked false m rest) far

pub gap_only : (s e : At) → IsBehindGap s e → e ≡ unblanked false s.offset s.rest
gap_only s e is =
    sym (ap (unblanked false s.offset) is.parts ∙ pieces_passed s.offset is.gap e.rest is.pieces ∙ ap (λ (n : ℕ). unblanked false n e.rest) (sym is.offset) ∙ ends e.offset e.rest is.end)

-- ---- there are some

-- behind the rest of a line
record IsBehindLine (s e : At) : Type 0 where
  pub line : List ℕ
  pub gap : List Piece
  pub parts : s.rest ≡ line ++ (piece_bytes gap ++ e.rest)
  pub is : IsLineRest line (piece_bytes gap ++ e.rest)
  pub pieces : ArePieces gap e.rest
  pub end : EndsGap e.rest
  pub offset : e.offset ≡ s.offset + length line + length (piece_bytes gap)

white_gap : (n b : ℕ) (text : List ℕ) (e : At) → is_white b ≡ true → IsBehindGap (at (n + 1) text) e → IsBehindGap (at n (b ∷ text)) e
white_gap n b text e white h = record {
  gap = White b ∷ h.gap;
  parts = ap (λ (t : List ℕ). b ∷ t) h.parts;
  pieces = (yes_white b white, h.pieces);
  end = h.end;
  offset = h.offset ∙ shift_suc n (length (piece_bytes h.gap));
}

comment_gap : (n b : ℕ) (text : List ℕ) (e : At) → b ≡ 35 → IsBehindLine (at (n + 1) text) e → IsBehindGap (at n (b ∷ text)) e
comment_gap n b text e same h = record {
  gap = Comment h.line ∷ h.gap;
  parts = rw append_assoc (let p = h.parts in cc);
  pieces = (h.is, h.pieces);
  end = h.end;
  offset = let p = h.offset in omega (arith, length-append h.line (piece_bytes h.gap));
}

no_gap : (n : ℕ) (text : List ℕ) → EndsGap text → IsBehindGap (at n text) (at n text)
no_gap n text none = record { gap = []; parts = refl; pieces = tt; end = none; offset = sym (add-zero n) }

gap_step : (n b : ℕ) (text : List ℕ) → IsBehindGap (at (n + 1) text) (unblanked false (n + 1) text) → IsBehindLine (at (n + 1) text) (unblanked true (n + 1) text) → IsBehindGap (at n (b ∷ text)) (unblanked false n (b ∷ text))
gap_step n b text gap line = by_test (is_white b) (b == 35) refl refl
  where
    by_test : (white comment : Bool) → is_white b ≡ white → (b == 35) ≡ comment → IsBehindGap (at n (b ∷ text)) (unblanked false n (b ∷ text))
    by_test true comment w c = rw (white_passed n b text w) (white_gap n b text (unblanked false (n + 1) text) w gap)
    by_test false true w c =
        let same = eqb-true b 35 c in
        subst (λ (d : ℕ). IsBehindGap (at n (d ∷ text)) (unblanked false n (d ∷ text))) (sym same) (rw hash_passed (comment_gap n 35 text (unblanked true (n + 1) text) refl line))
    by_test false false w c =
        let none : EndsGap (b ∷ text) = ((λ is. let yes = white_yes b is in absurd cc), eqb-false b 35 c) in
        rw (ends n (b ∷ text) none) (no_gap n (b ∷ text) none)

line_step : (n b : ℕ) (text : List ℕ) → IsBehindGap (at n (b ∷ text)) (unblanked false n (b ∷ text)) → IsBehindLine (at (n + 1) text) (unblanked true (n + 1) text) → IsBehindLine (at n (b ∷ text)) (unblanked true n (b ∷ text))
line_step n b text gap line = by_test (b == 10) refl
  where
    by_test : (newline : Bool) → (b == 10) ≡ newline → IsBehindLine (at n (b ∷ text)) (unblanked true n (b ∷ text))
    by_test true t =
        let stops : Stops is_in_line (b ∷ text) = rw t refl in
        rw (line_ends n (b ∷ text) stops) (record {
          line = [];
          gap = gap.gap;
          parts = gap.parts;
          is = record { inside = tt; end = subst (Stops is_in_line) gap.parts stops };
          pieces = gap.pieces;
          end = gap.end;
          offset = let p = gap.offset in omega arith;
        })
    by_test false t = rw (in_line n b text t) (record {
      line = b ∷ line.line;
      gap = line.gap;
      parts = ap (λ (t : List ℕ). b ∷ t) line.parts;
      is = record { inside = (rw t refl, line.is.inside); end = line.is.end };
      pieces = line.pieces;
      end = line.end;
      offset = let p = line.offset in omega arith;
    })

record HasBoth (n : ℕ) (text : List ℕ) : Type 0 where
  pub gap : IsBehindGap (at n text) (unblanked false n text)
  pub line : IsBehindLine (at n text) (unblanked true n text)

both : (n : ℕ) (text : List ℕ) → HasBoth n text
unfolding unblanked
both n [] = record {
  gap = no_gap n [] tt;
  line = record { line = []; gap = []; parts = refl; is = record { inside = tt; end = tt }; pieces = tt; end = tt; offset = omega arith };
}
both n (b ∷ text) =
    let h = both (n + 1) text in
    let gap : IsBehindGap (at n (b ∷ text)) (unblanked false n (b ∷ text)) = gap_step n b text h.gap h.line in
    record { gap = gap; line = line_step n b text gap h.line }

pub gap_stands : (s : At) → IsBehindGap s (unblanked false s.offset s.rest)
gap_stands s = (both s.offset s.rest).gap

-- ---- none goes on further

pub gap_longest : (s : At) (pieces : List Piece) (rest : List ℕ) → ArePieces pieces rest → s.rest ≡ piece_bytes pieces ++ rest → left (unblanked false s.offset s.rest) ≤ length rest
gap_longest s pieces rest are parts =
    let n = s.offset + length (piece_bytes pieces) in
    let passed : unblanked false s.offset s.rest ≡ unblanked false n rest = ap (unblanked false s.offset) parts ∙ pieces_passed s.offset pieces rest are in
    let same = ap left passed in
    let h = gap_stands (at n rest) in
    let whole = ap length h.parts in
    omega (arith, length-append (piece_bytes h.gap) (unblanked false n rest).rest)
