-- In front of what is no gap stands exactly one gap, the one that is passed over.
use Rattle.std.specs.Prelude.{◌==◌, ◌||◌, ◌&&◌}
use Rattle.std.proofs.Common.{◌≡◌, ℕ, List, [], ◌∷◌, ◌++◌, Bool, true, false, refl, sym, ap, subst, append_assoc, ◌∙◌}
use Rattle.std.proofs.Math.Bool.{or-true, and-false}
use Rattle.std.proofs.lemmas.Bool.{eqb-true, eqb-false, ne_eqb}
use Rattle.std.proofs.lemmas.List.Sums.{fold-append}
use Rattle.dx_base.specs.declared.token.Place.{Place}
use Rattle.dx_base.specs.Tokens.Places.{behind, behind_all}
use Rattle.dx_base.specs.Tokens.Classes.{is_white, is_in_line, Each, Stops, begins}
use Rattle.dx_base.specs.Tokens.Gaps.{Piece, White, Comment, Skipped, gap_bytes, IsLineRest, EndsGap, IsGap}
use Rattle.dx_base.specs.Tokens.Reading.{after_gap}
use Rattle.dx_base.proofs.Tokens.Spans.{and_no, or_no, not_yes, not_no}

-- ---- what is passed over

no_dollar : (fresh : Bool) (b : ℕ) → (fresh ≡ true → b ≡ 36 → ⊥) → (fresh && b == 36) ≡ false
no_dollar fresh b none = and_no fresh (b == 36) (λ e. ne_eqb b 36 (none e))

no_slashes : (b : ℕ) (rest : List ℕ) → (b ≡ 47 → begins 47 rest ≡ false) → (b == 47 && begins 47 rest) ≡ false
no_slashes b rest none = and_no (b == 47) (begins 47 rest) (λ e. none (eqb-true b 47 e))

ends : (fresh : Bool) (at : Place) (rest : List ℕ) → EndsGap fresh rest → after_gap fresh false at rest ≡ (at, rest)
unfolding after_gap
ends fresh at [] none = refl
ends fresh at (b ∷ rest) none = rw (none.0, or_no (fresh && b == 36) (b == 47 && begins 47 rest) (no_dollar fresh b none.2) (no_slashes b rest none.1)) refl

at_newline : (fresh : Bool) (at : Place) (rest : List ℕ) → after_gap fresh true at (10 ∷ rest) ≡ after_gap fresh false at (10 ∷ rest)
unfolding after_gap
at_newline fresh at rest = rw or-true refl

is_newline : (b : ℕ) → is_in_line b ≡ false → b ≡ 10
is_newline b e = eqb-true b 10 (not_yes (b == 10) e)

line_ends : (fresh : Bool) (at : Place) (rest : List ℕ) → Stops is_in_line rest → after_gap fresh true at rest ≡ after_gap fresh false at rest
unfolding after_gap
line_ends fresh at [] stops = refl
line_ends fresh at (b ∷ rest) stops = subst (λ (c : ℕ). after_gap fresh true at (c ∷ rest) ≡ after_gap fresh false at (c ∷ rest)) (sym (is_newline b stops)) (at_newline fresh at rest)

in_line : (fresh : Bool) (at : Place) (b : ℕ) (rest : List ℕ) → (b == 10) ≡ false → after_gap fresh true at (b ∷ rest) ≡ after_gap fresh true (behind at b) rest
unfolding after_gap
in_line fresh at b rest e = rw e refl

-- the rest of a line is passed over
line_passed : (fresh : Bool) (at : Place) (line rest : List ℕ) → Each is_in_line line → Stops is_in_line rest → after_gap fresh true at (line ++ rest) ≡ after_gap fresh false (behind_all at line) rest
unfolding after_gap
line_passed fresh at [] rest inside end = line_ends fresh at rest end
line_passed fresh at (b ∷ line) rest inside end = in_line fresh at b (line ++ rest) (not_no (b == 10) inside.0) ∙ line_passed fresh (behind at b) line rest inside.1 end

piece_passed : (fresh : Bool) (at : Place) (line : List ℕ) (more : List Piece) (rest : List ℕ) → IsLineRest line (gap_bytes more ++ rest)
    → after_gap fresh false (behind_all at line) (gap_bytes more ++ rest) ≡ (behind_all (behind_all at line) (gap_bytes more), rest)
    → after_gap fresh true at ((line ++ gap_bytes more) ++ rest) ≡ (behind_all at (line ++ gap_bytes more), rest)
piece_passed fresh at line more rest is passed = rw (append_assoc, fold-append behind at line (gap_bytes more)) (line_passed fresh at line (gap_bytes more ++ rest) is.inside is.end ∙ passed)

pub gap_passed : (fresh : Bool) (at : Place) (gap : List Piece) (rest : List ℕ) → IsGap fresh gap rest → after_gap fresh false at (gap_bytes gap ++ rest) ≡ (behind_all at (gap_bytes gap), rest)
unfolding after_gap
gap_passed fresh at [] rest gap = ends fresh at rest gap
gap_passed fresh at (White b ∷ more) rest gap = rw gap.0 (gap_passed (fresh || b == 10) (behind at b) more rest gap.1)
gap_passed fresh at (Comment line ∷ more) rest gap =
    rw and-false (piece_passed fresh (behind (behind at 47) 47) line more rest gap.0 (gap_passed fresh (behind_all (behind (behind at 47) 47) line) more rest gap.1))
gap_passed true at (Skipped line ∷ more) rest gap = piece_passed true (behind at 36) line more rest gap.1 (gap_passed true (behind_all (behind at 36) line) more rest gap.2)
gap_passed false at (Skipped line ∷ more) rest gap = absurd cc

-- ---- there is one

pub record HasGap (fresh : Bool) (text : List ℕ) : Type 0 where
  pub gap : List Piece
  pub rest : List ℕ
  pub parts : text ≡ gap_bytes gap ++ rest
  pub between : IsGap fresh gap rest

-- behind the rest of a line
record HasLine (fresh : Bool) (text : List ℕ) : Type 0 where
  pub line : List ℕ
  pub gap : List Piece
  pub rest : List ℕ
  pub parts : text ≡ line ++ (gap_bytes gap ++ rest)
  pub is : IsLineRest line (gap_bytes gap ++ rest)
  pub between : IsGap fresh gap rest

white_gap : (fresh : Bool) (b : ℕ) (text : List ℕ) → is_white b ≡ true → HasGap (fresh || b == 10) text → HasGap fresh (b ∷ text)
white_gap fresh b text white h = record {
  gap = White b ∷ h.gap;
  rest = h.rest;
  parts = ap (λ (t : List ℕ). b ∷ t) h.parts;
  between = (white, h.between);
}

skipped_gap : (b : ℕ) (text : List ℕ) → b ≡ 36 → HasLine true text → HasGap true (b ∷ text)
skipped_gap b text e h = record {
  gap = Skipped h.line ∷ h.gap;
  rest = h.rest;
  parts = rw append_assoc (let p = h.parts in cc);
  between = (refl, h.is, h.between);
}

comment_gap : (fresh : Bool) (b c : ℕ) (text : List ℕ) → b ≡ 47 → c ≡ 47 → (line : List ℕ) (gap : List Piece) (rest : List ℕ) → c ∷ text ≡ line ++ (gap_bytes gap ++ rest)
    → IsLineRest line (gap_bytes gap ++ rest) → IsGap fresh gap rest → HasGap fresh (b ∷ c ∷ text)
comment_gap fresh b c text e f [] gap rest parts is between =
    let stops : is_in_line c ≡ false = subst (Stops is_in_line) (sym parts) is.end in
    let in_line : is_in_line c ≡ true = rw f refl in
    absurd cc
comment_gap fresh b c text e f (d ∷ line) gap rest parts is between = record {
  gap = Comment line ∷ gap;
  rest = rest;
  parts = rw append_assoc cc;
  between = (record { inside = is.inside.1; end = is.end }, between);
}

slash_gap : (fresh : Bool) (b : ℕ) (text : List ℕ) → b ≡ 47 → begins 47 text ≡ true → HasLine fresh text → HasGap fresh (b ∷ text)
slash_gap fresh b [] e two h = absurd cc
slash_gap fresh b (c ∷ text) e two h = comment_gap fresh b c text e (eqb-true c 47 two) h.line h.gap h.rest h.parts h.is h.between

no_gap : (fresh : Bool) (b : ℕ) (text : List ℕ) → EndsGap fresh (b ∷ text) → HasGap fresh (b ∷ text)
no_gap fresh b text none = record { gap = []; rest = b ∷ text; parts = refl; between = none }

not_both : (b : ℕ) → (b == 47) ≡ true → (b == 36) ≡ false
not_both b s = rw (eqb-true b 47 s) refl

gap_step : (fresh : Bool) (b : ℕ) (text : List ℕ) → ((f : Bool) → HasGap f text) → ((f : Bool) → HasLine f text) → HasGap fresh (b ∷ text)
gap_step fresh b text gaps lines = by_test (is_white b) (b == 47) (begins 47 text) (b == 36) fresh refl refl refl refl refl
  where
    by_test : (white slash two dollar f : Bool) → is_white b ≡ white → (b == 47) ≡ slash → begins 47 text ≡ two → (b == 36) ≡ dollar → fresh ≡ f → HasGap fresh (b ∷ text)
    by_test true slash two dollar f w s t d e = white_gap fresh b text w (gaps (fresh || b == 10))
    by_test false true true dollar f w s t d e = slash_gap fresh b text (eqb-true b 47 s) t (lines fresh)
    by_test false true false dollar f w s t d e = no_gap fresh b text (w, (λ h. t), (λ h g. absurd (eqb-false b 36 (not_both b s) g)))
    by_test false false two true true w s t d e = subst (λ (f : Bool). HasGap f (b ∷ text)) (sym e) (skipped_gap b text (eqb-true b 36 d) (lines true))
    by_test false false two true false w s t d e = no_gap fresh b text (w, (λ h. absurd (eqb-false b 47 s h)), (λ h g. absurd cc))
    by_test false false two false f w s t d e = no_gap fresh b text (w, (λ h. absurd (eqb-false b 47 s h)), (λ h g. absurd (eqb-false b 36 d g)))

line_step : (fresh : Bool) (b : ℕ) (text : List ℕ) → HasGap fresh (b ∷ text) → HasLine fresh text → HasLine fresh (b ∷ text)
line_step fresh b text h l = by_test (b == 10) refl
  where
    by_test : (newline : Bool) → (b == 10) ≡ newline → HasLine fresh (b ∷ text)
    by_test true e = record {
      line = [];
      gap = h.gap;
      rest = h.rest;
      parts = h.parts;
      is = record { inside = tt; end = let stops : Stops is_in_line (b ∷ text) = rw e refl in subst (Stops is_in_line) h.parts stops };
      between = h.between;
    }
    by_test false e = record {
      line = b ∷ l.line;
      gap = l.gap;
      rest = l.rest;
      parts = ap (λ (t : List ℕ). b ∷ t) l.parts;
      is = record { inside = (rw e refl, l.is.inside); end = l.is.end };
      between = l.between;
    }

record HasBoth (text : List ℕ) : Type 0 where
  pub gap : (fresh : Bool) → HasGap fresh text
  pub line : (fresh : Bool) → HasLine fresh text

both : (text : List ℕ) → HasBoth text
both [] = record {
  gap = λ fresh. record { gap = []; rest = []; parts = refl; between = tt };
  line = λ fresh. record { line = []; gap = []; rest = []; parts = refl; is = record { inside = tt; end = tt }; between = tt };
}
both (b ∷ text) =
    let h = both text in
    let gap : (fresh : Bool) → HasGap fresh (b ∷ text) = λ fresh. gap_step fresh b text h.gap h.line in
    record { gap = gap; line = λ fresh. line_step fresh b text (gap fresh) (h.line fresh) }

-- in front of each text there is a gap, perhaps an empty one
pub has_gap : (fresh : Bool) (text : List ℕ) → HasGap fresh text
has_gap fresh text = (both text).gap fresh
