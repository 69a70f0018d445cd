-- Places that a reading comes to lie in the text, each token but the end goes on, and the end is at the text's end.
use Rattle.std.specs.Prelude.{◌==◌, ◌||◌, ◌&&◌}
use Rattle.std.proofs.Common.{◌≡◌, ℕ, ◌+◌, ◌-◌, ◌<◌, ◌≤◌, List, [], ◌∷◌, length, drop, Ok, Err, Bool, true, false, cond, refl, sym, ap, subst, ◌∙◌, arith, length-drop, add-zero}
use Rattle.dx_base.specs.declared.token.Place.{Place}
use Rattle.dx_base.specs.declared.token.Lexeme.{Lexeme}
use Rattle.dx_base.specs.declared.token.LexKind.{LexKind}
use Rattle.dx_base.specs.declared.token.LexKind.TheVariants as kind
use Rattle.dx_base.specs.Tokens.Places.{first, behind, along}
use Rattle.dx_base.specs.Tokens.Classes.{is_white, begins}
use Rattle.dx_base.specs.Tokens.Reading.{Front, front, after_gap, placed, lexeme_at, IsReached, start, behind_token}
use Rattle.dx_base.proofs.Tokens.Taken.{Takes, takes_front}

-- the numbers of a place lie in the text
pub record IsPlaced (text : List ℕ) (p : Place) : Type 0 where
  pub offset : p.offset ≤ length text
  pub line : p.line ≤ p.offset + 1
  pub column : p.column ≤ p.offset + 1

-- a place at or behind an offset with this text left behind it, in a text of this length
pub record Stands (low total : ℕ) (p : Place) (rest : List ℕ) : Type 0 where
  pub above : low ≤ p.offset
  pub offset : p.offset + length rest ≡ total
  pub line : p.line ≤ p.offset + 1
  pub column : p.column ≤ p.offset + 1

step_stands : (low total : ℕ) (p : Place) (b : ℕ) (rest : List ℕ) → Stands low total p (b ∷ rest) → Stands low total (behind p b) rest
step_stands low total p b rest s = by_test (b == 10)
  where
    by_test : (newline : Bool) → Stands low total (cond newline (record { offset = p.offset + 1; line = p.line + 1; column = 1 }) (record { offset = p.offset + 1; line = p.line; column = p.column + 1 })) rest
    by_test true = record { above = omega arith; offset = omega arith; line = omega arith; column = omega arith }
    by_test false = record { above = omega arith; offset = omega arith; line = omega arith; column = omega arith }

abbrev StandsAt : ℕ → ℕ → Place × List ℕ → Type 0
StandsAt low total g = Stands low total g.0 g.1

pub gap_stands : (low total : ℕ) (fresh passing : Bool) (p : Place) (text : List ℕ) → Stands low total p text → StandsAt low total (after_gap fresh passing p text)
unfolding after_gap
gap_stands low total fresh passing p [] s = s
gap_stands low total fresh true p (b ∷ rest) s = by_test (b == 10) (gap_stands low total true false (behind p b) rest (step_stands low total p b rest s)) (gap_stands low total fresh true (behind p b) rest (step_stands low total p b rest s))
  where
    by_test : (newline : Bool) → StandsAt low total (after_gap true false (behind p b) rest) → StandsAt low total (after_gap fresh true (behind p b) rest)
        → StandsAt low total (cond newline (after_gap true false (behind p b) rest) (after_gap fresh true (behind p b) rest))
    by_test true f g = f
    by_test false f g = g
gap_stands low total fresh false p (b ∷ rest) s = by_test (is_white b) (fresh && b == 36 || b == 47 && begins 47 rest) (gap_stands low total (fresh || b == 10) false (behind p b) rest (step_stands low total p b rest s)) (gap_stands low total fresh true (behind p b) rest (step_stands low total p b rest s))
  where
    by_test : (white passed : Bool) → StandsAt low total (after_gap (fresh || b == 10) false (behind p b) rest) → StandsAt low total (after_gap fresh true (behind p b) rest)
        → StandsAt low total (cond white (after_gap (fresh || b == 10) false (behind p b) rest) (cond passed (after_gap fresh true (behind p b) rest) (p, b ∷ rest)))
    by_test true passed f g = f
    by_test false true f g = g
    by_test false false f g = s

-- a token at its place
pub record IsAt (place : Place) (f : Front) (found : Lexeme) (n : ℕ) : Type 0 where
  pub front : f ≡ Ok (found.kind, n)
  pub from : found.from ≡ place
  pub to : found.to ≡ along place n

pub placed_is : (place : Place) (f : Front) (found : Lexeme) → placed place f ≡ Ok found → (n : ℕ) × IsAt place f found n
placed_is place (Ok p) found e =
    let l : Lexeme = record { kind = p.0; from = place; to = along place p.1 } in
    let same : l ≡ found = cc in
    (p.1, record { front = ap (λ (l : Lexeme). let f : Front = Ok (l.kind, p.1) in f) same; from = ap (λ (l : Lexeme). l.from) (sym same); to = ap (λ (l : Lexeme). l.to) (sym same) })
placed_is place (Err wrong) found e = absurd cc

-- what stands at a token's place in a text of this length
pub record IsCut (low total : ℕ) (found : Lexeme) : Type 0 where
  pub rest : List ℕ
  pub bytes : ℕ
  pub stands : Stands low total found.from rest
  pub front : front rest ≡ Ok (found.kind, bytes)
  pub to : found.to ≡ along found.from bytes

cut_at : (low total : ℕ) (gap : Place × List ℕ) (found : Lexeme) (n : ℕ) → StandsAt low total gap → IsAt gap.0 (front gap.1) found n → IsCut low total found
cut_at low total gap found n stands is = record {
  rest = gap.1;
  bytes = n;
  stands = subst (λ (p : Place). Stands low total p gap.1) (sym is.from) stands;
  front = is.front;
  to = is.to ∙ ap (λ (p : Place). along p n) (sym is.from);
}

pub lexeme_is_cut : (text : List ℕ) (at : Place) (found : Lexeme) → IsPlaced text at → lexeme_at text at ≡ Ok found → IsCut at.offset (length text) found
unfolding lexeme_at
lexeme_is_cut text at found p e =
    let gap = after_gap (at.offset == 0) false at (drop at.offset text) in
    let cut : length (drop at.offset text) ≡ length text - at.offset = length-drop at.offset text in
    let stands : StandsAt at.offset (length text) gap = gap_stands at.offset (length text) (at.offset == 0) false at (drop at.offset text) (record { above = omega arith; offset = omega arith; line = p.line; column = p.column }) in
    let is : (n : ℕ) × IsAt gap.0 (front gap.1) found n = placed_is gap.0 (front gap.1) found e in
    cut_at at.offset (length text) gap found is.0 stands is.1

-- how many bytes a token takes of a text
pub record Advances (rest : List ℕ) (found : LexKind) (bytes : ℕ) : Type 0 where
  pub within : bytes ≤ length rest
  pub some : (found ≡ kind.End → ⊥) → 0 < bytes
  pub end : found ≡ kind.End → (rest ≡ []) × (bytes ≡ 0)

advances : (rest : List ℕ) (found : LexKind) (bytes : ℕ) → front rest ≡ Ok (found, bytes) → Advances rest found bytes
unfolding front
advances [] found bytes e =
    let p : LexKind × ℕ = (kind.End, 0) in
    let q : LexKind × ℕ = (found, bytes) in
    let same : p ≡ q = cc in
    let none : 0 ≡ bytes = ap (λ (x : LexKind × ℕ). x.1) same in
    let is_end : kind.End ≡ found = ap (λ (x : LexKind × ℕ). x.0) same in
    record { within = omega arith; some = λ more. absurd (more (sym is_end)); end = λ same. (refl, sym none) }
advances (b ∷ rest) found bytes e =
    let takes : Takes (length (b ∷ rest)) (Ok (found, bytes)) = subst (Takes (length (b ∷ rest))) e (takes_front b rest) in
    record { within = takes.2; some = λ more. takes.1; end = λ same. absurd (takes.0 same) }

along_placed : (text : List ℕ) (low : ℕ) (found : Lexeme) → IsCut low (length text) found → IsPlaced text found.to
along_placed text low found cut =
    let some = advances cut.rest found.kind cut.bytes cut.front in
    subst (IsPlaced text) (sym cut.to) (record { offset = omega arith; line = omega arith; column = omega arith })

first_placed : (text : List ℕ) → IsPlaced text first
first_placed text = record { offset = omega arith; line = omega arith; column = omega arith }

-- a place that is reached lies in the text
pub reached_placed : (text : List ℕ) (p : Place) → IsReached text p → IsPlaced text p
reached_placed text p start = first_placed text
reached_placed text p (behind_token at found reached is) =
    along_placed text at.offset found (lexeme_is_cut text at found (reached_placed text at reached) is)

-- each token but the end goes on
pub goes_on : (text : List ℕ) (at : Place) (found : Lexeme) → IsReached text at → lexeme_at text at ≡ Ok found → (found.kind ≡ kind.End → ⊥) → at.offset < found.to.offset
goes_on text at found reached is more =
    let cut = lexeme_is_cut text at found (reached_placed text at reached) is in
    let some = advances cut.rest found.kind cut.bytes cut.front in
    let to : found.to.offset ≡ found.from.offset + cut.bytes = ap (λ (p : Place). p.offset) cut.to in
    omega (arith, some.some more, cut.stands.above)

same_place : (p : Place) → p ≡ along p 0
same_place p = simp add-zero

-- The end stands at the end of the text.
pub record IsTextEnd (text : List ℕ) (found : Lexeme) : Type 0 where
  pub same : found.from ≡ found.to
  pub offset : found.to.offset ≡ length text

pub ends : (text : List ℕ) (at : Place) (found : Lexeme) → IsReached text at → lexeme_at text at ≡ Ok found → found.kind ≡ kind.End → IsTextEnd text found
ends text at found reached is end =
    let cut = lexeme_is_cut text at found (reached_placed text at reached) is in
    let none : (cut.rest ≡ []) × (cut.bytes ≡ 0) = (advances cut.rest found.kind cut.bytes cut.front).end end in
    let stay : found.from ≡ found.to = rw (cut.to, none.1) (same_place found.from) in
    let to : found.to.offset ≡ found.from.offset + cut.bytes = ap (λ (p : Place). p.offset) cut.to in
    let left : length cut.rest ≡ 0 = ap length none.0 in
    record { same = stay; offset = omega (arith, cut.stands.offset) }
