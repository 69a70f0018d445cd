-- The tokens of a written text.
use Rattle.std.proofs.Common.{◌≡◌, ◌==◌, ℕ, suc, ◌+◌, ◌≤◌, Bool, true, false, cond, List, [], ◌∷◌, ◌++◌, length, take, drop, Option, Some, None, refl, sym, ap, ◌∙◌, subst, inl, inr, ◌⊎◌, append_assoc, arith}
use Rattle.std.specs.Prelude.{not, ◌||◌, ◌&&◌, bytes_eq, take_while}
use Rattle.std.proofs.lemmas.Bool.Decides.{eqb_tells}
use Rattle.std.proofs.lemmas.List.Sums.{take_while-cons}
use Rattle.std.proofs.Math.Seq.{take-append_seam, drop-append_seam}
use Rattle.dx_base.specs.Tokens.Reading.{closed_at}
use Rattle.dx_places.specs.Grammar.{At}
use Rattle.dx_native_lex.specs.Scan.{Found, is_white, is_word_byte, unblanked, lexed, token_at, word_at, quoted_at, string_by, quoted_by, bad_at, meaning_of, word_len}
use Rattle.dx_native_lex.specs.declared.scan.Kind.TheVariants as kind
use Rattle.dx_base.specs.Words.{escaped, all_escaped}
use Rattle.dx_native_text.specs.Lines.{Word, bare, in_quotes, written, spelled}
use Rattle.dx_native_law.proofs.LaidLines.{line, laid, laid_is}
use Rattle.dx_native_law.proofs.Runs.{at, found_of, Runs, runs_shift}

-- ---- bytes of words

pub record IsWordByte (b : ℕ) : Type 0 where
  pub white : is_white b ≡ false
  pub quote : (b == 34) ≡ false
  pub hash : (b == 35) ≡ false

abbrev pub AreWordBytes : List ℕ → Type 0
AreWordBytes [] = Unit {0}
AreWordBytes (b ∷ bs) = IsWordByte b × AreWordBytes bs

abbrev pub IsBare : List ℕ → Type 0
IsBare [] = ⊥
IsBare (b ∷ bs) = IsWordByte b × AreWordBytes bs

word_byte : (b : ℕ) → IsWordByte b → is_word_byte b ≡ true
word_byte b h = ap (λ w. not (w || b == 34 || b == 35)) h.white ∙ ap (λ q. not (q || b == 35)) h.quote ∙ ap not h.hash

no_word_byte : (b : ℕ) → is_white b ≡ true → is_word_byte b ≡ false
no_word_byte b h = ap (λ w. not (w || b == 34 || b == 35)) h

take_word : (bs : List ℕ) → AreWordBytes bs → (d : ℕ) (r : List ℕ) → is_white d ≡ true → take_while is_word_byte (bs ++ d ∷ r) ≡ bs
take_word [] h d r w = take_while-cons is_word_byte d r ∙ ap (λ b. cond b (d ∷ take_while is_word_byte r) []) (no_word_byte d w)
take_word (b ∷ bs) h d r w =
    take_while-cons is_word_byte b (bs ++ d ∷ r) ∙ ap (λ t. cond t (b ∷ take_while is_word_byte (bs ++ d ∷ r)) []) (word_byte b h.0) ∙ ap (λ l. b ∷ l) (take_word bs h.1 d r w)

-- a word with white space behind it
bare_lexed : (o b : ℕ) (bs : List ℕ) (d : ℕ) (r : List ℕ) → IsWordByte b → AreWordBytes bs → is_white d ≡ true
    → lexed (at o (b ∷ (bs ++ d ∷ r))) ≡ record { kind = kind.Word; at = o; content = b ∷ bs; after = at (o + length (b ∷ bs)) (d ∷ r) }
unfolding lexed unblanked token_at word_at
bare_lexed o b bs d r h hs w =
    let l : List ℕ = b ∷ (bs ++ d ∷ r) in
    let start : unblanked false o l ≡ at o l =
    ap (λ w. cond w (unblanked false (o + 1) (bs ++ d ∷ r)) (cond (b == 35) (unblanked true (o + 1) (bs ++ d ∷ r)) (at o l))) h.white
    ∙ ap (λ t. cond t (unblanked true (o + 1) (bs ++ d ∷ r)) (at o l)) h.hash in
    let many : word_len l ≡ length (b ∷ bs) = let e = ap length (take_word bs hs d r w) in omega arith in
    ap (λ (m : At). token_at m.offset m.rest) start
    ∙ ap (λ q. cond q (quoted_at o (bs ++ d ∷ r)) (word_at o l)) h.quote
    ∙ ap (λ (n : ℕ). let f : Found = record { kind = kind.Word; at = o; content = take n l; after = at (o + n) (drop n l) } in f) many
    ∙ ap (λ (c : List ℕ). let f : Found = record { kind = kind.Word; at = o; content = c; after = at (o + length (b ∷ bs)) (drop (length (b ∷ bs)) l) } in f) (take-append_seam (b ∷ bs) (d ∷ r))
    ∙ ap (λ (c : List ℕ). let f : Found = record { kind = kind.Word; at = o; content = b ∷ bs; after = at (o + length (b ∷ bs)) c } in f) (drop-append_seam (b ∷ bs) (d ∷ r))

-- ---- strings

-- a byte that stands for itself
record IsPlain (b : ℕ) : Type 0 where
  quote : (b == 34) ≡ false
  backslash : (b == 92) ≡ false
  newline : (b == 10) ≡ false

abbrev Escape : ℕ → Type 0
Escape b = (b ≡ 34) ⊎ ((b ≡ 92) ⊎ ((b ≡ 10) ⊎ IsPlain b))

cases_third : (b : ℕ) → (b == 34) ≡ false → (b == 92) ≡ false → (((b == 10) ≡ true) × (b ≡ 10)) ⊎ (((b == 10) ≡ false) × (b ≡ 10 → ⊥)) → Escape b
cases_third b p q (inl h) = inr (inr (inl h.1))
cases_third b p q (inr h) = inr (inr (inr (record { quote = p; backslash = q; newline = h.0 })))

cases_second : (b : ℕ) → (b == 34) ≡ false → (((b == 92) ≡ true) × (b ≡ 92)) ⊎ (((b == 92) ≡ false) × (b ≡ 92 → ⊥)) → Escape b
cases_second b p (inl h) = inr (inl h.1)
cases_second b p (inr h) = cases_third b p h.0 (eqb_tells b 10)

cases_first : (b : ℕ) → (((b == 34) ≡ true) × (b ≡ 34)) ⊎ (((b == 34) ≡ false) × (b ≡ 34 → ⊥)) → Escape b
cases_first b (inl h) = inl h.1
cases_first b (inr h) = cases_second b h.0 (eqb_tells b 92)

escape_of : (b : ℕ) → Escape b
escape_of b = cases_first b (eqb_tells b 34)

plain_escaped : (b : ℕ) → IsPlain b → escaped b ≡ b ∷ []
plain_escaped b h =
    ap (λ t. cond t (92 ∷ 34 ∷ []) (cond (b == 92) (92 ∷ 92 ∷ []) (cond (b == 10) (92 ∷ 110 ∷ []) (b ∷ [])))) h.quote
    ∙ ap (λ t. cond t (92 ∷ 92 ∷ []) (cond (b == 10) (92 ∷ 110 ∷ []) (b ∷ []))) h.backslash
    ∙ ap (λ t. cond t (92 ∷ 110 ∷ []) (b ∷ [])) h.newline

-- what holds of bytes as they are written, byte by byte
by_escape : (P : List ℕ → ℕ → Type 0) → P (92 ∷ 34 ∷ []) 34 → P (92 ∷ 92 ∷ []) 92 → P (92 ∷ 110 ∷ []) 10 → ((b : ℕ) → IsPlain b → P (b ∷ []) b) → (b : ℕ) → Escape b → P (escaped b) b
by_escape P q k n o b (inl e) = subst (λ (b : ℕ). P (escaped b) b) (sym e) q
by_escape P q k n o b (inr (inl e)) = subst (λ (b : ℕ). P (escaped b) b) (sym e) k
by_escape P q k n o b (inr (inr (inl e))) = subst (λ (b : ℕ). P (escaped b) b) (sym e) n
by_escape P q k n o b (inr (inr (inr h))) = subst (λ (l : List ℕ). P l b) (sym (plain_escaped b h)) (o b h)

closed_plain : (b : ℕ) → IsPlain b → (n : ℕ) (rest : List ℕ) → closed_at n false (b ∷ rest) ≡ closed_at (n + 1) false rest
unfolding closed_at
closed_plain b h n rest =
    ap (λ t. cond t None (cond (b == 34 && true) (Some n) (closed_at (n + 1) (b == 92 && true) rest))) h.newline
    ∙ ap (λ t. cond (t && true) (Some n) (closed_at (n + 1) (b == 92 && true) rest)) h.quote
    ∙ ap (λ t. closed_at (n + 1) (t && true) rest) h.backslash

plus_two : (n l : ℕ) → n + 1 + 1 + l ≡ n + suc (suc l)
plus_two n l = omega arith

plus_one : (n l : ℕ) → n + 1 + l ≡ n + suc l
plus_one n l = omega arith

closed : (bs r : List ℕ) (n : ℕ) → closed_at n false (all_escaped bs ++ 34 ∷ r) ≡ Some (n + length (all_escaped bs))
unfolding closed_at
closed [] r n = let e : n ≡ n + 0 = omega arith in ap (λ (k : ℕ). Some k) e
closed (b ∷ bs) r n =
    let P : List ℕ → ℕ → Type 0 = λ l b. closed_at n false ((l ++ all_escaped bs) ++ 34 ∷ r) ≡ Some (n + length (l ++ all_escaped bs)) in
    let two : closed_at (n + 1 + 1) false (all_escaped bs ++ 34 ∷ r) ≡ Some (n + suc (suc (length (all_escaped bs)))) = closed bs r (n + 1 + 1) ∙ ap (λ (k : ℕ). Some k) (plus_two n (length (all_escaped bs))) in
    by_escape P two two two (λ b h. closed_plain b h n (all_escaped bs ++ 34 ∷ r) ∙ closed bs r (n + 1) ∙ ap (λ (k : ℕ). Some k) (plus_one n (length (all_escaped bs)))) b (escape_of b)

bad_plain : (b : ℕ) → IsPlain b → (n : ℕ) (rest : List ℕ) → bad_at n false (b ∷ rest) ≡ bad_at (n + 1) false rest
unfolding bad_at
bad_plain b h n rest = ap (λ t. cond t (bad_at n true rest) (bad_at (n + 1) false rest)) h.backslash

good : (bs : List ℕ) (n : ℕ) → bad_at n false (all_escaped bs) ≡ None
unfolding bad_at
good [] n = refl
good (b ∷ bs) n =
    let P : List ℕ → ℕ → Type 0 = λ l b. bad_at n false (l ++ all_escaped bs) ≡ None in
    by_escape P (good bs (n + 2)) (good bs (n + 2)) (good bs (n + 2)) (λ b h. bad_plain b h n (all_escaped bs) ∙ good bs (n + 1)) b (escape_of b)

meaning_plain : (b : ℕ) → IsPlain b → (rest : List ℕ) → meaning_of false (b ∷ rest) ≡ b ∷ meaning_of false rest
unfolding meaning_of
meaning_plain b h rest = ap (λ t. cond t (meaning_of true rest) (b ∷ meaning_of false rest)) h.backslash

-- a written text stands for itself
pub meant : (bs : List ℕ) → meaning_of false (all_escaped bs) ≡ bs
unfolding meaning_of
meant [] = refl
meant (b ∷ bs) =
    let P : List ℕ → ℕ → Type 0 = λ l b. meaning_of false (l ++ all_escaped bs) ≡ b ∷ bs in
    by_escape P (ap (λ l. 34 ∷ l) (meant bs)) (ap (λ l. 92 ∷ l) (meant bs)) (ap (λ l. 10 ∷ l) (meant bs)) (λ b h. meaning_plain b h (all_escaped bs) ∙ ap (λ l. b ∷ l) (meant bs)) b (escape_of b)

-- a string
quoted_lexed : (o : ℕ) (bs r : List ℕ) → lexed (at o (34 ∷ (all_escaped bs ++ 34 ∷ r))) ≡ record { kind = kind.Quoted; at = o; content = all_escaped bs; after = at (o + 2 + length (all_escaped bs)) r }
unfolding lexed unblanked token_at quoted_at
quoted_lexed o bs r =
    let l : List ℕ = all_escaped bs ++ 34 ∷ r in
    let n : ℕ = length (all_escaped bs) in
    let front : 0 + n ≡ n = omega arith in
    ap (string_by o l) (closed bs r 0 ∙ ap (λ (k : ℕ). Some k) front)
    ∙ ap (λ (c : List ℕ). quoted_by o l n (bad_at 0 false c)) (take-append_seam (all_escaped bs) (34 ∷ r))
    ∙ ap (quoted_by o l n) (good bs 0)
    ∙ ap (λ (c : List ℕ). let f : Found = record { kind = kind.Quoted; at = o; content = c; after = at (o + 2 + n) (drop 1 (drop n l)) } in f) (take-append_seam (all_escaped bs) (34 ∷ r))
    ∙ ap (λ (d : List ℕ). let f : Found = record { kind = kind.Quoted; at = o; content = all_escaped bs; after = at (o + 2 + n) (drop 1 d) } in f) (drop-append_seam (all_escaped bs) (34 ∷ r))

-- ---- white space

lexed_space : (o : ℕ) (l : List ℕ) → lexed (at o (32 ∷ l)) ≡ lexed (at (o + 1) l)
unfolding lexed unblanked
lexed_space o l = refl

lexed_line : (o : ℕ) (l : List ℕ) → lexed (at o (10 ∷ l)) ≡ lexed (at (o + 1) l)
unfolding lexed unblanked
lexed_line o l = refl

-- ---- words and lines

abbrev pub IsGood : Word → Type 0
IsGood (bare w) = IsBare w
IsGood (in_quotes b) = Unit {0}

abbrev pub AreGood : List Word → Type 0
AreGood [] = Unit {0}
AreGood (w ∷ ws) = IsGood w × AreGood ws

abbrev pub IsLine : List Word → Type 0
IsLine [] = ⊥
IsLine (w ∷ ws) = IsGood w × AreGood ws

abbrev pub AreLines : List (List Word) → Type 0
AreLines [] = Unit {0}
AreLines (l ∷ ls) = IsLine l × AreLines ls

abbrev pub words_of : List (List Word) → List Word
words_of [] = []
words_of (l ∷ ls) = l ++ words_of ls

word_lexed : (w : Word) → IsGood w → (o d : ℕ) (r : List ℕ) → is_white d ≡ true → (n : ℕ) × (lexed (at o (written w ++ d ∷ r)) ≡ found_of w o (at n (d ∷ r)))
word_lexed (bare []) h o d r white = absurd h
word_lexed (bare (b ∷ bs)) h o d r white = (o + length (b ∷ bs), bare_lexed o b bs d r h.0 h.1 white)
word_lexed (in_quotes bs) h o d r white =
    (o + 2 + length (all_escaped bs), ap (λ (l : List ℕ). lexed (at o (34 ∷ l))) (append_assoc (all_escaped bs) (34 ∷ []) (d ∷ r)) ∙ quoted_lexed o bs (d ∷ r))

line_runs : (w : Word) (ws : List Word) → IsGood w → AreGood ws → (o : ℕ) (rest : List ℕ) (behind : List Word)
    → ((n : ℕ) → (e : At) × Runs (at n (10 ∷ rest)) behind e) → (e : At) × Runs (at o (line (w ∷ ws) rest)) (w ∷ (ws ++ behind)) e
line_runs w [] h hs o rest behind next =
    let l = word_lexed w h o 10 rest refl in
    let r = next l.0 in
    (r.0, record { it = (o, at l.0 (10 ∷ rest), l.1, r.1.it) })
line_runs w (v ∷ ws) h hs o rest behind next =
    let l = word_lexed w h o 32 (line (v ∷ ws) rest) refl in
    let r = line_runs v ws hs.0 hs.1 (l.0 + 1) rest behind next in
    (r.0, record { it = (o, at l.0 (32 ∷ line (v ∷ ws) rest), l.1, (runs_shift v (ws ++ behind) (at l.0 (32 ∷ line (v ∷ ws) rest)) (at (l.0 + 1) (line (v ∷ ws) rest)) r.0 (lexed_space l.0 (line (v ∷ ws) rest)) r.1).it) })

behind_newline : (ls : List (List Word)) → AreLines ls → (o : ℕ) → (e : At) × Runs (at o (10 ∷ laid ls)) (words_of ls) e
behind_newline [] h o = (at o (10 ∷ []), record { it = refl })
behind_newline ([] ∷ ls) h o = absurd h.0
behind_newline ((w ∷ ws) ∷ ls) h o =
    let r = line_runs w ws h.0.0 h.0.1 (o + 1) (laid ls) (words_of ls) (λ n. behind_newline ls h.1 n) in
    (r.0, runs_shift w (ws ++ words_of ls) (at o (10 ∷ line (w ∷ ws) (laid ls))) (at (o + 1) (line (w ∷ ws) (laid ls))) r.0 (lexed_line o (line (w ∷ ws) (laid ls))) r.1)

laid_runs : (ls : List (List Word)) → AreLines ls → (o : ℕ) → (e : At) × Runs (at o (laid ls)) (words_of ls) e
laid_runs [] h o = (at o [], record { it = refl })
laid_runs ([] ∷ ls) h o = absurd h.0
laid_runs ((w ∷ ws) ∷ ls) h o = line_runs w ws h.0.0 h.0.1 o (laid ls) (words_of ls) (λ n. behind_newline ls h.1 n)

-- the words of a text stand in it, line by line
pub text_runs : (ls : List (List Word)) → AreLines ls → (o : ℕ) → (e : At) × Runs (at o (spelled ls)) (words_of ls) e
text_runs ls h o = let r = laid_runs ls h o in (r.0, subst (λ (l : List ℕ). Runs (at o l) (words_of ls) r.0) (laid_is ls) r.1)
