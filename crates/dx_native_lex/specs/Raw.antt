-- Raw bytes.
use Rattle.std.specs.Prelude.{◌≡◌, ℕ, ◌+◌, ◌≤◌, ◌<◌, Bool, true, false, cond, ◌||◌, if◌then◌else◌, ◌==◌, List, [], ◌∷◌, ◌++◌, length, take, drop, Ok, Err, refl, nat_lt}
use Rattle.std.proofs.Common.{ap, ◌∙◌, sym, arith, length-take, length-append, suc}
use Rattle.std.proofs.lemmas.Bool.Decides.{nat_tests}
use Rattle.std.proofs.lemmas.List.{take-append-drop}
use Rattle.std.proofs.Math.Seq.{take-append_seam, drop-append_seam}
use Rattle.dx_places.specs.Grammar.{At, left, Outcome, IsRead, ok_is, err_is, ◌>>◌}
use Rattle.dx_native_lex.specs.Token.{NativeGrammar, error}
use Rattle.dx_base.specs.declared.code.NativeKind.TheVariants as fault
use Rattle.dx_native_lex.specs.declared.fault.NativeError.{NativeError}

-- ---- the end of a line

abbrev pub is_gap : ℕ → Bool
is_gap b = b == 32 || (b == 9 || b == 13)

unfoldable pub line_end_by : ℕ → List ℕ → Outcome NativeError (Unit {0})
line_end_by at [] = Err (error fault.Truncated at)
line_end_by at (b ∷ rest) = if b == 10 then Ok (tt, record { offset = at + 1; rest = rest }) else (if is_gap b then line_end_by (at + 1) rest else Err (error fault.Syntax at))

either : (P : Outcome NativeError (Unit {0}) → Type 0) (b : Bool) (x y : Outcome NativeError (Unit {0})) → P x → P y → P (cond b x y)
either P true x y p q = p
either P false x y p q = q

abbrev IsLess : ℕ → Outcome NativeError (Unit {0}) → Type 0
IsLess n (Ok p) = left p.1 + 1 ≤ n
IsLess n (Err f) = Unit {0}

more_less : (n m : ℕ) → n ≤ m → (o : Outcome NativeError (Unit {0})) → IsLess n o → IsLess m o
more_less n m l (Ok p) h = omega arith
more_less n m l (Err f) h = tt

line_less : (at : ℕ) (text : List ℕ) → IsLess (length text) (line_end_by at text)
unfolding line_end_by
line_less at [] = tt
line_less at (b ∷ rest) =
    let P = λ (o : Outcome NativeError (Unit {0})). IsLess (suc (length rest)) o in
    either P (b == 10) (Ok (tt, record { offset = at + 1; rest = rest })) _ (omega arith)
    (either P (is_gap b) (line_end_by (at + 1) rest) (Err (error fault.Syntax at)) (more_less (length rest) (suc (length rest)) (omega arith) (line_end_by (at + 1) rest) (line_less (at + 1) rest)) tt)

is_less : (n : ℕ) (o : Outcome NativeError (Unit {0})) → IsLess n o → (a : Unit {0}) (e : At) → o ≡ Ok (a, e) → left e + 1 ≤ n
is_less n (Ok p) h a e g = let q = ap (λ (q : Unit {0} × At). left q.1) (ok_is {F = NativeError} p (a, e) g) in omega arith
is_less n (Err f) h a e g = absurd cc

pub line_end_law : IsRead (λ s a e. line_end_by s.offset s.rest ≡ Ok (a, e)) (λ s f. line_end_by s.offset s.rest ≡ Err f) 1 (λ s. line_end_by s.offset s.rest)
line_end_law = record {
  found = λ s a e h. h;
  fault = λ s f h. h;
  only = λ s a e h. h;
  only_fault = λ s f h. h;
  less = λ s a e h. is_less (left s) (line_end_by s.offset s.rest) (line_less s.offset s.rest) a e h;
}

-- spaces, tabs and carriage returns, and one newline
abbrev pub line_end : NativeGrammar (Unit {0})
line_end = record { is = λ s a e. line_end_by s.offset s.rest ≡ Ok (a, e); fails = λ s f. line_end_by s.offset s.rest ≡ Err f; read = λ s. line_end_by s.offset s.rest; least = 1; law = line_end_law }

-- ---- so many bytes

-- the next n bytes are these
pub record IsRaw (n : ℕ) (s : At) (bytes : List ℕ) (e : At) : Type 0 where
  pub parts : s.rest ≡ bytes ++ e.rest
  pub many : length bytes ≡ n
  pub end : e.offset ≡ s.offset + n

-- the text ends before
pub record IsShort (n : ℕ) (s : At) (f : NativeError) : Type 0 where
  pub short : length s.rest < n
  pub fault : f ≡ error fault.Truncated (s.offset + length s.rest)

unfoldable pub exactly_by : ℕ → At → Outcome NativeError (List ℕ)
exactly_by n s = if nat_lt (length s.rest) n then Err (error fault.Truncated (s.offset + length s.rest)) else Ok (take n s.rest, record { offset = s.offset + n; rest = drop n s.rest })

chosen_found : (n : ℕ) (s : At) (b : Bool) → nat_lt (length s.rest) n ≡ b → (a : List ℕ) (e : At)
    → cond {A = Outcome NativeError (List ℕ)} b (Err (error fault.Truncated (s.offset + length s.rest))) (Ok (take n s.rest, record { offset = s.offset + n; rest = drop n s.rest })) ≡ Ok (a, e) → IsRaw n s a e
chosen_found n s true t a e h = absurd cc
chosen_found n s false t a e h =
    let p = ok_is {F = NativeError} (take n s.rest, record { offset = s.offset + n; rest = drop n s.rest }) (a, e) h in
    let bytes = ap (λ (q : List ℕ × At). q.0) p in
    let rest = ap (λ (q : List ℕ × At). q.1.rest) p in
    let l : n ≤ length s.rest = grind (arith, nat_tests, t) in
    record {
      parts = sym (take-append-drop n s.rest) ∙ ap (λ x. x ++ drop n s.rest) bytes ∙ ap (λ x. a ++ x) rest;
      many = sym (ap length bytes) ∙ (let q : length (take n s.rest) ≡ n = omega (arith, length-take n s.rest) in q);
      end = sym (ap (λ (q : List ℕ × At). q.1.offset) p);
    }

chosen_fault : (n : ℕ) (s : At) (b : Bool) → nat_lt (length s.rest) n ≡ b → (f : NativeError)
    → cond {A = Outcome NativeError (List ℕ)} b (Err (error fault.Truncated (s.offset + length s.rest))) (Ok (take n s.rest, record { offset = s.offset + n; rest = drop n s.rest })) ≡ Err f → IsShort n s f
chosen_fault n s true t f h = record { short = grind (arith, nat_tests, t); fault = sym (err_is {X = List ℕ × At} (error fault.Truncated (s.offset + length s.rest)) f h) }
chosen_fault n s false t f h = absurd cc

raw_only : (n : ℕ) (s : At) (a : List ℕ) (e : At) → IsRaw n s a e → exactly_by n s ≡ Ok (a, e)
unfolding exactly_by
raw_only n s a e h =
    let whole = ap length h.parts in
    let l : n ≤ length s.rest = omega (arith, whole, h.many, length-append a e.rest) in
    let t : nat_lt (length s.rest) n ≡ false = grind (arith, nat_tests) in
    let front : take n s.rest ≡ a = ap (λ n. take n s.rest) (sym h.many) ∙ ap (take (length a)) h.parts ∙ take-append_seam a e.rest in
    let back : drop n s.rest ≡ e.rest = ap (λ n. drop n s.rest) (sym h.many) ∙ ap (drop (length a)) h.parts ∙ drop-append_seam a e.rest in
    let ends = h.end in
    let place : record { offset = s.offset + n; rest = drop n s.rest } ≡ e = λ i. record { offset = sym ends i; rest = back i } in
    ap (λ b. cond {A = Outcome NativeError (List ℕ)} b (Err (error fault.Truncated (s.offset + length s.rest))) (Ok (take n s.rest, record { offset = s.offset + n; rest = drop n s.rest }))) t ∙ ap (λ x. Ok (x, record { offset = s.offset + n; rest = drop n s.rest })) front ∙ ap (λ e. Ok (a, e)) place

raw_short : (n : ℕ) (s : At) (f : NativeError) → IsShort n s f → exactly_by n s ≡ Err f
unfolding exactly_by
raw_short n s f h =
    let t : nat_lt (length s.rest) n ≡ true = grind (arith, nat_tests, h.short) in
    ap (λ b. cond {A = Outcome NativeError (List ℕ)} b (Err (error fault.Truncated (s.offset + length s.rest))) (Ok (take n s.rest, record { offset = s.offset + n; rest = drop n s.rest }))) t ∙ ap (λ f. Err f) (sym h.fault)

pub exactly_law : (n : ℕ) → IsRead (IsRaw n) (IsShort n) 0 (exactly_by n)
unfolding exactly_by
exactly_law n = record {
  found = λ s a e h. chosen_found n s (nat_lt (length s.rest) n) refl a e h;
  fault = λ s f h. chosen_fault n s (nat_lt (length s.rest) n) refl f h;
  only = raw_only n;
  only_fault = raw_short n;
  less = λ s a e h. let r = chosen_found n s (nat_lt (length s.rest) n) refl a e h in let q = ap length r.parts in omega (arith, q, length-append a e.rest);
}

abbrev pub exactly : ℕ → NativeGrammar (List ℕ)
exactly n = record { is = IsRaw n; fails = IsShort n; read = exactly_by n; least = 0; law = exactly_law n }

-- the rest of the line, and so many bytes behind it
unfoldable pub raw : ℕ → NativeGrammar (List ℕ)
raw n = line_end >> exactly n
