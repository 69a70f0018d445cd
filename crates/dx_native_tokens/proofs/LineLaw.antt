-- How a line ends is what is read.
use Rattle.std.specs.Prelude.{◌==◌}
use Rattle.std.proofs.Common.{◌≡◌, ℕ, suc, ◌+◌, List, [], ◌∷◌, ◌++◌, length, Bool, true, false, refl, sym, ap, subst, arith, inl, inr, ◌∙◌, Ok, Err, add-zero}
use Rattle.std.proofs.lemmas.Bool.{eqb-true, eqb-false, ne_eqb}
use Rattle.dx_base.specs.declared.code.NativeKind.TheVariants as fault
use Rattle.dx_places.specs.Grammar.{At, Outcome}
use Rattle.dx_native_lex.specs.declared.fault.NativeError.{NativeError}
use Rattle.dx_native_lex.specs.Token.{error}
use Rattle.dx_native_lex.specs.Raw.{is_gap, line_end, line_end_by}
use Rattle.dx_native_tokens.specs.LineEnds.{IsBlank, space, tab, carriage_return, AreBlank, IsLineEnd, IsNoLineEnd, StandsLineEnd}

blank_yes : (b : ℕ) → IsBlank b → is_gap b ≡ true
blank_yes b space = refl
blank_yes b tab = refl
blank_yes b carriage_return = refl

blank_no_newline : (b : ℕ) → IsBlank b → (b == 10) ≡ false
blank_no_newline b space = refl
blank_no_newline b tab = refl
blank_no_newline b carriage_return = refl

yes_blank : (b : ℕ) → is_gap b ≡ true → IsBlank b
yes_blank b e = by_test (b == 32) (b == 9) (b == 13) refl refl refl
  where
    by_test : (p q r : Bool) → (b == 32) ≡ p → (b == 9) ≡ q → (b == 13) ≡ r → IsBlank b
    by_test true q r f g h = subst IsBlank (sym (eqb-true b 32 f)) space
    by_test false true r f g h = subst IsBlank (sym (eqb-true b 9 g)) tab
    by_test false false true f g h = subst IsBlank (sym (eqb-true b 13 h)) carriage_return
    by_test false false false f g h = let none : is_gap b ≡ false = rw (f, g, h) refl in absurd cc

no_blank : (b : ℕ) → (IsBlank b → ⊥) → is_gap b ≡ false
no_blank b none = by_test (is_gap b) refl
  where
    by_test : (p : Bool) → is_gap b ≡ p → is_gap b ≡ false
    by_test true e = absurd (none (yes_blank b e))
    by_test false e = e

over_blank : (n b : ℕ) (rest : List ℕ) → IsBlank b → line_end_by n (b ∷ rest) ≡ line_end_by (n + 1) rest
unfolding line_end_by
over_blank n b rest is = rw (blank_no_newline b is, blank_yes b is) refl

at_newline : (n : ℕ) (rest : List ℕ) → line_end_by n (10 ∷ rest) ≡ Ok (tt, record { offset = n + 1; rest = rest })
unfolding line_end_by
at_newline n rest = refl

at_other : (n b : ℕ) (rest : List ℕ) → (b == 10) ≡ false → is_gap b ≡ false → line_end_by n (b ∷ rest) ≡ Err (error fault.Syntax n)
unfolding line_end_by
at_other n b rest e f = rw (e, f) refl

at_end : (n : ℕ) → line_end_by n [] ≡ Err (error fault.Truncated n)
unfolding line_end_by
at_end n = refl

shift_suc : (n m : ℕ) → n + 1 + m ≡ n + suc m
shift_suc n m = omega arith

over_blanks : (n : ℕ) (blanks rest : List ℕ) → AreBlank blanks → line_end_by n (blanks ++ rest) ≡ line_end_by (n + length blanks) rest
over_blanks n [] rest are = rw add-zero refl
over_blanks n (b ∷ more) rest are = over_blank n b (more ++ rest) are.0 ∙ over_blanks (n + 1) more rest are.1 ∙ ap (λ (m : ℕ). line_end_by m rest) (shift_suc n (length more))

all_blank : (n : ℕ) (blanks : List ℕ) → AreBlank blanks → line_end_by n blanks ≡ Err (error fault.Truncated (n + length blanks))
all_blank n [] are = at_end n ∙ ap (λ (m : ℕ). let r : Outcome NativeError (Unit {0}) = Err (error fault.Truncated m) in r) (sym (add-zero n))
all_blank n (b ∷ more) are = over_blank n b more are.0 ∙ all_blank (n + 1) more are.1 ∙ ap (λ (m : ℕ). let r : Outcome NativeError (Unit {0}) = Err (error fault.Truncated m) in r) (shift_suc n (length more))

pub end_read : (s e : At) → IsLineEnd s e → line_end.read s ≡ Ok (tt, e)
end_read s e is =
    let place : record { offset = s.offset + length is.blanks + 1; rest = e.rest } ≡ e = λ i. record { offset = sym is.offset i; rest = e.rest } in
    ap (line_end_by s.offset) is.parts ∙ over_blanks s.offset is.blanks (10 ∷ e.rest) is.blank ∙ at_newline (s.offset + length is.blanks) e.rest
    ∙ ap (λ (e : At). let r : Outcome NativeError (Unit {0}) = Ok (tt, e) in r) place

pub fault_read : (s : At) (f : NativeError) → IsNoLineEnd s f → line_end.read s ≡ Err f
fault_read s f (inl cut) = all_blank s.offset s.rest cut.blank ∙ ap (λ (f : NativeError). let r : Outcome NativeError (Unit {0}) = Err f in r) (sym cut.fault)
fault_read s f (inr is) =
    ap (line_end_by s.offset) is.parts ∙ over_blanks s.offset is.blanks (is.byte ∷ is.behind) is.blank
    ∙ at_other (s.offset + length is.blanks) is.byte is.behind (ne_eqb is.byte 10 is.no_newline) (no_blank is.byte is.no_blank)
    ∙ ap (λ (f : NativeError). let r : Outcome NativeError (Unit {0}) = Err f in r) (sym is.fault)

-- ---- there is an end, or a fault

abbrev at : ℕ → List ℕ → At
at n rest = record { offset = n; rest = rest }

next_blank : (n b : ℕ) (rest : List ℕ) → IsBlank b → (o : Outcome NativeError (Unit {0})) → StandsLineEnd (at (n + 1) rest) o → StandsLineEnd (at n (b ∷ rest)) o
next_blank n b rest is (Ok found) h = record {
  blanks = b ∷ h.blanks;
  parts = ap (λ (t : List ℕ). b ∷ t) h.parts;
  blank = (is, h.blank);
  offset = let p = h.offset in omega arith;
}
next_blank n b rest is (Err f) (inl cut) = inl (record { blank = (is, cut.blank); fault = cut.fault ∙ ap (error fault.Truncated) (shift_suc n (length rest)) })
next_blank n b rest is (Err f) (inr h) = inr (record {
  blanks = b ∷ h.blanks;
  byte = h.byte;
  behind = h.behind;
  parts = ap (λ (t : List ℕ). b ∷ t) h.parts;
  blank = (is, h.blank);
  no_blank = h.no_blank;
  no_newline = h.no_newline;
  fault = h.fault ∙ ap (error fault.Syntax) (shift_suc n (length h.blanks));
})

stands : (n : ℕ) (text : List ℕ) → StandsLineEnd (at n text) (line_end_by n text)
stands n [] = rw at_end (inl (record { blank = tt; fault = ap (error fault.Truncated) (sym (add-zero n)) }))
stands n (b ∷ rest) = by_test (b == 10) (is_gap b) refl refl (stands (n + 1) rest)
  where
    by_test : (newline blank : Bool) → (b == 10) ≡ newline → is_gap b ≡ blank → StandsLineEnd (at (n + 1) rest) (line_end_by (n + 1) rest) → StandsLineEnd (at n (b ∷ rest)) (line_end_by n (b ∷ rest))
    by_test true blank p q ih =
        subst (λ (c : ℕ). StandsLineEnd (at n (c ∷ rest)) (line_end_by n (c ∷ rest))) (sym (eqb-true b 10 p)) (rw at_newline (record { blanks = []; parts = refl; blank = tt; offset = omega arith }))
    by_test false true p q ih = rw (over_blank n b rest (yes_blank b q)) (next_blank n b rest (yes_blank b q) (line_end_by (n + 1) rest) ih)
    by_test false false p q ih = rw (at_other n b rest p q) (inr (record {
      blanks = [];
      byte = b;
      behind = rest;
      parts = refl;
      blank = tt;
      no_blank = λ is. let yes = blank_yes b is in absurd cc;
      no_newline = eqb-false b 10 p;
      fault = ap (error fault.Syntax) (sym (add-zero n));
    }))

pub end_stands : (s : At) → StandsLineEnd s (line_end.read s)
end_stands s = stands s.offset s.rest
