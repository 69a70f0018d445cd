-- A text begins with exactly one token or with exactly one fault, the one that is read.
use Rattle.std.specs.Prelude.{◌==◌, ◌||◌, ◌&&◌, nat_lt, replicate}
use Rattle.std.proofs.Common.{◌≡◌, ℕ, ◌<◌, ◌≤◌, List, [], ◌∷◌, ◌++◌, length, Bool, true, false, refl, sym, ap, subst, arith, ◌⊎◌, inl, inr, Option, Some, None, Ok, Err, append_assoc}
use Rattle.std.proofs.lemmas.Bool.{eqb-true, eqb-false, eq-eqb}
use Rattle.std.proofs.lemmas.Bool.Decides.{nat_tests}
use Rattle.dx_base.specs.declared.token.LexKind.{LexKind}
use Rattle.dx_base.specs.declared.token.LexKind.TheVariants as kind
use Rattle.dx_base.specs.declared.token.SyntaxKind.{SyntaxKind}
use Rattle.dx_base.specs.declared.token.SyntaxKind.TheVariants as fault
use Rattle.dx_base.specs.Tokens.Classes.{is_digit, is_zero, is_name_start, is_name_byte, is_sign, Each, Stops, begins, begins_digit, begins_float}
use Rattle.dx_base.specs.Tokens.Spelling.{max_name, Sign, Unsigned, Plus, Minus, Numeral, sign_bytes, fraction_bytes, numeral_bytes, EndsFraction, IsNumeral, value, IsInt, item_bytes, AreItems, AreGood, meaning, IsSign, IsToken}
use Rattle.dx_base.specs.Tokens.Refusals.{IsRefusal, long_name, no_frame, open_string, bad_backslash, stray, fraction, point, beyond, IsPoint, IsOpen}
use Rattle.dx_base.specs.Tokens.Reading.{front, is_frame}
use Rattle.dx_base.proofs.Tokens.Spans.{IsSpan, spanned, decided}
use Rattle.dx_base.proofs.Tokens.Fronts.{point_at}
use Rattle.dx_base.proofs.Tokens.WordLaw.{name_read, long_read, frame_read, no_frame_read, frame_known, frame_tested}
use Rattle.dx_base.proofs.Tokens.NumberLaw.{int_read, fraction_refused, beyond_refused, int_decided}
use Rattle.dx_base.proofs.Tokens.StringLaw.{string_read, bad_refused, open_refused, Closes, closes_or_open, IsBad, items_decided}
use Rattle.dx_base.proofs.Tokens.SignLaw.{sign_read, stray_refused}

-- ---- what stands is what is read

end_read : front [] ≡ Ok (kind.End, 0)
unfolding front
end_read = refl

pub token_read : (found : LexKind) (bytes rest : List ℕ) → IsToken found bytes rest → front (bytes ++ rest) ≡ Ok (found, length bytes)
token_read kind.End bytes rest is = rw (is.0, is.1) end_read
token_read (kind.Name name) bytes rest is = rw is.0 (name_read name rest is.1)
token_read (kind.Int v) bytes rest is = rw is.spelled (int_read v is.numeral rest is.longest is.whole is.same is.in_range)
token_read (kind.Text text) bytes rest is = string_read text bytes rest is
token_read (kind.Frame spelled) bytes rest is = rw (is.0, is.2) (frame_read is.1 rest is.3)
token_read (kind.Sign sign) bytes rest is = rw is.0 (sign_read sign rest is.1)

point_refused : (text : List ℕ) → IsPoint text → front text ≡ Err (fault.FloatNumber, 0)
point_refused text is = rw is.parts (point_at is.behind is.digit)

pub refusal_read : (text before : List ℕ) (wrong : SyntaxKind) → IsRefusal text before wrong → front text ≡ Err (wrong, length before)
refusal_read text before wrong (long_name is e) = rw (e, is.parts) (long_read is.name is.behind is.word is.long is.end)
refusal_read text before wrong (no_frame is e) = rw (e, is.parts) (no_frame_read is.word is.behind is.bytes is.end is.none)
refusal_read text before wrong (open_string is e) = rw e (open_refused text is)
refusal_read text before wrong (bad_backslash is) = bad_refused text before is
refusal_read text before wrong (stray is e) = rw e (stray_refused text is)
refusal_read text before wrong (fraction is e) = rw (e, is.parts) (fraction_refused is.numeral is.behind is.longest is.float)
refusal_read text before wrong (point is e) = rw e (point_refused text is)
refusal_read text before wrong (beyond is e) = rw (e, is.parts) (beyond_refused is.numeral is.behind is.longest is.whole is.outside)

-- ---- something stands

pub record HasToken (text : List ℕ) : Type 0 where
  pub kind_ : LexKind
  pub bytes : List ℕ
  pub rest : List ℕ
  pub parts : text ≡ bytes ++ rest
  pub token : IsToken kind_ bytes rest

pub record HasRefusal (text : List ℕ) : Type 0 where
  pub kind_ : SyntaxKind
  pub before : List ℕ
  pub refusal : IsRefusal text before kind_

abbrev pub Has : List ℕ → Type 0
Has text = HasToken text ⊎ HasRefusal text

has_name : (b : ℕ) (rest : List ℕ) → is_name_start b ≡ true → IsSpan is_name_byte rest → Has (b ∷ rest)
has_name b rest start span = by_test (nat_lt 255 (length (b ∷ span.front))) refl
  where
    by_test : (long : Bool) → nat_lt 255 (length (b ∷ span.front)) ≡ long → Has (b ∷ rest)
    by_test true e = let long : max_name < length (b ∷ span.front) = grind (arith, nat_tests) in inr (record {
      kind_ = fault.Syntax;
      before = [];
      refusal = long_name (record { name = b ∷ span.front; behind = span.rest; parts = ap (λ (t : List ℕ). b ∷ t) span.parts; word = (start, span.each); long = long; end = span.stops }) refl;
    })
    by_test false e = let short : length (b ∷ span.front) ≤ max_name = grind (arith, nat_tests) in inl (record {
      kind_ = kind.Name (b ∷ span.front);
      bytes = b ∷ span.front;
      rest = span.rest;
      parts = ap (λ (t : List ℕ). b ∷ t) span.parts;
      token = (refl, record { word = (start, span.each); short = short; end = span.stops });
    })

has_frame : (rest : List ℕ) → IsSpan is_name_byte rest → Has (64 ∷ rest)
has_frame rest span = by_test (is_frame span.front) refl
  where
    by_test : (known : Bool) → is_frame span.front ≡ known → Has (64 ∷ rest)
    by_test true e = inl (record {
      kind_ = kind.Frame (64 ∷ span.front);
      bytes = 64 ∷ span.front;
      rest = span.rest;
      parts = ap (λ (t : List ℕ). 64 ∷ t) span.parts;
      token = (refl, span.front, refl, record { frame = frame_known span.front e; end = span.stops });
    })
    by_test false e = inr (record {
      kind_ = fault.Syntax;
      before = [];
      refusal = no_frame (record { word = span.front; behind = span.rest; parts = ap (λ (t : List ℕ). 64 ∷ t) span.parts; bytes = span.each; end = span.stops; none = λ is. let yes = frame_tested span.front is in absurd cc }) refl;
    })

-- a fraction or none behind digits
record HasFraction (rest : List ℕ) : Type 0 where
  pub zeros : Option ℕ
  pub behind : List ℕ
  pub parts : rest ≡ fraction_bytes zeros ++ behind
  pub ends : EndsFraction zeros behind

each_zero_is : (zeros : List ℕ) → Each is_zero zeros → zeros ≡ replicate (length zeros) 48
each_zero_is [] each = refl
each_zero_is (b ∷ more) each = let same = eqb-true b 48 each.0 in let ih = each_zero_is more each.1 in cc

no_zeros : (zeros behind rest : List ℕ) → rest ≡ zeros ++ behind → begins 46 rest ≡ false → length zeros ≡ 0 → begins 46 behind ≡ false
no_zeros [] behind rest parts single e = subst (λ (t : List ℕ). begins 46 t ≡ false) parts single
no_zeros (b ∷ more) behind rest parts single e = absurd (omega arith)

point_fraction : (rest : List ℕ) → begins 46 rest ≡ false → IsSpan is_zero rest → HasFraction (46 ∷ rest)
point_fraction rest single span = record {
  zeros = Some (length span.front);
  behind = span.rest;
  parts = rw (← each_zero_is span.front span.each) (ap (λ (t : List ℕ). 46 ∷ t) span.parts);
  ends = (span.stops, no_zeros span.front span.rest rest span.parts single);
}

has_fraction : (rest : List ℕ) → Stops is_digit rest → HasFraction rest
has_fraction [] stops = record { zeros = None; behind = []; parts = refl; ends = (tt, λ e. absurd cc) }
has_fraction (b ∷ rest) stops = by_test (b == 46) (begins 46 rest) refl refl
  where
    by_test : (one two : Bool) → (b == 46) ≡ one → begins 46 rest ≡ two → HasFraction (b ∷ rest)
    by_test true true e f = record { zeros = None; behind = b ∷ rest; parts = refl; ends = (stops, λ g. rw (e, f) refl) }
    by_test true false e f = subst (λ (c : ℕ). HasFraction (c ∷ rest)) (sym (eqb-true b 46 e)) (point_fraction rest f (spanned is_zero rest))
    by_test false two e f = record { zeros = None; behind = b ∷ rest; parts = refl; ends = (stops, λ g. absurd cc) }

numeral_decided : (n : Numeral) (behind : List ℕ) → IsNumeral n behind → Has (numeral_bytes n ++ behind)
numeral_decided n behind is = by_test (begins_float behind) refl (int_decided (value n))
  where
    by_test : (float : Bool) → begins_float behind ≡ float → IsInt (value n) ⊎ (IsInt (value n) → ⊥) → Has (numeral_bytes n ++ behind)
    by_test true e known = inr (record { kind_ = fault.FloatNumber; before = []; refusal = fraction (record { numeral = n; behind = behind; parts = refl; longest = is; float = e }) refl })
    by_test false e (inl range) = inl (record { kind_ = kind.Int (value n); bytes = numeral_bytes n; rest = behind; parts = refl; token = record { numeral = n; spelled = refl; longest = is; whole = e; same = refl; in_range = range } })
    by_test false e (inr outside) = inr (record { kind_ = fault.NumberRange; before = []; refusal = beyond (record { numeral = n; behind = behind; parts = refl; longest = is; whole = e; outside = outside }) refl })

has_numeral : (sign : Sign) (digits rest : List ℕ) → 0 < length digits → Each is_digit digits → HasFraction rest → Has (sign_bytes sign ++ (digits ++ rest))
has_numeral sign digits rest some each f =
    let n : Numeral = record { sign = sign; digits = digits; fraction = f.zeros } in
    let same : numeral_bytes n ++ f.behind ≡ sign_bytes sign ++ (digits ++ rest) = rw (f.parts, append_assoc (sign_bytes sign) (digits ++ fraction_bytes f.zeros) f.behind, append_assoc digits (fraction_bytes f.zeros) f.behind) refl in
    subst Has same (numeral_decided n f.behind (record { some = some; digits = each; end = f.ends }))

has_digits : (sign : Sign) (d : ℕ) (rest : List ℕ) → is_digit d ≡ true → IsSpan is_digit rest → Has (sign_bytes sign ++ (d ∷ rest))
has_digits sign d rest digit span =
    rw span.parts (has_numeral sign (d ∷ span.front) span.rest (omega arith) (digit, span.each) (has_fraction span.rest span.stops))

has_signed : (sign : Sign) (rest : List ℕ) → begins_digit rest ≡ true → Has (sign_bytes sign ++ rest)
has_signed sign [] e = absurd cc
has_signed sign (d ∷ rest) e = has_digits sign d rest e (spanned is_digit rest)

has_closed : (inside : List ℕ) → (c : Closes inside) → AreGood c.items ⊎ IsBad c.items → Has (34 ∷ inside)
has_closed inside c (inl good) = inl (record {
  kind_ = kind.Text (meaning c.items);
  bytes = 34 ∷ (item_bytes c.items ++ 34 ∷ []);
  rest = c.rest;
  parts = rw (c.parts, append_assoc (item_bytes c.items) (34 ∷ []) c.rest) refl;
  token = record { items = c.items; spelled = refl; lawful = c.lawful; good = good; same = refl };
})
has_closed inside c (inr bad) = inr (record {
  kind_ = fault.Syntax;
  before = 34 ∷ item_bytes bad.front;
  refusal = bad_backslash (record {
    front = bad.front;
    bad = bad.bad;
    back = bad.back;
    behind = c.rest;
    parts = rw (← bad.parts) (ap (λ (t : List ℕ). 34 ∷ t) c.parts);
    lawful = subst AreItems bad.parts c.lawful;
    good = bad.good;
    wrong = bad.wrong;
    place = refl;
  });
})

has_string : (inside : List ℕ) → Closes inside ⊎ IsOpen (34 ∷ inside) → Has (34 ∷ inside)
has_string inside (inl c) = has_closed inside c (items_decided c.items)
has_string inside (inr open_) = inr (record { kind_ = fault.Syntax; before = []; refusal = open_string open_ refl })

has_sign : (sign rest : List ℕ) → IsSign sign → Has (sign ++ rest)
has_sign sign rest is = inl (record { kind_ = kind.Sign sign; bytes = sign; rest = rest; parts = refl; token = (refl, is) })

first_is : (b c : ℕ) (rest : List ℕ) → (b == c) ≡ true → Has (c ∷ rest) → Has (b ∷ rest)
first_is b c rest e has = subst (λ (x : ℕ). Has (x ∷ rest)) (sym (eqb-true b c e)) has

second_is : (c : ℕ) (rest : List ℕ) → begins c rest ≡ true → (tail : List ℕ) × (rest ≡ c ∷ tail)
second_is c [] e = absurd cc
second_is c (b ∷ tail) e = (tail, ap (λ (x : ℕ). x ∷ tail) (eqb-true b c e))

has_two : (b c : ℕ) (rest : List ℕ) → IsSign (b ∷ c ∷ []) → begins c rest ≡ true → Has (b ∷ rest)
has_two b c rest is e = let t = second_is c rest e in rw t.1 (has_sign (b ∷ c ∷ []) t.0 is)

-- which of the things a byte begins
record Tests (b : ℕ) (rest : List ℕ) : Type 0 where
  pub no_name : is_name_start b ≡ false
  pub no_number : is_digit b ≡ false
  pub no_plus : (b == 43 && begins_digit rest) ≡ false
  pub no_minus : (b == 45 && begins_digit rest) ≡ false
  pub no_point : (b == 46 && begins_digit rest) ≡ false
  pub no_string : (b == 34) ≡ false
  pub no_frame : (b == 64) ≡ false
  pub no_sign : is_sign b ≡ false
  pub no_arrow : (b == 45 && begins 62 rest) ≡ false
  pub no_range : (b == 46 && begins 46 rest) ≡ false

second_no : (x y : Bool) → (x && y) ≡ false → x ≡ true → y ≡ false
second_no true y e f = e
second_no false y e f = absurd cc

has_stray : (b : ℕ) (rest : List ℕ) → Tests b rest → Has (b ∷ rest)
has_stray b rest t = inr (record {
  kind_ = fault.Syntax;
  before = [];
  refusal = stray (record {
    byte = b;
    behind = rest;
    parts = refl;
    no_name = t.no_name;
    no_number = t.no_number;
    no_signed = λ e. signed (b == 43) (b == 45) (begins_digit rest) t.no_plus t.no_minus e;
    no_point = λ e. second_no (b == 46) (begins_digit rest) t.no_point (eq-eqb b 46 e);
    no_string = eqb-false b 34 t.no_string;
    no_frame = eqb-false b 64 t.no_frame;
    no_sign = t.no_sign;
    no_arrow = λ e. second_no (b == 45) (begins 62 rest) t.no_arrow (eq-eqb b 45 e);
    no_range = λ e. second_no (b == 46) (begins 46 rest) t.no_range (eq-eqb b 46 e);
  }) refl;
})
  where
    signed : (x y z : Bool) → (x && z) ≡ false → (y && z) ≡ false → (x || y) ≡ true → z ≡ false
    signed true y z e f g = e
    signed false true z e f g = f
    signed false false z e f g = absurd cc

both_true : (x y : Bool) → (x && y) ≡ true → (x ≡ true) × (y ≡ true)
both_true true y e = (refl, e)
both_true false y e = absurd cc

has_first : (b : ℕ) (rest : List ℕ) → Has (b ∷ rest)
has_first b rest =
    elim (decided (is_name_start b)) [
      | inl e ↦ has_name b rest e (spanned is_name_byte rest)
      | inr no_name ↦
          elim (decided (is_digit b)) [
            | inl e ↦ has_signed Unsigned (b ∷ rest) e
            | inr no_number ↦
                elim (decided (b == 43 && begins_digit rest)) [
                  | inl e ↦ let is = both_true (b == 43) (begins_digit rest) e in first_is b 43 rest is.0 (has_signed Plus rest is.1)
                  | inr no_plus ↦
                      elim (decided (b == 45 && begins_digit rest)) [
                        | inl e ↦ let is = both_true (b == 45) (begins_digit rest) e in first_is b 45 rest is.0 (has_signed Minus rest is.1)
                        | inr no_minus ↦
                            elim (decided (b == 46 && begins_digit rest)) [
                              | inl e ↦ let is = both_true (b == 46) (begins_digit rest) e in first_is b 46 rest is.0 (has_point rest is.1)
                              | inr no_point ↦
                                  elim (decided (b == 34)) [
                                    | inl e ↦ first_is b 34 rest e (has_string rest (closes_or_open rest))
                                    | inr no_string ↦
                                        elim (decided (b == 64)) [
                                          | inl e ↦ first_is b 64 rest e (has_frame rest (spanned is_name_byte rest))
                                          | inr no_at ↦
                                              elim (decided (is_sign b)) [
                                                | inl e ↦ has_sign (b ∷ []) rest (inl (b, refl, e))
                                                | inr no_sign ↦
                                                    elim (decided (b == 45 && begins 62 rest)) [
                                                      | inl e ↦ let is = both_true (b == 45) (begins 62 rest) e in first_is b 45 rest is.0 (has_two 45 62 rest (inr (inl refl)) is.1)
                                                      | inr no_arrow ↦
                                                          elim (decided (b == 46 && begins 46 rest)) [
                                                            | inl e ↦ let is = both_true (b == 46) (begins 46 rest) e in first_is b 46 rest is.0 (has_two 46 46 rest (inr (inr refl)) is.1)
                                                            | inr no_range ↦
                                                                has_stray b rest (record { no_name = no_name; no_number = no_number; no_plus = no_plus; no_minus = no_minus; no_point = no_point; no_string = no_string; no_frame = no_at; no_sign = no_sign; no_arrow = no_arrow; no_range = no_range })
                                                          ]
                                                    ]
                                              ]
                                        ]
                                  ]
                            ]
                      ]
                ]
          ]
    ]
  where
    has_point : (rest : List ℕ) → begins_digit rest ≡ true → Has (46 ∷ rest)
    has_point rest e = inr (record { kind_ = fault.FloatNumber; before = []; refusal = point (record { behind = rest; parts = refl; digit = e }) refl })

-- each text begins with a token or with a fault
pub has_front : (text : List ℕ) → Has text
has_front [] = inl (record { kind_ = kind.End; bytes = []; rest = []; parts = refl; token = (refl, refl) })
has_front (b ∷ rest) = has_first b rest
