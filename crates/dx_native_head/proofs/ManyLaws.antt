-- Values that are read one after the other.
use Rattle.std.proofs.Common.{◌≡◌, ℕ, zero, suc, ◌+◌, ◌-◌, ◌≤◌, ℤ, List, [], ◌∷◌, ◌++◌, length, append-nil, append_assoc, length-append, None, Result, Ok, Err, refl, ap, sym, subst, ◌∙◌, arith}
use Rattle.dx_places.specs.Grammar.{At, and_then, unless, ok_is}
use Rattle.dx_native_lex.specs.Token.{NativeGrammar, Fails, number}
use Rattle.dx_native_lex.proofs.Exits.{passes}
use Rattle.dx_native_lex.specs.declared.fault.NativeError.{NativeError}
use Rattle.dx_native_lex.specs.declared.fault.NativeFail.{NativeFail}
use Rattle.dx_native_lex.specs.declared.token.Number.{Number}
use Rattle.dx_native_grammar.specs.Grammar.{bounded, counted}
use Rattle.dx_native_grammar.specs.Words.{bounds_fault}
use Rattle.dx_native_head.specs.Many.{AreNext, Goes}

-- the first value is found
pub found_one : {A : Type 0} (X : NativeGrammar A) (n : ℕ) (found : List A) (s e : At) (v : A) → X.read s ≡ Ok (v, e) → (counted X (suc n) found).read s ≡ (counted X n (found ++ v ∷ [])).read e
unfolding counted
found_one X n found s e v h = ap (λ r. and_then r (λ v m. (counted X n (found ++ v ∷ [])).read m)) h

-- ---- values that come next

pub next_one : {A : Type 0} (X : NativeGrammar A) (vs : List A) (s m e : At) (v : A) → AreNext X vs s m → X.read m ≡ Ok (v, e) → AreNext X (vs ++ v ∷ []) s e
next_one X vs s m e v next h n found =
    let many : length (vs ++ v ∷ []) + n ≡ length vs + suc n = omega (arith, length-append vs (v ∷ [])) in
    ap (λ k. (counted X k found).read s) many
    ∙ next (suc n) found
    ∙ found_one X n (found ++ vs) m e v h
    ∙ ap (λ ws. (counted X n ws).read e) (append_assoc found vs (v ∷ []))

pub some_more : {A : Type 0} (X : NativeGrammar A) (vs found : List A) (s e : At) (n : ℕ) → AreNext X vs s e → length vs ≤ n → (counted X n found).read s ≡ (counted X (n - length vs) (found ++ vs)).read e
some_more X vs found s e n next few =
    let many : n ≡ length vs + (n - length vs) = omega (arith, few) in
    ap (λ k. (counted X k found).read s) many ∙ next (n - length vs) found

-- the first value is refused
pub refused_one : {A : Type 0} (X : NativeGrammar A) (n : ℕ) (found : List A) (s : At) (f : NativeError) → X.read s ≡ Err f → (counted X (suc n) found).read s ≡ Err f
unfolding counted
refused_one X n found s f h = ap (λ r. and_then r (λ v m. (counted X n (found ++ v ∷ [])).read m)) h

-- ---- so many values, from any others on

-- the values that so many are, and that they come next
pub record AreRead {A : Type 0} (X : NativeGrammar A) (n : ℕ) (found vs : List A) (s e : At) : Type 0 where
  pub values : List A
  pub all : vs ≡ found ++ values
  pub next : AreNext X values s e
  pub many : length values ≡ n

none_read : {A : Type 0} (X : NativeGrammar A) (found vs : List A) (s e : At) → (counted X zero found).read s ≡ Ok (vs, e) → AreRead X zero found vs s e
unfolding counted
none_read {A} X found vs s e h =
    let same : (found, s) ≡ (vs, e) = ok_is {F = NativeError} (found, s) (vs, e) h in
    record {
      values = [];
      all = sym (ap (λ (p : List A × At). p.0) same) ∙ sym (append-nil found);
      next = λ n more.
          let many : length {A = A} [] + n ≡ n = omega arith in
          ap (λ k. (counted X k more).read s) many ∙ ap (λ ws. (counted X n ws).read s) (sym (append-nil more)) ∙ ap (λ (p : List A × At). (counted X n (more ++ [])).read p.1) same;
      many = refl;
    }

one_read : {A : Type 0} (X : NativeGrammar A) (n : ℕ) (found vs : List A) (s m e : At) (v : A) → X.read s ≡ Ok (v, m) → AreRead X n (found ++ v ∷ []) vs m e → AreRead X (suc n) found vs s e
one_read X n found vs s m e v h r = record {
  values = v ∷ r.values;
  all = r.all ∙ append_assoc found (v ∷ []) r.values;
  next = λ k more.
      let many : length (v ∷ r.values) + k ≡ suc (length r.values + k) = omega arith in
      ap (λ n. (counted X n more).read s) many ∙ found_one X (length r.values + k) more s m v h ∙ r.next k (more ++ v ∷ []) ∙ ap (λ ws. (counted X k ws).read e) (append_assoc more (v ∷ []) r.values);
  many = ap suc r.many;
}

more_read : {A : Type 0} (X : NativeGrammar A) (n : ℕ) (found vs : List A) (s e : At) → ((found : List A) (m : At) → (counted X n found).read m ≡ Ok (vs, e) → AreRead X n found vs m e)
    → (r : Result (A × At) NativeError) → X.read s ≡ r → (counted X (suc n) found).read s ≡ Ok (vs, e) → AreRead X (suc n) found vs s e
more_read X n found vs s e rest (Ok (v, m)) is h = one_read X n found vs s m e v is (rest (found ++ v ∷ []) m (sym (found_one X n found s m v is) ∙ h))
more_read X n found vs s e rest (Err f) is h = let g = refused_one X n found s f is in absurd cc

pub so_many_read : {A : Type 0} (X : NativeGrammar A) (n : ℕ) (found vs : List A) (s e : At) → (counted X n found).read s ≡ Ok (vs, e) → AreRead X n found vs s e
so_many_read X zero found vs s e h = none_read X found vs s e h
so_many_read X (suc n) found vs s e h = more_read X n found vs s e (λ found m. so_many_read X n found vs m e) (X.read s) refl h

-- ---- refusals

none_refused : {A : Type 0} (X : NativeGrammar A) (found : List A) (s : At) (f : NativeError) → (counted X zero found).read s ≡ Err f → ⊥
unfolding counted
none_refused X found s f h = absurd cc

some_refused : {A : Type 0} (X : NativeGrammar A) (n k : ℕ) (found others : List A) (s : At) (f : NativeError) → ((found others : List A) (m : At) → (counted X n found).read m ≡ Err f → (counted X (n + k) others).read m ≡ Err f)
    → (r : Result (A × At) NativeError) → X.read s ≡ r → (counted X (suc n) found).read s ≡ Err f → (counted X (suc (n + k)) others).read s ≡ Err f
some_refused X n k found others s f rest (Ok (v, m)) is h = found_one X (n + k) others s m v is ∙ rest (found ++ v ∷ []) (others ++ v ∷ []) m (sym (found_one X n found s m v is) ∙ h)
some_refused X n k found others s f rest (Err g) is h = refused_one X (n + k) others s g is ∙ sym (refused_one X n found s g is) ∙ h

-- where so many are refused, more are too, whatever is found before
pub more_refused : {A : Type 0} (X : NativeGrammar A) (n k : ℕ) (found others : List A) (s : At) (f : NativeError) → (counted X n found).read s ≡ Err f → (counted X (n + k) others).read s ≡ Err f
more_refused X zero k found others s f h = absurd (none_refused X found s f h)
more_refused X (suc n) k found others s f h =
    let many : suc n + k ≡ suc (n + k) = omega arith in
    ap (λ m. (counted X m others).read s) many ∙ some_refused X n k found others s f (λ found others m. more_refused X n k found others m f) (X.read s) refl h

-- ---- the first of more values

-- what is left is read behind them
pub first_read : {A : Type 0} (X : NativeGrammar A) (n count : ℕ) (none found vs all : List A) (s e : At) → none ≡ [] → count ≤ n → (counted X count none).read s ≡ Ok (vs, e) → all ≡ found ++ vs → (counted X n found).read s ≡ (counted X (n - count) all).read e
first_read X n count none found vs all s e empty few h is =
    let r = so_many_read X count none vs s e h in
    let same : r.values ≡ vs = sym (r.all ∙ ap (λ ws. ws ++ r.values) empty) in
    let many = r.many in
    let enough : length r.values ≤ n = omega (arith, many, few) in
    some_more X r.values found s e n r.next enough
    ∙ ap (λ k. (counted X k (found ++ r.values)).read e) (ap (λ k. n - k) many)
    ∙ ap (λ ws. (counted X (n - count) ws).read e) (ap (λ ws. found ++ ws) same ∙ sym is)

-- or they are refused, and so is the whole
pub first_refused : {A : Type 0} (X : NativeGrammar A) (n count : ℕ) (none found more : List A) (s new : At) (r : Result ℕ NativeFail) (e y : NativeFail) → r ≡ Err y → y ≡ e → count ≤ n → Fails ((counted X count none).read s) e → Goes X n found s r more new
first_refused X n count none found more s new r e y p q few h =
    let failed : NativeFail → Result ℕ NativeFail = λ e. Err e in
    let many : n ≡ count + (n - count) = omega (arith, few) in
    let too : (f : NativeError) → (counted X count none).read s ≡ Err f → (counted X n found).read s ≡ Err f = λ f g. ap (λ k. (counted X k found).read s) many ∙ more_refused X count (n - count) none found s f g in
    subst (λ (r : Result ℕ NativeFail). Goes X n found s r more new) (sym (p ∙ ap failed q)) (passes ((counted X count none).read s) ((counted X n found).read s) too e h)

-- a number within its bounds
pub within_bounds : (low high : ℤ) (s e : At) (n : Number) → number.read s ≡ Ok (n, e) → bounds_fault low high n ≡ None → (bounded low high).read s ≡ Ok (n.value, e)
unfolding bounded
within_bounds low high s e n h g =
    ap (λ r. and_then r (λ (n : Number) m. and_then ((unless (bounds_fault low high n)).read m) (λ _ m. Ok (n.value, m)))) h
    ∙ ap (λ o. and_then ((unless o).read e) (λ _ m. Ok (n.value, m))) g

pub refused_here : {A : Type 0} (X : NativeGrammar A) (n : ℕ) (found more : List A) (s new : At) (r : Result ℕ NativeFail) (e y : NativeFail) → r ≡ Err y → y ≡ e → Fails (X.read s) e → Goes X (suc n) found s r more new
refused_here X n found more s new r e y p q h =
    let failed : NativeFail → Result ℕ NativeFail = λ e. Err e in
    subst (λ (r : Result ℕ NativeFail). Goes X (suc n) found s r more new) (sym (p ∙ ap failed q)) (passes (X.read s) ((counted X (suc n) found).read s) (refused_one X n found s) e h)
