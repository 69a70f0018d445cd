-- What holds of all that a rule reads of tokens of a text that isn't too long: a law for each way to make a rule.
use Rattle.std.proofs.Common.{◌≡◌, ℕ, ◌+◌, ◌≤◌, List, [], ◌∷◌, ◌++◌, inl, inr, Option, Some, None, refl, ap, subst, ◌∙◌, arith}
use Rattle.dx_base.specs.declared.token.Lexeme.{Lexeme}
use Rattle.dx_base.specs.declared.token.SyntaxError.{SyntaxError}
use Rattle.dx_grammar.specs.Rule.{nothing, one, unless, more, with_all, Run, ◌∣◌, ◌>>=◌}
use Rattle.dx_ast.specs.Grammar.{Rule}
use Rattle.dx_script_laws.proofs.Sizes.{text_bytes, weight, weight-append, AreSmall, small_front, small_back}

-- ---- facts about values

pub record Gives {A : Type 0} (X : Rule A) (Good : A → Type 0) : Type 0 where
  pub is : (ts : List Lexeme) (a : A) → X.is ts a → AreSmall ts → Good a

pub anything : {A : Type 0} {X : Rule A} → Gives X (λ a. Unit {0})
anything = record { is = λ ts a d small. tt }

pub value : {A : Type 0} {a : A} {Good : A → Type 0} → Good a → Gives (nothing a) Good
value {A} {a} {Good} good = record { is = λ ts b d small. subst Good d.1 good }

pub checked : {A : Type 0} (fault : Option SyntaxError) (a : A) {Good : A → Type 0} → (fault ≡ None → Good a) → Gives (unless fault a) Good
checked None a good = value (good refl)
checked (Some f) a good = record { is = λ ts b d small. elim d [ ] }

pub of_class : {A : Type 0} (class : Lexeme → Option A) {Good : A → Type 0} → ((t : Lexeme) (a : A) → class t ≡ Some a → AreSmall (t ∷ []) → Good a) → Gives (one class) Good
of_class class good = record { is = λ ts a d small. good d.0 a d.2 (subst AreSmall d.1 small) }

pub followed : {A B : Type 0} {X : Rule A} {Y : A → Rule B} {Good : A → Type 0} {Best : B → Type 0} → Gives X Good → ((a : A) → Good a → Gives (Y a) Best) → Gives (X >>= Y) Best
followed {A} {B} {X} {Y} {Good} {Best} x y = record { is = λ ts b d small. by ts b d small }
  where
    by : (ts : List Lexeme) (b : B) → (X >>= Y).is ts b → AreSmall ts → Best b
    by ts b (front, back, a, e, d, h) small =
        let all : AreSmall (front ++ back) = subst AreSmall e small in
        (y a (x.is front a d (small_front front back all))).is back b h (small_back front back all)

-- what is read first doesn't matter
pub past : {A B : Type 0} {X : Rule A} {Y : A → Rule B} {Best : B → Type 0} → ((a : A) → Gives (Y a) Best) → Gives (X >>= Y) Best
past y = followed {Good = λ a. Unit {0}} anything (λ a _. y a)

pub either : {A : Type 0} {X Y : Rule A} {Good : A → Type 0} → Gives X Good → Gives Y Good → Gives (X ∣ Y) Good
either {A} {X} {Y} {Good} x y = record { is = λ ts a d small. by ts a d small }
  where
    by : (ts : List Lexeme) (a : A) → (X ∣ Y).is ts a → AreSmall ts → Good a
    by ts a (inl d) small = x.is ts a d small
    by ts a (inr d) small = y.is ts a d small

-- what holds of what is found at first, and is kept by each item, holds at the end
pub repeated : {A S : Type 0} {X : S → Rule A} {add : S → A → S} {Good : S → Type 0} {Each : S → A → Type 0} → ((found : S) → Good found → Gives (X found) (Each found))
    → ((found : S) (a : A) → Good found → Each found a → Good (add found a)) → (found : S) → Good found → Gives (more X add found) Good
repeated {A} {S} {X} {add} {Good} {Each} item keep found good = record { is = λ ts all d small. subst Good d.1 (by d.0 found good ts d.2 small) }
  where
    by : (new : List A) (found : S) → Good found → (ts : List Lexeme) → Run X add found ts new → AreSmall ts → Good (with_all add found new)
    by [] found good ts run small = good
    by (a ∷ new) found good ts (front, back, e, d, run) small =
        let all : AreSmall (front ++ back) = subst AreSmall e small in
        by new (add found a) (keep found a good ((item found good).is front a d (small_front front back all))) back run (small_back front back all)

pub weaker : {A : Type 0} {X : Rule A} {Good Weak : A → Type 0} → ((a : A) → Good a → Weak a) → Gives X Good → Gives X Weak
weaker sub x = record { is = λ ts a d small. sub a (x.is ts a d small) }

-- ---- how many bytes of strings a value has, beside so many from before

pub record Adds {A : Type 0} (X : Rule A) (base : ℕ) (bytes : A → ℕ) : Type 0 where
  pub is : (ts : List Lexeme) (a : A) → X.is ts a → bytes a ≤ base + weight ts

pub adds_value : {A : Type 0} {a : A} {base : ℕ} {bytes : A → ℕ} → bytes a ≤ base → Adds (nothing a) base bytes
adds_value {A} {a} {base} {bytes} le = record { is = λ ts b d. let e : bytes a ≡ bytes b = ap bytes d.1 in omega arith }

pub adds_checked : {A : Type 0} (fault : Option SyntaxError) (a : A) {base : ℕ} {bytes : A → ℕ} → bytes a ≤ base → Adds (unless fault a) base bytes
adds_checked None a le = adds_value le
adds_checked (Some f) a le = record { is = λ ts b d. elim d [ ] }

pub adds_class : {A : Type 0} (class : Lexeme → Option A) {base : ℕ} {bytes : A → ℕ} → ((t : Lexeme) (a : A) → class t ≡ Some a → bytes a ≤ base + text_bytes t.kind) → Adds (one class) base bytes
adds_class class {base} {bytes} le = record { is = λ ts a d. let e : weight ts ≡ text_bytes (d.0).kind + 0 = ap weight d.1 in let h = le d.0 a d.2 in omega arith }

pub adds_followed : {A B : Type 0} {X : Rule A} {Y : A → Rule B} {base : ℕ} {first : A → ℕ} {bytes : B → ℕ} → Adds X base first → ((a : A) → Adds (Y a) (first a) bytes) → Adds (X >>= Y) base bytes
adds_followed {A} {B} {X} {Y} {base} {first} {bytes} x y = record { is = λ ts b d. by ts b d }
  where
    by : (ts : List Lexeme) (b : B) → (X >>= Y).is ts b → bytes b ≤ base + weight ts
    by ts b (front, back, a, e, d, h) =
        let all : weight ts ≡ weight front + weight back = ap weight e ∙ weight-append front back in
        let one = x.is front a d in
        let two = (y a).is back b h in
        omega arith

pub no_bytes : {A : Type 0} {X : Rule A} → Adds X 0 (λ a. 0)
no_bytes = record { is = λ ts a d. omega arith }

-- what is read first has none
pub adds_past : {A B : Type 0} {X : Rule A} {Y : A → Rule B} {bytes : B → ℕ} → ((a : A) → Adds (Y a) 0 bytes) → Adds (X >>= Y) 0 bytes
adds_past y = adds_followed {first = λ a. 0} no_bytes y

pub adds_either : {A : Type 0} {X Y : Rule A} {base : ℕ} {bytes : A → ℕ} → Adds X base bytes → Adds Y base bytes → Adds (X ∣ Y) base bytes
adds_either {A} {X} {Y} {base} {bytes} x y = record { is = λ ts a d. by ts a d }
  where
    by : (ts : List Lexeme) (a : A) → (X ∣ Y).is ts a → bytes a ≤ base + weight ts
    by ts a (inl d) = x.is ts a d
    by ts a (inr d) = y.is ts a d

pub adds_repeated : {A S : Type 0} {X : S → Rule A} {add : S → A → S} {item : A → ℕ} {bytes : S → ℕ} → ((found : S) → Adds (X found) 0 item) → ((found : S) (a : A) → bytes (add found a) ≤ bytes found + item a)
    → (found : S) → Adds (more X add found) (bytes found) bytes
adds_repeated {A} {S} {X} {add} {item} {bytes} each more_bytes found = record { is = λ ts all d. subst (λ (s : S). bytes s ≤ bytes found + weight ts) d.1 (by d.0 found ts d.2) }
  where
    by : (new : List A) (found : S) (ts : List Lexeme) → Run X add found ts new → bytes (with_all add found new) ≤ bytes found + weight ts
    by [] found ts run = omega arith
    by (a ∷ new) found ts (front, back, e, d, run) =
        let all : weight ts ≡ weight front + weight back = ap weight e ∙ weight-append front back in
        let one = (each found).is front a d in
        let two = more_bytes found a in
        let rest = by new (add found a) back run in
        omega arith
