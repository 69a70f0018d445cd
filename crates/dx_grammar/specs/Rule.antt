-- Rules: which tokens stand for which values, and which are refused with a fault of their own.
use Rattle.std.specs.Prelude.{◌≡◌, List, [], ◌∷◌, ◌++◌, ◌⊎◌, Option, Some, None}

-- `is ts a`: the tokens ts stand for a.
-- `forbids ts f`: a text that goes on with ts is refused with f as soon as these are read, whatever follows.
-- Anything else is a plain fault at the first token that doesn't fit, and no rule says so.
pub record Rule (T F A : Type 0) : Type 1 where
  pub is : List T → A → Type 0
  pub forbids : List T → F → Type 0

-- no tokens, and this value
abbrev pub nothing : {T F A : Type 0} → A → Rule T F A
nothing a = record { is = λ ts b. (ts ≡ []) × (a ≡ b); forbids = λ ts f. ⊥ }

-- in this place the text is refused so
abbrev pub refused : {T F A : Type 0} → F → Rule T F A
refused f = record { is = λ ts a. ⊥; forbids = λ ts g. (ts ≡ []) × (f ≡ g) }

-- one token of a class, and its value
abbrev pub one : {T F A : Type 0} → (T → Option A) → Rule T F A
one {T} {F} {A} class = record { is = λ ts a. (t : T) × (ts ≡ t ∷ []) × (class t ≡ Some a); forbids = λ ts f. ⊥ }

-- one after the other
infixl 10 ◌>>=◌
abbrev pub ◌>>=◌ : {T F A B : Type 0} → Rule T F A → (A → Rule T F B) → Rule T F B
◌>>=◌ {T} {F} {A} {B} X Y = record {
  is = λ ts b. (x : List T) × (y : List T) × (a : A) × (ts ≡ x ++ y) × X.is x a × (Y a).is y b;
  forbids = λ ts f. X.forbids ts f ⊎ ((x : List T) × (y : List T) × (a : A) × (ts ≡ x ++ y) × X.is x a × (Y a).forbids y f);
}

infixl 10 ◌>>◌
abbrev pub ◌>>◌ : {T F A B : Type 0} → Rule T F A → Rule T F B → Rule T F B
X >> Y = X >>= (λ _. Y)

-- either
infixr 9 ◌∣◌
abbrev pub ◌∣◌ : {T F A : Type 0} → Rule T F A → Rule T F A → Rule T F A
X ∣ Y = record { is = λ ts a. X.is ts a ⊎ Y.is ts a; forbids = λ ts f. X.forbids ts f ⊎ Y.forbids ts f }

-- the value, unless it has a fault
abbrev pub unless : {T F A : Type 0} → Option F → A → Rule T F A
unless None a = nothing a
unless (Some f) a = refused f

-- at the end of a list
abbrev pub snoc : {A : Type 0} → List A → A → List A
snoc found a = found ++ a ∷ []

-- what is found, with these added to it one after the other
abbrev pub with_all : {A S : Type 0} → (S → A → S) → S → List A → S
with_all add found [] = found
with_all add found (a ∷ new) = with_all add (add found a) new

-- one after the other; each may depend on what is found before it
abbrev pub Run : {T F A S : Type 0} → (S → Rule T F A) → (S → A → S) → S → List T → List A → Type 0
Run {T} X add found ts [] = ts ≡ []
Run {T} X add found ts (a ∷ new) = (x : List T) × (y : List T) × (ts ≡ x ++ y) × (X found).is x a × Run X add (add found a) y new

-- any number more
abbrev pub more : {T F A S : Type 0} → (S → Rule T F A) → (S → A → S) → S → Rule T F S
more {T} {F} {A} {S} X add found = record {
  is = λ ts all. (new : List A) × (with_all add found new ≡ all) × Run X add found ts new;
  forbids = λ ts f. (new : List A) × (x : List T) × (y : List T) × (ts ≡ x ++ y) × Run X add found x new × (X (with_all add found new)).forbids y f;
}

-- any number; each may depend on those before it
abbrev pub many : {T F A : Type 0} → (List A → Rule T F A) → Rule T F (List A)
many X = more X snoc []

-- the tokens are a beginning of one, or of one that is refused by name
abbrev pub Begins : {T F A : Type 0} → Rule T F A → List T → Type 0
Begins {T} {F} {A} X front = ((rest : List T) × (a : A) × X.is (front ++ rest) a) ⊎ ((rest : List T) × (f : F) × X.forbids (front ++ rest) f)
