-- What a parser reads from, and the steps of which a parser's reading function is made.
use Rattle.std.specs.Prelude.{ℕ, zero, suc, Bool, false, cond, List, [], ◌∷◌, length, Option, Some, None, Result, Ok, Err}

-- the tokens of a text, the fault where they run out, and whether the text ends there
pub record Stream (T F : Type 0) : Type 0 where
  pub tokens : List T
  pub stop : F
  pub whole : Bool

-- a value, or a fault, and what is left at it
abbrev pub Outcome : Type 0 → Type 0 → Type 0 → Type 0
Outcome T F A = Result (A × Stream T F) (F × Stream T F)

abbrev pub Parser : Type 0 → Type 0 → Type 0 → Type 0
Parser T F A = Stream T F → Outcome T F A

abbrev pub and_then : {T F A B : Type 0} → Outcome T F A → (A → Parser T F B) → Outcome T F B
and_then (Ok p) f = f p.0 p.1
and_then (Err e) f = Err e

infixl 10 ◌>>=◌
abbrev pub ◌>>=◌ : {T F A B : Type 0} → Parser T F A → (A → Parser T F B) → Parser T F B
p >>= f = λ s. and_then (p s) f

infixl 10 ◌>>◌
abbrev pub ◌>>◌ : {T F A B : Type 0} → Parser T F A → Parser T F B → Parser T F B
p >> q = p >>= (λ _. q)

abbrev pub pure : {T F A : Type 0} → A → Parser T F A
pure a = λ s. Ok (a, s)

-- refuses with this fault, whatever comes next
abbrev pub fail : {T F A : Type 0} → F → Parser T F A
fail f = λ s. Err (f, s)

-- the value, unless it has a fault
abbrev pub passes : {T F A : Type 0} → Option F → A → Parser T F A
passes None a = pure a
passes (Some f) a = fail f

-- the stream after its first token
abbrev pub advanced : {T F : Type 0} → List T → Stream T F → Stream T F
advanced rest s = record s { tokens = rest }

-- one token of a class, and its value; else the token's fault
abbrev pub taken : {T F A : Type 0} → (T → F) → Option A → T → List T → Parser T F A
taken misfit (Some a) t rest s = Ok (a, advanced rest s)
taken misfit None t rest s = Err (misfit t, s)

abbrev pub one_from : {T F A : Type 0} → (T → F) → (T → Option A) → List T → Parser T F A
one_from misfit class [] s = Err (s.stop, s)
one_from misfit class (t ∷ rest) s = taken misfit (class t) t rest s

abbrev pub one : {T F A : Type 0} → (T → F) → (T → Option A) → Parser T F A
one misfit class s = one_from misfit class s.tokens s

-- a choice by what comes next
abbrev pub choose : {T F A : Type 0} → (Stream T F → Bool) → Parser T F A → Parser T F A → Parser T F A
choose look p q = λ s. cond (look s) (p s) (q s)

-- as long as `look` says so, one more, added to what is found
unfoldable pub turns : {T F A S : Type 0} → (Stream T F → Bool) → (S → Parser T F A) → (S → A → S) → ℕ → S → Parser T F S
turns look p add zero found s = Err (s.stop, s)
turns look p add (suc n) found s = cond (look s) (and_then (p found s) (λ a. turns look p add n (add found a))) (Ok (found, s))

-- each turn takes a token, so these are enough
unfoldable pub while : {T F A S : Type 0} → (Stream T F → Bool) → (S → Parser T F A) → (S → A → S) → S → Parser T F S
while look p add found s = turns look p add (suc (length s.tokens)) found s

-- what the next token is like; at the end it is like nothing
abbrev pub looks_from : {T : Type 0} → (T → Bool) → List T → Bool
looks_from like [] = false
looks_from like (t ∷ rest) = like t

abbrev pub looks : {T F : Type 0} → (T → Bool) → Stream T F → Bool
looks like s = looks_from like s.tokens

-- the fault of the next token, or of the end
abbrev pub own_from : {T F : Type 0} → (T → F) → List T → F → F
own_from misfit [] stop = stop
own_from misfit (t ∷ rest) stop = misfit t

abbrev pub own : {T F : Type 0} → (T → F) → Stream T F → F
own misfit s = own_from misfit s.tokens s.stop

-- the whole text is one
abbrev pub end_from : {T F : Type 0} → (T → F) → List T → Parser T F (Unit {0})
end_from misfit [] s = cond s.whole (Ok (tt, s)) (Err (s.stop, s))
end_from misfit (t ∷ rest) s = Err (misfit t, s)

abbrev pub end : {T F : Type 0} → (T → F) → Parser T F (Unit {0})
end misfit s = end_from misfit s.tokens s

abbrev pub text : {T F A : Type 0} → (T → F) → Parser T F A → Parser T F A
text misfit p = p >>= λ a. end misfit >> pure a
