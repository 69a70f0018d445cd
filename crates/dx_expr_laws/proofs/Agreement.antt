-- Parsers that agree on short streams: what each way to make a parser keeps of that.
use Rattle.std.proofs.Common.{◌≡◌, ℕ, zero, suc, ◌<◌, ◌≤◌, Bool, cond, ◌++◌, length, Ok, Err, refl, ap, ◌∙◌, length-append, arith}
use Rattle.dx_grammar.specs.Stream.{Stream, Outcome, Parser, and_then, ◌>>=◌, choose, turns, while}
use Rattle.dx_grammar.specs.Rule.{Rule}
use Rattle.dx_grammar.proofs.Read.{Reads}
use Rattle.dx_grammar.proofs.Many.{Shrinks}

-- they answer the same on streams of fewer tokens than n
pub record Agree {T F A : Type 0} (n : ℕ) (P Q : Stream T F → Outcome T F A) : Type 0 where
  pub same : (s : Stream T F) → length s.tokens < n → P s ≡ Q s

-- what a parser leaves is no longer
pub record Keeps {T F A : Type 0} (P : Stream T F → Outcome T F A) : Type 0 where
  pub within : (s : Stream T F) (a : A) (s' : Stream T F) → P s ≡ Ok (a, s') → length s'.tokens ≤ length s.tokens

pub keeps : {T F A : Type 0} {misfit : T → F} {X : Rule T F A} {P : Parser T F A} {Stop : Stream T F → Type 0} → Reads misfit X P Stop → Keeps P
keeps reads = record {
  within = λ s a s' e.
      let t = reads.took s a s' e in
      let parts : s.tokens ≡ t.front ++ s'.tokens = ap (λ (x : Stream _ _). x.tokens) t.parts in
      omega (arith, ap length parts, length-append t.front s'.tokens);
}

pub agree_less : {T F A : Type 0} {n : ℕ} {P Q : Parser T F A} → Agree (suc n) P Q → Agree n P Q
agree_less h = record { same = λ s short. h.same s (omega arith) }

pub agree_refl : {T F A : Type 0} {n : ℕ} {P : Parser T F A} → Agree n P P
agree_refl = record { same = λ s short. refl }

by_outcome : {T F A B : Type 0} (n : ℕ) (f g : A → Parser T F B) (r : Outcome T F A) → ((a : A) (s' : Stream T F) → r ≡ Ok (a, s') → length s'.tokens < n) → ((a : A) → Agree n (f a) (g a)) → and_then r f ≡ and_then r g
by_outcome n f g (Ok (a, s')) short later = (later a).same s' (short a s' refl)
by_outcome n f g (Err d) short later = refl

-- one after the other
pub agree_then : {T F A B : Type 0} {n : ℕ} {P Q : Parser T F A} {f g : A → Parser T F B} → Keeps P → Agree n P Q → ((a : A) → Agree n (f a) (g a)) → Agree n (P >>= f) (Q >>= g)
agree_then {T} {F} {A} {B} {n} {P} {Q} {f} {g} keep first later = record {
  same = λ s short. by_outcome n f g (P s) (λ a s' e. let h = keep.within s a s' e in omega arith) later ∙ ap (λ r. and_then r g) (first.same s short);
}

-- behind a token
pub agree_behind : {T F A B : Type 0} {n : ℕ} {P : Parser T F A} {f g : A → Parser T F B} → Shrinks P → ((a : A) → Agree n (f a) (g a)) → Agree (suc n) (P >>= f) (P >>= g)
agree_behind {T} {F} {A} {B} {n} {P} {f} {g} less later = record {
  same = λ s short. by_outcome n f g (P s) (λ a s' e. let h = less s a s' e in omega arith) later;
}

pub agree_choose : {T F A : Type 0} {n : ℕ} (look : Stream T F → Bool) {P Q R S : Parser T F A} → Agree n P Q → Agree n R S → Agree n (choose look P R) (choose look Q S)
agree_choose {T} {F} {A} {n} look {P} {Q} {R} {S} p r = record { same = λ s short. ap (λ x. cond (look s) x (R s)) (p.same s short) ∙ ap (λ x. cond (look s) (Q s) x) (r.same s short) }

-- a loop
module _ {T F A S : Type 0} (n : ℕ) (look : Stream T F → Bool) (P Q : S → Parser T F A) (add : S → A → S) (keep : (found : S) → Keeps (P found)) (each : (found : S) → Agree n (P found) (Q found)) where
  turns_agree : (k : ℕ) (found : S) → Agree n (turns look P add k found) (turns look Q add k found)
  unfolding turns
  turns_agree zero found = record { same = λ s short. refl }
  turns_agree (suc k) found = record {
    same = λ s short.
        ap (λ r. cond (look s) r (Ok (found, s)))
        (by_outcome n (λ a. turns look P add k (add found a)) (λ a. turns look Q add k (add found a)) (P found s) (λ a s' e. let h = (keep found).within s a s' e in omega arith) (λ a. turns_agree k (add found a))
        ∙ ap (λ r. and_then r (λ a. turns look Q add k (add found a))) ((each found).same s short));
  }

  while_agree : (found : S) → Agree n (while look P add found) (while look Q add found)
  unfolding while
  while_agree found = record { same = λ s short. (turns_agree (suc (length s.tokens)) found).same s short }

pub agree_while : {T F A S : Type 0} {n : ℕ} (look : Stream T F → Bool) {P Q : S → Parser T F A} (add : S → A → S) → ((found : S) → Keeps (P found)) → ((found : S) → Agree n (P found) (Q found)) → (found : S) → Agree n (while look P add found) (while look Q add found)
agree_while {T} {F} {A} {S} {n} look {P} {Q} add keep each found = while_agree n look P Q add keep each found
