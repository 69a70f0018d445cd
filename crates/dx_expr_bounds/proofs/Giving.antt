-- What holds of all that a rule gives.
use Rattle.std.proofs.Common.{◌≡◌, List, [], ◌∷◌, ◌⊎◌, inl, inr, subst}
use Rattle.dx_grammar.specs.Rule.{Rule, nothing, ◌>>=◌, ◌>>◌, ◌∣◌, Run, with_all, more}

pub record Gives {T F A : Type 0} (Q : A → Type 0) (X : Rule T F A) : Type 0 where
  pub only : (ts : List T) (a : A) → X.is ts a → Q a

abbrev pub Any : {A : Type 0} → A → Type 0
Any a = Unit {0}

pub gives_any : {T F A : Type 0} {X : Rule T F A} → Gives Any X
gives_any = record { only = λ ts a h. tt }

pub gives_nothing : {T F A : Type 0} {Q : A → Type 0} (a : A) → Q a → Gives {T = T} {F = F} Q (nothing a)
gives_nothing {T} {F} {A} {Q} a q = record { only = λ ts b h. subst Q h.1 q }

pub gives_then : {T F A B : Type 0} {P : A → Type 0} {Q : B → Type 0} {X : Rule T F A} {Y : A → Rule T F B} → Gives P X → ((a : A) → P a → Gives Q (Y a)) → Gives Q (X >>= Y)
gives_then first later = record { only = λ ts b h. (later h.2 (first.only h.0 h.2 h.4)).only h.1 b h.5 }

pub gives_behind : {T F A B : Type 0} {Q : B → Type 0} {X : Rule T F A} {Y : Rule T F B} → Gives Q Y → Gives Q (X >> Y)
gives_behind later = record { only = λ ts b h. later.only h.1 b h.5 }

pub gives_either : {T F A : Type 0} {Q : A → Type 0} {X Y : Rule T F A} → Gives Q X → Gives Q Y → Gives Q (X ∣ Y)
gives_either {T} {F} {A} {Q} {X} {Y} one other = record { only = λ ts a h. by ts a h }
  where
    by : (ts : List T) (a : A) → X.is ts a ⊎ Y.is ts a → Q a
    by ts a (inl h) = one.only ts a h
    by ts a (inr h) = other.only ts a h

module _ {T F A S : Type 0} (P : S → Type 0) (R : A → Type 0) (X : S → Rule T F A) (add : S → A → S) (each : (found : S) → P found → Gives (λ a. P (add found a)) (X found)) where
  run_gives : (new : List A) (found : S) (ts : List T) → P found → Run X add found ts new → P (with_all add found new)
  run_gives [] found ts p h = p
  run_gives (a ∷ new) found ts p h = run_gives new (add found a) h.1 ((each found p).only h.0 a h.3) h.4

  pub gives_more : (found : S) → P found → Gives P (more X add found)
  gives_more found p = record { only = λ ts all h. subst P h.1 (run_gives h.0 found ts p h.2) }
